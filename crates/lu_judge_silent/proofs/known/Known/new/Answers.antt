use Rattle.std.proofs.Common.{refl}
use Rattle.lu_judge_silent.proofs.Lives.{none_yet}
use Rattle.lu_judge_silent.proofs.known.Known.new.Goals as goal

pub returns : goal.returns
returns c = record {
  shows = record {
    clock = refl;
    ups = c.new-5.ensures.shows;
    lives = λ w. none_yet _ w (c.new.ensures.never w) (λ h. c.new-2.ensures.never (w, h)) (λ s. rw c.new-3.ensures.empty refl)
        (λ q. c.new-4.ensures.never (w, q));
  };
}
