use Rattle.std.proofs.Common.{ℕ, ◌∷◌, sym, subst}
use Rattle.lu_msg.specs.declared.messages.Message.TheVariants.{Word}
use Rattle.lu_judge_windows.specs.Handed.{ShowsHanded}
use Rattle.lu_judge_windows.proofs.handed.Handed.take.Goals as goal

pub returns-in_ok-take_word-in-Word : goal.returns-in_ok-take_word-in-Word
returns-in_ok-take_word-in-Word c = record {
  shows = λ handed shown.
      rw c.in-Word.is
      (subst (λ (k : ℕ). ShowsHanded c.take_word.new.self c.args.boot
      (Word c.in-Word.who k c.in-Word.replays c.in-Word.locks c.in-Word.seen ∷ handed)) (sym c.if-known-boot.false)
      (c.in_ok-take_word-in-Word.ensures.shows c.args.boot handed c.in-Word.seen shown));
}
