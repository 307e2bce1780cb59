use Rattle.std.proofs.Common.{refl, sym, ◌∙◌}
use Rattle.lu_spec_machine.specs.Tree.{same_life}
use Rattle.lu_judge_silent.proofs.Moves.{learns}
use Rattle.lu_judge_silent.proofs.known.Known.learn.Goals as goal

pub returns-in_ok-set-in-Some-question-clause-moves : goal.returns-in_ok-set-in-Some-question-clause-moves
returns-in_ok-set-in-Some-question-clause-moves c = λ w. record {
  disturbed = refl;
  rebound = λ h. refl;
  standing = λ s. refl;
  told = λ q.
      learns (same_life c.args.who w) _ q c.in-Some-question.asked _ c.in-Some.call.now c.args.self.now.clock _ _
      (sym c.is_error.ensures ∙ c.if-is_error.false)
      c.in-Some.ensures c.in-Some-question.ensures.some (c.in_ok-set-in-Some-question.ensures.set (w, q));
}
