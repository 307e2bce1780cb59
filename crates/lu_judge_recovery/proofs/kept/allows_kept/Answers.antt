use Rattle.std.proofs.Common.{true, refl, ◌∙◌, arith}
use Rattle.std.specs.Prelude.{Some, None}
use Rattle.lu_judge_recovery.specs.Turns.{turn_at}
use Rattle.lu_judge_recovery.proofs.Judging.{kept_line, kept_refused}
use Rattle.lu_judge_recovery.proofs.kept.allows_kept.Goals as goal

pub returns-then-number-at : goal.returns-then-number-at
returns-then-number-at c = record {
  decided = λ clients past later settled fits.
      kept_refused c.args.turn.target (turn_at c.args.turn.stamp c.args.turn.target) past later c.args.number.0 c.at.result
      (c.at.ensures.settled ∙ settled c.args.turn.target) (omega arith);
}

pub returns-in-Some : goal.returns-in-Some
returns-in-Some c = record {
  decided = λ clients past later settled fits.
      kept_line (Some c.in-Some.closing.now) clients c.args.turn.target (turn_at c.args.turn.stamp c.args.turn.target) past later
      c.args.number.0 c.at.result c.is_next.result
      (c.at.ensures.settled ∙ settled c.args.turn.target) (omega arith) (rw c.in-Some.is at fits) c.is_next.ensures.next;
}

pub returns-in-None : goal.returns-in-None
returns-in-None c = record {
  decided = λ clients past later settled fits.
      kept_line None clients c.args.turn.target (turn_at c.args.turn.stamp c.args.turn.target) past later c.args.number.0 c.at.result true
      (c.at.ensures.settled ∙ settled c.args.turn.target) (omega arith) (rw c.in-None.is at fits) (λ yes. tt, λ unit. refl);
}
