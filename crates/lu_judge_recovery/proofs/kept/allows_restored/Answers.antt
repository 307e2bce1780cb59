use Rattle.std.proofs.Common.{true, refl}
use Rattle.std.specs.Prelude.{Some, None}
use Rattle.lu_judge_recovery.specs.Turns.{turn_at}
use Rattle.lu_judge_recovery.proofs.Judging.{restored_line}
use Rattle.lu_judge_recovery.proofs.kept.allows_restored.Goals as goal

pub returns-in-Some : goal.returns-in-Some
returns-in-Some c = record {
  decided = λ clients past later fits.
      restored_line (Some c.in-Some.closing.now) clients c.args.turn.target (turn_at c.args.turn.stamp c.args.turn.target) past later
      c.args.lock.now c.is_due.result
      (rw c.in-Some.is at fits) c.is_due.ensures.due;
}

pub returns-in-None : goal.returns-in-None
returns-in-None c = record {
  decided = λ clients past later fits.
      restored_line None clients c.args.turn.target (turn_at c.args.turn.stamp c.args.turn.target) past later c.args.lock.now true
      (rw c.in-None.is at fits) (λ yes. tt, λ unit. refl);
}
