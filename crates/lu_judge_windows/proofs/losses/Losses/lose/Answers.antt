use Rattle.std.proofs.Common.{refl, arith}
use Rattle.std.specs.Prelude.{◌==◌}
use Rattle.lu_judge_windows.proofs.LossLines.{lost_so_far}
use Rattle.lu_judge_windows.proofs.losses.Losses.lose.Goals as goal

pub loop-number-preserved : goal.loop-number-preserved
loop-number-preserved c = record {
  lost = λ t n.
      lost_so_far (c.args.target == t) n _ c.args.stamp.0 c.loop-number.number-index c.as_slice-number-items.result.now _ _ _ (omega arith)
      (c.in_ok-insert.ensures.updates.0 (t, n)) (c.loop-number.invariant.lost t n) refl;
  failed = c.loop-number.invariant.failed;
}
