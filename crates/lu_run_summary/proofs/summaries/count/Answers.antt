use Rattle.std.proofs.Common.{◌≤◌, arith}
use Rattle.lu_run_summary.proofs.Counts.{counted_few}
use Rattle.lu_run_summary.proofs.summaries.count.Goals as goal

pub overflow_add-count : goal.overflow_add-count
overflow_add-count c =
    let few : c.loop-line.count ≤ c.loop-line.line-index = counted_few c.args.counted c.loop-line.line-index c.loop-line.count
    c.args.lines.now c.loop-line.invariant in
    let below = c.loop-line-test.true in
    omega arith
