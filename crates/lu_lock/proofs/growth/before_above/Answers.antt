-- Each lock takes its part; and no bound lies inside.
use Rattle.std.proofs.Common.{◌≡◌, take, arith}
use Rattle.lu_lock.specs.Growth.{opposing, before_above}
use Rattle.lu_lock.proofs.GrowthLaws.{before_above_step, before_above_within}
use Rattle.lu_lock.proofs.growth.before_above.Goals as goal

pub loop-lock-preserved : goal.loop-lock-preserved
loop-lock-preserved c =
    before_above_step c.args.offset c.args.mode c.args.locks.now c.loop-lock.lock-index _ c.loop-lock.last c.before_one.result
    c.min-last.result c.loop-lock-test.true c.loop-lock.invariant c.before_one.ensures c.min-last.ensures

pub returns-clause-within : goal.returns-clause-within
returns-clause-within c =
    let seen = opposing c.args.mode (take c.loop-lock.lock-index c.args.locks.now) in
    let so_far : c.loop-lock.last ≡ before_above c.args.offset seen = c.loop-lock.invariant in
    rw so_far (before_above_within c.args.offset seen (omega arith))
