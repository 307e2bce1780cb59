-- Each lock takes its part; and no bound lies inside.
use Rattle.std.proofs.Common.{◌≡◌, take}
use Rattle.lu_lock.specs.Growth.{opposing, past_below}
use Rattle.lu_lock.proofs.GrowthLaws.{past_below_step, past_below_within}
use Rattle.lu_lock.proofs.growth.past_below.Goals as goal

pub loop-lock-preserved : goal.loop-lock-preserved
loop-lock-preserved c =
    past_below_step c.args.offset c.args.mode c.args.locks.now c.loop-lock.lock-index _ c.loop-lock.first c.past_one.result
    c.max-first.result c.loop-lock-test.true c.loop-lock.invariant c.past_one.ensures c.max-first.ensures

pub returns-clause-within : goal.returns-clause-within
returns-clause-within c =
    let seen = opposing c.args.mode (take c.loop-lock.lock-index c.args.locks.now) in
    let so_far : c.loop-lock.first ≡ past_below c.args.offset seen = c.loop-lock.invariant in
    rw so_far (past_below_within c.args.offset seen)
