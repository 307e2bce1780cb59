-- One resource more.
use Rattle.std.proofs.Common.{◌+◌, take, sym, subst}
use Rattle.lu_target_locks.specs.Leaving.{AllHaveGoneOn}
use Rattle.lu_target_locks.proofs.OneMore.{went_more}
use Rattle.lu_target_locks.proofs.departing.all_go_on.Goals as goal

pub loop-resource-preserved : goal.loop-resource-preserved
loop-resource-preserved c =
    let one = c.in_ok-goes_on.ensures.gone in
    subst (λ steps. AllHaveGoneOn c.args.space.now c.args.tick c.args.granted.now
    (take (c.loop-resource.resource-index + 1) c.args.resources.now) c.args.calls.now steps c.goes_on.new.calls) (sym one.1)
    (went_more c.args.space.now c.args.tick c.args.granted.now c.args.resources.now c.loop-resource.resource-index _ c.args.calls.now
    c.loop-resource.calls c.goes_on.new.calls
    c.loop-resource.steps.items one.0 c.loop-resource-test.true c.loop-resource.invariant one.2)
