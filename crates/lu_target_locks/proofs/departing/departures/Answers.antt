-- One life more.
use Rattle.std.proofs.Common.{◌+◌, take, sym, subst}
use Rattle.lu_target_locks.specs.Leaving.{AreDepartures}
use Rattle.lu_target_locks.proofs.OneMore.{departures_more}
use Rattle.lu_target_locks.proofs.departing.departures.Goals as goal

pub loop-who-preserved : goal.loop-who-preserved
loop-who-preserved c =
    subst (λ ds. AreDepartures c.args.space.now c.args.calls.now c.args.gone.now (take (c.loop-who.who-index + 1) c.args.gone.now) ds)
    (sym c.in_ok-push.ensures.items)
    (departures_more c.args.space.now c.args.calls.now c.args.gone.now c.args.gone.now c.loop-who.who-index _ c.loop-who.departures.items
    c.in_ok-departs.field-0 c.loop-who-test.true
    c.in_ok-departs.ensures.departure c.loop-who.invariant)
