-- One lock more.
use Rattle.std.proofs.Common.{◌+◌, take, sym, subst}
use Rattle.lu_target_locks.proofs.Stands.{HasStood, quiet, stood_next}
use Rattle.lu_target_locks.proofs.standing.all_stand.Goals as goal

pub stands-requires-clause-quiet : goal.stands-requires-clause-quiet
stands-requires-clause-quiet c =
    quiet (take c.loop-lock.lock-index c.args.locks.now) c.loop-lock.standing.items c.loop-lock.space c.loop-lock.invariant _

pub loop-lock-preserved : goal.loop-lock-preserved
loop-lock-preserved c =
    subst (λ standing. HasStood (take (c.loop-lock.lock-index + 1) c.args.locks.now) standing c.stands.new.space)
    (sym c.in_ok-add_standing.ensures.added)
    (stood_next c.args.locks.now c.loop-lock.lock-index _ c.loop-lock.standing.items c.loop-lock.space c.stands.new.space
    c.in_ok-stands.stands c.loop-lock-test.true c.loop-lock.invariant
    c.in_ok-stands.ensures.stands c.in_ok-stands.ensures.added c.stands.ensures.others c.stands.ensures.lawful)
