-- The locks stand, and nothing else.
use Rattle.std.proofs.Common.{List, sym, ap, subst}
use Rattle.lu_callback.specs.declared.callbacks.Asked.{Asked}
use Rattle.lu_callback.specs.Callbacks.{IsSound}
use Rattle.lu_lockspace.specs.Spaces.{empty}
use Rattle.lu_target_refines.specs.Locks.{AreRestored}
use Rattle.lu_target_locks.specs.Servers.{ServerState, ShowsCounts}
use Rattle.lu_target_locks.proofs.Stands.{stand_shown}
use Rattle.lu_target_locks.proofs.server.LockServer.restore.Goals as goal

pub returns-clause-shows : goal.returns-clause-shows
returns-clause-shows c =
    let it = c.self.inside in
    let old : ServerState = record { space = it.space; asked = it.calls; boot = it.boot; count = it.count; ticks = it.ticks } in
    let new : ServerState = record { space = c.in_ok-space.space; asked = c.new.result; boot = it.boot; count = it.count; ticks = it.ticks }
    in
    λ v w counts again.
    stand_shown c.in_ok-space.space c.args.locks.now old new v w (subst (λ (s : ServerState). ShowsCounts s v) (sym c.self.view_is) counts)
    again
    (subst (λ locks. AreRestored locks empty c.in_ok-space.space) c.as_slice.ensures.same c.in_ok-space.ensures.restored)
    c.in_ok-space.ensures.lawful (subst IsSound c.new.ensures.empty c.new.ensures.sound)
    (ap (λ (asked : List Asked). record { space = c.in_ok-space.space; asked = asked; boot = it.boot; count = it.count; ticks = it.ticks })
    c.new.ensures.empty)
