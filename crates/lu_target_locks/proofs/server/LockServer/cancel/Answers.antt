-- The lock is away, and what waited is granted.
use Rattle.std.proofs.Common.{◌≡◌, Some, refl, subst, rules}
use Rattle.lu_spec_target.specs.Objects.{lock_of}
use Rattle.lu_spec_target.specs.States.{Target}
use Rattle.lu_target_locks.specs.declared.server.Released.{Released}
use Rattle.lu_target_locks.specs.Servers.{ServerState, Shows, IsReleased}
use Rattle.lu_target_locks.proofs.Releases.{is_released}
use Rattle.lu_target_locks.proofs.server.LockServer.cancel.Goals as goal

pub returns-clause-released : goal.returns-clause-released
returns-clause-released c =
    let it = c.self.inside in
    let old : ServerState = record { space = it.space; asked = it.calls; boot = it.boot; count = it.count; ticks = it.ticks } in
    let new : ServerState = record {
      space = c.cancel.new.self;
      asked = c.answered.new.self;
      boot = it.boot;
      count = it.count;
      ticks =
          it.ticks;
    } in
    let released : Released = record { lock = c.in-Some.lock; granted = c.in-Ok.granted } in
    let found : (v : Target) → Shows c.args.self.now v → Some c.in-Some.lock ≡ lock_of c.args.who c.args.cookie v.granted = search rules in
    subst (λ (s : ServerState). IsReleased c.args.who c.args.cookie released s new) c.self.view_is
    (is_released c.args.who c.args.cookie c.in-Some.lock c.in-Ok.granted old new
    (λ v s. found v (subst (λ (it : ServerState). Shows it v) c.self.view_is s))
    c.in-Ok.ensures.granted c.in-Ok.ensures.lawful c.answered.ensures.without c.answered.ensures.sound refl refl refl refl)
