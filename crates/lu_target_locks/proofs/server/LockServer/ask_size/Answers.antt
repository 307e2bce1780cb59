-- It is outstanding.
use Rattle.std.proofs.Common.{subst}
use Rattle.lu_target_locks.specs.Servers.{ServerState}
use Rattle.lu_target_locks.specs.Asking.{IsGlimpsed}
use Rattle.lu_target_locks.proofs.Ways.{is_glimpsed}
use Rattle.lu_target_locks.proofs.server.LockServer.ask_size.Goals as goal

pub returns-clause-asked : goal.returns-clause-asked
returns-clause-asked c =
    let it = c.self.inside in
    let old : ServerState = record { space = it.space; asked = it.calls; boot = it.boot; count = it.count; ticks = it.ticks } in
    let new : ServerState = record old { asked = c.ask.new.self } in
    subst (λ (s : ServerState). IsGlimpsed c.args.cookie c.args.who c.args.xid c.in_ok-new.new s new) c.self.view_is
    (is_glimpsed c.args.cookie c.args.who c.args.xid c.in_ok-new.new c.ask.new.self old c.in_ok-new.ensures.new c.in_ok-new.ensures.added
    c.ask.ensures.sound)
