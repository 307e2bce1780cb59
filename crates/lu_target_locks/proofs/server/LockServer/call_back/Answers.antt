-- What blocks the waiting locks is called back.
use Rattle.std.proofs.Common.{◌≡◌, subst, rules}
use Rattle.lu_target_locks.specs.Calling.{calling, call_all}
use Rattle.lu_target_locks.specs.Servers.{ServerState, AreCalledBack}
use Rattle.lu_target_locks.proofs.CallingBack.{called_back}
use Rattle.lu_target_locks.proofs.server.LockServer.call_back.Goals as goal

pub returns : goal.returns
returns c =
    let it = c.self.inside in
    let old : ServerState = record { space = it.space; asked = it.calls; boot = it.boot; count = it.count; ticks = it.ticks } in
    let new : ServerState = record old { asked = c.call_all.new.calls } in
    let is : calling c.call_all.new.calls c.in_ok-locks.locks ≡ call_all it.space it.ticks it.calls c.in_ok-cookies.cookies = search rules
    in
    record {
      called = subst (λ (s : ServerState). AreCalledBack c.args.resource c.in_ok-locks.locks s new) c.self.view_is
          (called_back c.args.resource c.in_ok-cookies.cookies c.call_all.new.calls c.in_ok-locks.locks old c.in_ok-cookies.ensures.cookies
          is);
    }
