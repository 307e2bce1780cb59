-- The locks of the cookies are called back.
use Rattle.std.proofs.Common.{◌≡◌, subst, rules}
use Rattle.lu_target_locks.specs.Calling.{calling, call_all}
use Rattle.lu_target_locks.specs.Asking.{AreCalled}
use Rattle.lu_target_locks.specs.Servers.{ServerState}
use Rattle.lu_target_locks.proofs.Ways.{are_called}
use Rattle.lu_target_locks.proofs.server.LockServer.call_back_all.Goals as goal

pub returns : goal.returns
returns c =
    let it = c.self.inside in
    let old : ServerState = record { space = it.space; asked = it.calls; boot = it.boot; count = it.count; ticks = it.ticks } in
    let new : ServerState = record old { asked = c.call_all.new.calls } in
    let is : calling c.call_all.new.calls c.in_ok-locks.locks ≡ call_all it.space it.ticks it.calls c.args.cookies.now = search rules in
    record {
      called = subst (λ (s : ServerState). AreCalled c.args.cookies.now c.in_ok-locks.locks s new) c.self.view_is
          (are_called c.args.cookies.now c.call_all.new.calls c.in_ok-locks.locks old is);
    }
