-- The lock is away, and those who asked its holder are known.
use Rattle.std.proofs.Common.{◌≡◌, sym, ap, subst}
use Rattle.lu_target_locks.specs.Servers as locking
use Rattle.lu_target_locks.specs.Servers.{ServerState as LockState, IsCancel, IsReleased}
use Rattle.lu_target_server.specs.Servers.{ServerState}
use Rattle.lu_target_server.proofs.Cancels.{cookie_of}
use Rattle.lu_target_server.proofs.server.Server.take_back.Goals as goal

pub returns-clause-back : goal.returns-clause-back
returns-clause-back g c =
    let who = c.args.who in
    let cookie = c.args.cookie in
    let old = c.args.self.now.locks in
    let new = c.cancel.new.self in
    let own : c.self.inside.locks ≡ old = ap (λ (it : ServerState). it.locks) c.self.view_is in
    let cancel : IsCancel who cookie c.in_ok-released.field-0 old new =
    subst (λ (it : LockState). IsCancel who cookie c.in_ok-released.field-0 it new) own c.in_ok-released.ensures.released in
    let is : IsReleased who cookie c.in-Some.released old new = subst (λ o. IsCancel who cookie o old new) c.in-Some.is cancel in
    record {
      released = is;
      askers = λ v shows.
          c.in_ok-askers.ensures.askers v c.in-Some.released.lock (subst (λ (it : LockState). locking.Shows it v) (sym own) shows)
          (cookie_of who cookie v.granted c.in-Some.released.lock (is.was v shows));
    }
