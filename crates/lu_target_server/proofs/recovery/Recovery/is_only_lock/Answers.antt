-- What is known of who gave the locks decides it.
use Rattle.std.proofs.Common.{subst}
use Rattle.std.specs.Prelude.{◌↔◌, IsTrue}
use Rattle.lu_window.specs.States.{State}
use Rattle.lu_target_server.specs.Recovering.{IsOnlyLock}
use Rattle.lu_target_server.proofs.GiverKnown.{is_only_lock}
use Rattle.lu_target_server.proofs.recovery.Recovery.is_only_lock.Goals as goal

pub returns : goal.returns
returns c =
    let l = c.args.lock.now in
    let w = c.self.inside.window in
    record {
      only = subst (λ (it : State). IsTrue c.is_free.result ↔ IsOnlyLock l it.window.brought) c.self.view_is
          (is_only_lock c.is_free.result l c.self.inside.locks w.window.brought c.self.invariant.0.1 c.self.invariant.1.1
          c.is_free.ensures.free);
    }
