-- One more is pinned.
use Rattle.std.proofs.Common.{◌∙◌}
use Rattle.lu_call.proofs.Naming.{pinned_step, stored_step}
use Rattle.lu_call.proofs.calls.CallState.pin_all.Goals as goal

pub loop-cookie-preserved : goal.loop-cookie-preserved
loop-cookie-preserved c =
    record {
      pinned = c.in_ok-pin.ensures.pinned ∙ pinned_step c.args.self.now c.loop-cookie.self c.as_slice-cookie-items.result.now
          c.loop-cookie.cookie-index _ c.loop-cookie-test.true c.loop-cookie.invariant.pinned;
      store = c.in_ok-pin.ensures.store ∙ stored_step c.args.store.now c.loop-cookie.store c.as_slice-cookie-items.result.now
          c.loop-cookie.cookie-index _ c.loop-cookie-test.true c.loop-cookie.invariant.store;
    }
