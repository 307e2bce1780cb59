-- The locks so far are pinned.
use Rattle.std.proofs.Common.{◌≡◌, take}
use Rattle.lu_spec_client.specs.Starts.{pins, with_pins}
use Rattle.lu_client_store.specs.Stored.{stored_turn}
use Rattle.lu_call.specs.Starting.{names_with}
use Rattle.lu_call.proofs.calls.CallState.pin_all.Given as goal

abbrev pub invariant-loop-cookie : goal.invariant-loop-cookie
invariant-loop-cookie l =
    record {
      pinned : l.self ≡ with_pins (names_with (take l.cookie-index l.cookie-items)) l.fn.self;
      store : l.store ≡ stored_turn l.fn.store (pins (names_with (take l.cookie-index l.cookie-items)));
    }
