use Rattle.std.proofs.Common.{◌≡◌, drop}
use Rattle.lu_spec_client.specs.Advances.{unpins}
use Rattle.lu_client_store.specs.Stored.{stored_turn}
use Rattle.lu_call.proofs.looking.unpin_all.Given as goal

abbrev pub invariant-loop-name : goal.invariant-loop-name
invariant-loop-name l = stored_turn l.store (unpins (drop l.name-index l.pins)) ≡ stored_turn l.initial.store (unpins l.pins)
