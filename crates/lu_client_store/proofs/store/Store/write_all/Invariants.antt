-- The entries still to come lead to what all of them lead to.
use Rattle.std.proofs.Common.{◌≡◌, drop}
use Rattle.lu_spec_client.specs.Advances.{writes}
use Rattle.lu_client_store.specs.Stored.{stored_turn}
use Rattle.lu_client_store.proofs.store.Store.write_all.Given as goal

abbrev pub invariant-loop-one : goal.invariant-loop-one
invariant-loop-one l =
    stored_turn l.self (writes l.layout l.position l.bytes (drop l.one-index l.used))
    ≡ stored_turn l.initial.self (writes l.layout l.position l.bytes l.used)
