-- The entries still to come lead to what all of them lead to.
use Rattle.std.proofs.Common.{◌≡◌, drop}
use Rattle.lu_spec_client.specs.Advances.{cuts}
use Rattle.lu_client_store.specs.Stored.{stored_turn}
use Rattle.lu_client_store.proofs.store.Store.cut_all.Given as goal

abbrev pub invariant-loop-one : goal.invariant-loop-one
invariant-loop-one l =
    stored_turn l.self (cuts l.layout l.size (drop l.one-index l.used))
    ≡ stored_turn l.initial.self (cuts l.layout l.size l.used)
