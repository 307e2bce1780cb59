-- The locks from this one on are left.
use Rattle.std.proofs.Common.{drop}
use Rattle.lu_spec_client.specs.Recovery.{drops_all}
use Rattle.lu_client.specs.Clients.{Remains}
use Rattle.lu_client.proofs.client.Client.drop_locks.Given as goal

abbrev pub invariant-loop-held : goal.invariant-loop-held
invariant-loop-held l = Remains (λ k. drops_all l.held-items) (λ k. drops_all (drop l.held-index l.held-items)) l.initial.self l.self
    l.initial.turn l.turn
