-- The locks from this one on are left.
use Rattle.std.proofs.Common.{drop}
use Rattle.lu_spec_client.specs.Locks.{visits_all}
use Rattle.lu_client.specs.Clients.{Remains}
use Rattle.lu_client.proofs.client.Client.visit_all.Given as goal

abbrev pub invariant-loop-held : goal.invariant-loop-held
invariant-loop-held l = Remains (visits_all l.over l.locks) (visits_all l.over (drop l.held-index l.locks)) l.initial.self l.self
    l.initial.turn l.turn
