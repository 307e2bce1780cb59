-- The others are left, and fewer than before.
use Rattle.std.proofs.Common.{length}
use Rattle.lu_trace.specs.Turns.{Making}
use Rattle.lu_spec_client.specs.Locks.{trims}
use Rattle.lu_client.specs.Clients.{Remains}
use Rattle.lu_client.proofs.client.Client.trim.Given as goal

abbrev pub invariant-loop : goal.invariant-loop
invariant-loop l = (making : Making) → Remains (trims l.initial.self.limits) (trims l.initial.self.limits) l.initial.self l.self making
    making

abbrev pub decreases-loop : goal.decreases-loop
decreases-loop l = length (trims l.self.limits l.self.client)
