-- This slot and those after it are left.
use Rattle.lu_client.specs.Resuming.{LooksOn}
use Rattle.lu_client.proofs.client.Client.look_for_locks.Given as goal

abbrev pub invariant-loop-slot : goal.invariant-loop-slot
invariant-loop-slot l = LooksOn l.target.0 l.slot l.initial.self l.self
