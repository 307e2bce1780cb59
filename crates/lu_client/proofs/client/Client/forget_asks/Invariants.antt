-- This slot and those after it are left.
use Rattle.lu_client.specs.Recovering.{ForgetsOn}
use Rattle.lu_client.proofs.client.Client.forget_asks.Given as goal

abbrev pub invariant-loop-slot : goal.invariant-loop-slot
invariant-loop-slot l = ForgetsOn l.target.0 l.slot l.initial.self l.self
