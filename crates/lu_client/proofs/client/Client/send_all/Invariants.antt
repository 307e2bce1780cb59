-- This target and those after it are left.
use Rattle.lu_client.specs.Fronts.{SendsToAll}
use Rattle.lu_client.proofs.client.Client.send_all.Given as goal

abbrev pub invariant-loop-target : goal.invariant-loop-target
invariant-loop-target l = SendsToAll l.target l.initial.self l.self l.initial.turn l.turn
