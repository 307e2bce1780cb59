-- This target and those after it are left.
use Rattle.lu_client.specs.Resuming.{TicksOn}
use Rattle.lu_client.proofs.client.Client.remind_all.Given as goal

abbrev pub invariant-loop-target : goal.invariant-loop-target
invariant-loop-target l = TicksOn l.target l.initial.self l.self l.initial.turn l.turn
