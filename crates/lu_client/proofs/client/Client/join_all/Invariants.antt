-- This target and those after it are left.
use Rattle.lu_client_refines.specs.Rounds.{joins_left}
use Rattle.lu_client.specs.Clients.{Remains}
use Rattle.lu_client.proofs.client.Client.join_all.Given as goal

abbrev pub invariant-loop-target : goal.invariant-loop-target
invariant-loop-target l = Remains (joins_left 0) (joins_left l.target) l.fn.self l.fn.self l.initial.turn l.turn
