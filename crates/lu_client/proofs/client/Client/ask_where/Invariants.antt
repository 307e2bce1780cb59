-- This slot and those after it are left.
use Rattle.lu_client_refines.specs.Rounds.{wheres_left}
use Rattle.lu_client.specs.Clients.{Remains}
use Rattle.lu_client.proofs.client.Client.ask_where.Given as goal

abbrev pub invariant-loop-slot : goal.invariant-loop-slot
invariant-loop-slot l = Remains (wheres_left l.target.0 0) (wheres_left l.target.0 l.slot) l.self l.self l.initial.turn l.turn
