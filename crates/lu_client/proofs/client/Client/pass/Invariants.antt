-- The slots from this one on are left, and no target was asked more.
use Rattle.std.proofs.Common.{drop}
use Rattle.lu_spec_client.specs.Slots.{all_slots, passes}
use Rattle.lu_client.specs.Clients.{AsksNoMore, Remains}
use Rattle.lu_client.proofs.client.Client.pass.Given as goal

abbrev pub invariant-loop-slot : goal.invariant-loop-slot
invariant-loop-slot l =
    Remains (passes l.initial.turn.at all_slots) (passes l.initial.turn.at (drop l.slot all_slots)) l.initial.self l.self l.initial.turn
    l.turn
    × AsksNoMore l.initial.self.client.imports l.self.client.imports
