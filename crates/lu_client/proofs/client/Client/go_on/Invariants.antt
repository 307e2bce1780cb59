-- So many passes were made, and the others are left; no target was asked more.
use Rattle.std.proofs.Common.{◌-◌}
use Rattle.lu_spec_client.specs.Slots.{slots_go}
use Rattle.lu_client.specs.Clients.{AsksNoMore, Remains}
use Rattle.lu_client.proofs.client.Client.go_on.Given as goal

abbrev pub invariant-loop-pass : goal.invariant-loop-pass
invariant-loop-pass l =
    Remains (slots_go 5 l.initial.turn.at) (slots_go (5 - l._pass) l.initial.turn.at) l.initial.self l.self l.initial.turn l.turn
    × AsksNoMore l.initial.self.client.imports l.self.client.imports
