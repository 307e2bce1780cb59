use Rattle.std.proofs.Common.{◌≡◌, ◌+◌}
use Rattle.lu_page.proofs.Slots.{edit_slots}
use Rattle.lu_page.proofs.page.Page.edit.Given as goal

abbrev pub invariant-loop-slot : goal.invariant-loop-slot
invariant-loop-slot g l =
    record {
      position : l.position ≡ l.initial.self-inside.first + l.slot;
      first : l.self-inside.first ≡ l.initial.self-inside.first;
      edited : l.self-inside.slots.items ≡ edit_slots (g.E.Edit.edits l.edit) l.initial.self-inside.first l.slot
          l.initial.self-inside.slots.items;
    }
