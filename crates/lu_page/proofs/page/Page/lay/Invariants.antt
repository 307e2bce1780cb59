use Rattle.std.proofs.Common.{◌≡◌, ◌+◌, ◌-◌, take, length}
use Rattle.lu_spec_machine.specs.Places.{laid}
use Rattle.lu_page.specs.Sheets.{shown}
use Rattle.lu_page.proofs.page.Page.lay.Given as goal

abbrev pub invariant-loop-item : goal.invariant-loop-item
invariant-loop-item g l =
    record {
      slot : l.slot ≡ l.at - l.initial.self-inside.first + l.item-index;
      first : l.self-inside.first ≡ l.initial.self-inside.first;
      len : length l.self-inside.slots.items ≡ 4096;
      laid : shown l.self-inside.first l.self-inside.slots.items
          ≡ laid l.at (take l.item-index l.items) (shown l.initial.self-inside.first l.initial.self-inside.slots.items);
    }
