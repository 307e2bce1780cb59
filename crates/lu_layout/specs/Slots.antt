-- How a layout's fields hold its value: the targets stand first in the slots, and zeros after them.
use Rattle.std.specs.Prelude.{◌≡◌, ◌-◌, length, take, drop, replicate, ◌++◌}
use Rattle.std.proofs.Common.{take-append-drop}
use Rattle.lu_layout.specs.declared.layout.Layout.TheInside.{Inside}
use Rattle.lu_layout.specs.Raid0.{Raid0}
use Rattle.lu_layout.specs.Sound.{IsLayout}

abbrev pub raid0_of : Inside → Raid0
raid0_of a = record { size = a.unit; targets = take a.width a.slots }

abbrev pub inside_of : Raid0 → Inside
inside_of l = record {
  unit = l.size;
  width = length l.targets;
  slots = l.targets ++ replicate (8 - length l.targets) 0;
}

pub record AreSlots (a : Inside) : Type 0 where
  pub layout : IsLayout (raid0_of a)
  pub room : length a.slots ≡ 8
  pub width : length (take a.width a.slots) ≡ a.width
  pub rest : drop a.width a.slots ≡ replicate (8 - a.width) 0

slots_back : (a : Inside) → AreSlots a → take a.width a.slots ++ replicate (8 - length (take a.width a.slots)) 0 ≡ a.slots
slots_back a h = rw (h.width, ← h.rest) (take-append-drop a.width a.slots)

-- the fields come back from the value
pub inside_of-raid0_of : (a : Inside) → AreSlots a → inside_of (raid0_of a) ≡ a
inside_of-raid0_of a h i = record { unit = a.unit; width = h.width i; slots = slots_back a h i }
