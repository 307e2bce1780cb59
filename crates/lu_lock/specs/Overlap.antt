-- Where two locks meet: extents where an offset is in both, inode bits where they share a bit.
-- A lock on bits meets no extent.
use Rattle.std.specs.Prelude.{◌≡◌, ℕ, ◌≤◌, Bool, false, not, ◌&&◌, ◌==◌, nat_le, min, max, bit_and, IsBitSet}
use Rattle.lu_base.specs.declared.locks.Extent.{Extent}
use Rattle.lu_base.specs.declared.locks.Policy.{Policy}
use Rattle.lu_base.specs.declared.locks.Policy.TheVariants.{Bits, Range}

-- This offset is in the extent; both ends count.
abbrev pub IsIn : ℕ → Extent → Type 0
IsIn offset extent = (extent.first ≤ offset) × (offset ≤ extent.last)

-- An offset is in both.
abbrev pub ExtentsMeet : Extent → Extent → Type 0
ExtentsMeet a b = (offset : ℕ) × IsIn offset a × IsIn offset b

-- The test of it: the later start is not past the earlier end.
abbrev pub extents_meet : Extent → Extent → Bool
extents_meet a b = nat_le (max a.first b.first) (min a.last b.last)

-- A bit is set in both.
abbrev pub BitsMeet : ℕ → ℕ → Type 0
BitsMeet a b = (place : ℕ) × IsBitSet a place × IsBitSet b place

-- The test of it.
abbrev pub bits_meet : ℕ → ℕ → Bool
bits_meet a b = not (bit_and a b == 0)

-- What two locks cover of one resource meets.
abbrev pub PoliciesMeet : Policy → Policy → Type 0
PoliciesMeet (Bits a) (Bits b) = BitsMeet a b
PoliciesMeet (Range a) (Range b) = ExtentsMeet a b
PoliciesMeet (Bits _) (Range _) = ⊥
PoliciesMeet (Range _) (Bits _) = ⊥

-- The test of it.
abbrev pub policies_meet : Policy → Policy → Bool
policies_meet (Bits a) (Bits b) = bits_meet a b
policies_meet (Range a) (Range b) = extents_meet a b
policies_meet (Bits _) (Range _) = false
policies_meet (Range _) (Bits _) = false

-- A range whose ends are in order.
abbrev pub IsRange : Policy → Type 0
IsRange (Range extent) = extent.first ≤ extent.last
IsRange (Bits _) = ⊥

-- Bits, or a range whose ends are in order.
abbrev pub IsOrdered : Policy → Type 0
IsOrdered (Range extent) = extent.first ≤ extent.last
IsOrdered (Bits _) = Unit {0}

-- The first covers all that the second does.
abbrev pub Covers : Policy → Policy → Type 0
Covers (Bits outer) (Bits inner) = bit_and outer inner ≡ inner
Covers (Range outer) (Range inner) = (outer.first ≤ inner.first) × (inner.last ≤ outer.last)
Covers (Bits _) (Range _) = ⊥
Covers (Range _) (Bits _) = ⊥

-- The test of it.
abbrev pub covers : Policy → Policy → Bool
covers (Bits outer) (Bits inner) = bit_and outer inner == inner
covers (Range outer) (Range inner) = nat_le outer.first inner.first && nat_le inner.last outer.last
covers (Bits _) (Range _) = false
covers (Range _) (Bits _) = false
