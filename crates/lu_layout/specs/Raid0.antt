-- Striping over objects (RAID0), as the Lustre Operations Manual has it under striping: a file is cut
-- into units of the stripe size, and the units go to the stripes in turn, round after round.
use Rattle.std.specs.Prelude.{◌≡◌, ℕ, zero, suc, ◌+◌, ◌-◌, ◌*◌, ◌/◌, ◌%◌, ◌<◌, ◌↔◌, ◌==◌, if◌then◌else◌, ◌⊎◌, max, List, [], ◌∷◌, length}
use Rattle.std.specs.Prelude.{slice_index}

-- what a caller sees of a layout: the stripe size in bytes, and the target of each stripe in order
pub record Raid0 : Type 0 where
  pub size : ℕ
  pub targets : List ℕ

-- the stripe of the byte at position p: that of unit p / size
unfoldable pub stripe_of : Raid0 → ℕ → ℕ
stripe_of l p = p / l.size % length l.targets

-- the offset of that byte in the stripe's object: after the units of earlier rounds
unfoldable pub offset_of : Raid0 → ℕ → ℕ
offset_of l p = p / l.size / length l.targets * l.size + p % l.size

-- the position for which an offset of a stripe's object stands
unfoldable pub position_of : Raid0 → ℕ → ℕ → ℕ
position_of l stripe offset = (offset / l.size * length l.targets + stripe) * l.size + offset % l.size

-- how many of the positions below n lie on a stripe
unfoldable pub below_of : Raid0 → ℕ → ℕ → ℕ
below_of l stripe zero = 0
below_of l stripe (suc n) = below_of l stripe n + (if stripe_of l n == stripe then 1 else 0)

-- offset q of a stripe's object is among those counted below n exactly where it stands for a position below n
abbrev pub CountsBelow : Raid0 → ℕ → ℕ → ℕ → Type 0
CountsBelow l stripe n q = (q < below_of l stripe n) ↔ (position_of l stripe q < n)

-- just past the position that stands for the last byte of a stripe's object, or 0 where it is empty
abbrev pub end_of : Raid0 → ℕ → ℕ → ℕ
end_of l stripe zero = 0
end_of l stripe (suc last) = position_of l stripe last + 1

-- the greatest of these ends, where the first object is that of the given stripe
unfoldable pub greatest_end : Raid0 → ℕ → List ℕ → ℕ
greatest_end l stripe [] = 0
greatest_end l stripe (size ∷ sizes) = max (end_of l stripe size) (greatest_end l (suc stripe) sizes)

-- the size of the file whose objects have these sizes, by stripe
abbrev pub file_size_of : Raid0 → List ℕ → ℕ
file_size_of l sizes = greatest_end l 0 sizes

-- n is the size of that file: it lies above each position that stands for an object's last byte, and
-- is one more than such a position or 0
pub record IsFileSize (l : Raid0) (sizes : List ℕ) (n : ℕ) : Type 0 where
  pub covers : (i : ℕ) → i < length sizes → 0 < slice_index sizes i → position_of l i (slice_index sizes i - 1) < n
  pub reached : (n ≡ 0) ⊎ ((i : ℕ) × (i < length sizes) × (0 < slice_index sizes i) × (n ≡ position_of l i (slice_index sizes i - 1) + 1))
