-- Which layouts there are: a stripe size that is a positive multiple of 65,536 bytes and fits 32 bits,
-- and one to eight stripes on different targets. The limits of the size are those of the Lustre
-- Operations Manual, striping; that at most eight stripes stand is this project's profile.
use Rattle.std.specs.Prelude.{◌≡◌, ℕ, ◌%◌, ◌<◌, ◌≤◌, ◌⊎◌, List, length, slice_index}
use Rattle.lu_layout.specs.Raid0.{Raid0}

abbrev pub IsStripeSize : ℕ → Type 0
IsStripeSize size = (0 < size) × (size % 65536 ≡ 0) × (size ≤ 4294901760)

-- the sizes that are none
abbrev pub IsBadSize : ℕ → Type 0
IsBadSize size = (size ≡ 0) ⊎ (0 < size % 65536) ⊎ (4294901760 < size)

-- no target stands twice
abbrev pub AreDistinct : List ℕ → Type 0
AreDistinct xs = (i j : ℕ) → i < length xs → j < length xs → slice_index xs i ≡ slice_index xs j → i ≡ j

-- some target stands twice
abbrev pub HasRepeat : List ℕ → Type 0
HasRepeat xs = (i : ℕ) × (j : ℕ) × (i < j) × (j < length xs) × (slice_index xs i ≡ slice_index xs j)

abbrev pub AreStripes : List ℕ → Type 0
AreStripes targets = (0 < length targets) × (length targets ≤ 8) × AreDistinct targets

-- the lists of targets that are none
abbrev pub IsBadCount : List ℕ → Type 0
IsBadCount targets = (length targets ≡ 0) ⊎ (8 < length targets) ⊎ HasRepeat targets

pub record IsLayout (l : Raid0) : Type 0 where
  pub size : IsStripeSize l.size
  pub targets : AreStripes l.targets
