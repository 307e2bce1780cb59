-- Bytes that are read: all of them are known, or none is told.
use Rattle.std.specs.Prelude.{◌≡◌, ℕ, ◌+◌, ◌<◌, List, Some, IsSome, slice_index_or}
use Rattle.lu_spec_machine.specs.Places.{found_at}
use Rattle.lu_spec_bytes.specs.Changes.{Bytes}

-- so many bytes from an offset on are known
abbrev pub AreKnown : Bytes → ℕ → ℕ → Type 0
AreKnown m at count = (k : ℕ) → k < count → IsSome (found_at m (at + k))

-- these are the first so many of them
abbrev pub AreAt : Bytes → ℕ → List ℕ → ℕ → Type 0
AreAt m at bytes count = (k : ℕ) (d : ℕ) → k < count → found_at m (at + k) ≡ Some (slice_index_or bytes k d)
