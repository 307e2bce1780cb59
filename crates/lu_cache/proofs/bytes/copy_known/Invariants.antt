-- Those so far are written.
use Rattle.std.proofs.Common.{◌≡◌, ℕ, ◌+◌, ◌<◌, length, Some, slice_index_or}
use Rattle.lu_spec_machine.specs.Places.{found_at}
use Rattle.lu_cache.proofs.bytes.copy_known.Given as goal

abbrev pub invariant-loop-k : goal.invariant-loop-k
invariant-loop-k l = (length l.into ≡ length l.initial.into) × ((j d : ℕ) → j < l.k → found_at l.places (l.at + j)
    ≡ Some (slice_index_or l.into j d))
