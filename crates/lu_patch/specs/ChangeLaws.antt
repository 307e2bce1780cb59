-- Laws of the answer to a flush: it takes away what flies and wasn't touched since, by event and not by value.
use Rattle.std.specs.Prelude.{◌≡◌, ℕ, ◌+◌, ◌<◌, List, Some, None, false, length, slice_index}
use Rattle.lu_spec_entries.specs.declared.changes.Dirty.{Dirty}
use Rattle.lu_spec_entries.specs.declared.changes.Flush.TheVariants.{Cut, Put}
use Rattle.lu_spec_machine.specs.Places.{found_at, RisingFrom}
use Rattle.lu_spec_client.specs.Patches.{Patch, written, cut, flown, acked}
use Rattle.lu_patch.specs.Changes.{Change, changed_by, LeaveAt}

-- bytes that no change touched while they flew are gone
abbrev pub UntouchedLands : Type 0
UntouchedLands =
    (at : ℕ) (bytes : List ℕ) (p : Patch) (since : List Change) (k : ℕ) → RisingFrom 0 p.dirty → k < length bytes → LeaveAt (at + k) since
    → found_at (acked (changed_by since (flown (Put at bytes) p))).dirty (at + k) ≡ None

-- a byte that was written while bytes flew stays, also where it flew with the same value
abbrev pub WrittenStays : Type 0
WrittenStays =
    (at : ℕ) (bytes : List ℕ) (p : Patch) (k : ℕ) → RisingFrom 0 p.dirty → k < length bytes
    → found_at (acked (written at bytes p)).dirty (at + k) ≡ Some (record { byte = slice_index bytes k; flies = false })

-- the cut that flew is gone, and another that took its place stays
abbrev pub CutLands : Type 0
CutLands = (n : ℕ) (p : Patch) → p.pending ≡ Some n → (acked (flown (Cut n) p)).pending ≡ None

abbrev pub OtherCutStays : Type 0
OtherCutStays = (n other : ℕ) (p : Patch) → p.pending ≡ Some n → other < n → (acked (cut other (flown (Cut n) p))).pending ≡ Some other

-- what wasn't in flight stays
abbrev pub UnsentStays : Type 0
UnsentStays = (p : Patch) (q : ℕ) (d : Dirty) → RisingFrom 0 p.dirty → found_at p.dirty q ≡ Some d → d.flies ≡ false
    → found_at (acked p).dirty q ≡ Some d
