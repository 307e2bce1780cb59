-- What the rows make of a client's changes, of an object and of locks on it is, position by position, what the theory of one object says.
use Rattle.std.specs.Prelude.{◌≡◌, ◌⊎◌, ℕ, suc, ◌<◌, ◌≤◌, true, false, ◌||◌, if◌then◌else◌, List, length, Some, None}
use Rattle.lu_base.specs.declared.locks.Extent.{Extent}
use Rattle.lu_base.specs.declared.locks.Mode.{Mode}
use Rattle.lu_base.specs.declared.locks.Mode.TheVariants.{PR, PW}
use Rattle.lu_lock.specs.Growth.{the_end}
use Rattle.lu_lock.specs.Modes.{compatible}
use Rattle.lu_lock.specs.Overlap.{extents_meet}
use Rattle.lu_spec_machine.specs.Objects.{Object, put_bytes, cut_bytes, object_size}
use Rattle.lu_spec_machine.specs.Places.{found_at, RisingFrom, is_in}
use Rattle.lu_spec_entries.specs.declared.changes.Flush.{Flush}
use Rattle.lu_spec_entries.specs.declared.changes.Flush.TheVariants as flush
use Rattle.lu_spec_client.specs.Caches.{made}
use Rattle.lu_spec_client.specs.Patches.{Patch, CutFlies, BytesFly, flown, acked, cut_within, cut_extent, holds_extent, next_flush}
use Rattle.lu_proof_bytes.specs.Object.Words as words
use Rattle.lu_proof_bytes.specs.Object.Words.{Write, Cut, Done, overlay, within, after_at, covers, conflict}
use Rattle.lu_proof_bytes.specs.Object.Folds.{is_some, cut_by, dirty_by, flying_by, taken_by, cut_acked, cut_below}
use Rattle.lu_proof_objects.specs.Points.{change_of, dirty_at, flying_at, is_write, lock_at}

-- ---- a client's changes

-- a call changes the object
abbrev pub PatchMade : Type 0
PatchMade =
    (change : Flush) (patch : Patch) (p : ℕ)
    → record {
      pending : (made change patch).pending ≡ cut_by (change_of change) patch.pending;
      dirty : dirty_at (made change patch) p ≡ dirty_by (change_of change) patch.pending p (dirty_at patch p);
      flying : flying_at (made change patch) p ≡ flying_by (change_of change) p (flying_at patch p);
    }

-- the bytes of a change are those of the patch
abbrev pub Carries : Patch → Flush → Type 0
Carries patch (flush.Put at bytes) = (p b : ℕ) → overlay at bytes p None ≡ Some b → dirty_at patch p ≡ Some b
Carries patch (flush.Cut size) = Unit {0}

-- such a change is taken to be written back: it leaves the patch, but for what is under way
abbrev pub PatchTaken : Type 0
PatchTaken =
    (change : Flush) (patch : Patch) (p : ℕ) → Carries patch change
    → record {
      pending : (flown change patch).pending ≡ patch.pending;
      dirty : dirty_at (flown change patch) p ≡ dirty_at patch p;
      flying : flying_at (flown change patch) p ≡ (taken_by (change_of change) p || flying_at patch p);
    }

-- it is answered: bytes that are still under way go, and a cut goes where no lower one is pending
abbrev pub BytesAcked : Type 0
BytesAcked =
    (patch : Patch) (p : ℕ) → RisingFrom 0 patch.dirty → patch.flight ≡ Some BytesFly
    → record {
      pending : (acked patch).pending ≡ patch.pending;
      dirty : dirty_at (acked patch) p ≡ (if flying_at patch p then None else dirty_at patch p);
      flying : flying_at (acked patch) p ≡ false;
    }

abbrev pub CutAcked : Type 0
CutAcked =
    (patch : Patch) (size p lock number : ℕ) → patch.flight ≡ Some (CutFlies size)
    → record {
      pending : (acked patch).pending ≡ cut_acked (words.Flush lock (Cut size)) (Done number) patch.pending;
      dirty : dirty_at (acked patch) p ≡ dirty_at patch p;
      flying : flying_at (acked patch) p ≡ flying_at patch p;
    }

-- what is written back next under a lock on that extent: the pending cut, where the lock is over it; else bytes of the patch under the
-- lock, at least one
abbrev pub IsNext : Extent → Patch → Flush → Type 0
IsNext extent patch (flush.Cut size) = (patch.pending ≡ Some size) × (holds_extent extent (cut_extent size) ≡ true)
IsNext extent patch (flush.Put at bytes) =
    record {
      uncut : cut_within extent patch.pending ≡ None;
      some : 0 < length bytes;
      carries : Carries patch (flush.Put at bytes);
      under : (p : ℕ) → within at bytes p ≡ true → is_in extent p ≡ true;
    }

abbrev pub NextIs : Type 0
NextIs = (extent : Extent) (patch : Patch) (change : Flush) → RisingFrom 0 patch.dirty → next_flush extent patch ≡ Some change
    → IsNext extent patch change

-- no cut to their positions or a lower one is pending, if a cut that isn't under this lock lies apart from it
abbrev pub PutGoesFirst : Type 0
PutGoesFirst =
    (extent : Extent) (patch : Patch) (at : ℕ) (bytes : List ℕ) → IsNext extent patch (flush.Put at bytes)
    → ((size : ℕ) → patch.pending ≡ Some size → (holds_extent extent (cut_extent size) ≡ true)
    ⊎ (extents_meet extent (cut_extent size) ≡ false))
    → (p : ℕ) → p ≤ the_end → within at bytes p ≡ true → cut_below patch.pending p ≡ false

-- ---- an object of a target

abbrev pub ObjectChanged : Type 0
ObjectChanged =
    (object : Object) (p : ℕ)
    → record {
      put : (at : ℕ) (bytes : List ℕ) → found_at (put_bytes at bytes object) p ≡ after_at (Write at bytes) p (found_at object p);
      cut : (size : ℕ) → found_at (cut_bytes size object) p ≡ after_at (Cut size) p (found_at object p);
    }

-- nothing stands at its size or later, and a byte right before it
abbrev pub ObjectEnds : Type 0
ObjectEnds =
    (object : Object) (p : ℕ)
    → record {
      past : object_size object ≤ p → found_at object p ≡ None;
      last : suc p ≡ object_size object → is_some (found_at object p) ≡ true;
    }

-- ---- locks

-- it covers the offsets of its range
abbrev pub LockCovers : Type 0
LockCovers =
    (cookie life : ℕ) (mode : Mode) (extent : Extent) (p : ℕ) → p ≤ the_end → extent.last ≤ the_end
    → covers (lock_at cookie life mode extent) p ≡ is_in extent p

abbrev pub IsRange : Extent → Type 0
IsRange extent = (extent.first ≤ extent.last) × (extent.last ≤ the_end)

-- two conflict where one is for writing and their ranges meet; and their modes aren't compatible just where one is
abbrev pub LocksConflict : Type 0
LocksConflict =
    (j c k d : ℕ) (a b : Mode) (x y : Extent) → IsRange x → IsRange y
    → conflict (lock_at j c a x) (lock_at k d b y) ≡ (if is_write a || is_write b then extents_meet x y else false)

abbrev pub IsReadOrWrite : Mode → Type 0
IsReadOrWrite mode = (mode ≡ PR) ⊎ (mode ≡ PW)

abbrev pub WritesClash : Type 0
WritesClash = (a b : Mode) → IsReadOrWrite a → IsReadOrWrite b → compatible a b ≡ (if is_write a || is_write b then false else true)
