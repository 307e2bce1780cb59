-- Laws of writing back: nobody who looks through the patch sees a flush, and flushes come to an end.
use Rattle.std.specs.Prelude.{◌≡◌, ℕ, ◌<◌, ◌≤◌, ◌↔◌, true, false, None}
use Rattle.lu_base.specs.declared.locks.Extent.{Extent}
use Rattle.lu_spec_machine.specs.Places.{RisingFrom}
use Rattle.lu_spec_machine.specs.Objects.{Object}
use Rattle.lu_spec_client.specs.Patches.{Patch, next_flush, has_change}
use Rattle.lu_patch.specs.Sound.{IsAtRest}
use Rattle.lu_patch.specs.Seen.{seen}
use Rattle.lu_patch.specs.WriteBack.{flushed, object_flushed, flushed_by, object_by, left, Spares, whole}

-- a flush that is applied to the object and acknowledged leaves what is seen, bytes and size
abbrev pub FlushIsUnseen : Type 0
FlushIsUnseen =
    (within : Extent) (p : Patch) (object : Object) → IsAtRest p → RisingFrom 0 object → Spares within p.pending
    → seen (flushed within p) (object_flushed within p object) ≡ seen p object

-- there is a flush exactly where there is a change
abbrev pub FlushIfChanged : Type 0
FlushIfChanged = (within : Extent) (p : Patch) → next_flush within p ≡ None ↔ has_change within p ≡ false

-- each flush lowers what is left, and nothing is under way after it
abbrev pub FlushLowers : Type 0
FlushLowers =
    (within : Extent) (p : Patch) → IsAtRest p → has_change within p ≡ true
    → record {
      lowers : left within (flushed within p) < left within p;
      rests : IsAtRest (flushed within p);
    }

-- so after as many flushes no change is left
abbrev pub FlushesEnd : Type 0
FlushesEnd = (within : Extent) (p : Patch) (k : ℕ) → IsAtRest p → left within p ≤ k → has_change within (flushed_by k within p) ≡ false

-- and under a lock on everything the object is then what was seen
abbrev pub FlushesWriteWhatIsSeen : Type 0
FlushesWriteWhatIsSeen =
    (p : Patch) (object : Object) (k : ℕ) → IsAtRest p → RisingFrom 0 object → left whole p ≤ k
    → object_by k whole p object ≡ seen p object
