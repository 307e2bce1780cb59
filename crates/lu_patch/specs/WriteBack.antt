-- Writing a patch back: what a flush makes of the object at its target, and the patch and the object after so many
-- flushes under a lock, each sent, done at the target and acknowledged before the next.
use Rattle.std.specs.Prelude.{◌≡◌, ℕ, zero, suc, ◌+◌, ◌-◌, ◌^◌, ◌<◌, true, ◌⊎◌, if◌then◌else◌, Option, Some, None, is_some}
use Rattle.lu_base.specs.declared.locks.Extent.{Extent}
use Rattle.lu_spec_entries.specs.declared.changes.Flush.{Flush}
use Rattle.lu_spec_entries.specs.declared.changes.Flush.TheVariants.{Cut, Put}
use Rattle.lu_spec_machine.specs.Objects.{Object, put_bytes, cut_bytes}
use Rattle.lu_spec_client.specs.Patches.{Patch, holds_extent, cut_extent, cut_within, dirty_in, next_flush, taken, acked}

abbrev pub applied : Option Flush → Object → Object
applied None object = object
applied (Some (Cut n)) object = cut_bytes n object
applied (Some (Put at bytes)) object = put_bytes at bytes object

-- ---- one flush

abbrev pub flushed : Extent → Patch → Patch
flushed within p = acked (taken (next_flush within p) p)

abbrev pub object_flushed : Extent → Patch → Object → Object
object_flushed within p object = applied (next_flush within p) object

-- ---- so many

abbrev pub flushed_by : ℕ → Extent → Patch → Patch
flushed_by zero within p = p
flushed_by (suc k) within p = flushed_by k within (flushed within p)

abbrev pub object_by : ℕ → Extent → Patch → Object → Object
object_by zero within p object = object
object_by (suc k) within p object = object_by k within (flushed within p) (object_flushed within p object)

-- how many flushes at most are needed under a lock: one for the pending cut, and one for each dirty byte
abbrev pub left : Extent → Patch → ℕ
left within p = (if is_some (cut_within within p.pending) then 1 else 0) + dirty_in within p

-- a lock that holds all that the pending cut changes, or ends before the size that the cut makes
abbrev pub Spares : Extent → Option ℕ → Type 0
Spares within None = Unit {0}
Spares within (Some n) = (holds_extent within (cut_extent n) ≡ true) ⊎ (within.last < n)

-- every offset
abbrev pub whole : Extent
whole = record { first = 0; last = 2 ^ 64 - 1 }
