-- A client's changes of an object, and a lock on one, as the rows have them, in the words of the theory of one object.
use Rattle.std.specs.Prelude.{ℕ, Bool, true, false, ◌==◌, if◌then◌else◌, Option, Some, None}
use Rattle.lu_base.specs.declared.locks.Extent.{Extent}
use Rattle.lu_base.specs.declared.locks.Mode.{Mode}
use Rattle.lu_base.specs.declared.locks.Mode.TheVariants.{PW}
use Rattle.lu_lock.specs.Growth.{the_end}
use Rattle.lu_spec_machine.specs.Places.{found_at}
use Rattle.lu_spec_entries.specs.declared.changes.Dirty.{Dirty}
use Rattle.lu_spec_entries.specs.declared.changes.Flush.{Flush}
use Rattle.lu_spec_entries.specs.declared.changes.Flush.TheVariants as flush
use Rattle.lu_spec_client.specs.Patches.{Patch}
use Rattle.lu_proof_bytes.specs.Object.Words.{Lock, Change, Write, Cut}

-- ---- changes

-- what a write-back carries
abbrev pub change_of : Flush → Change
change_of (flush.Put at bytes) = Write at bytes
change_of (flush.Cut size) = Cut size

abbrev pub byte_of : Option Dirty → Option ℕ
byte_of None = None
byte_of (Some d) = Some d.byte

abbrev pub is_flying : Option Dirty → Bool
is_flying None = false
is_flying (Some d) = d.flies

-- the byte of its own that a patch has at a position, and whether it is under way to the target and wasn't changed since
abbrev pub dirty_at : Patch → ℕ → Option ℕ
dirty_at patch p = byte_of (found_at patch.dirty p)

abbrev pub flying_at : Patch → ℕ → Bool
flying_at patch p = is_flying (found_at patch.dirty p)

-- ---- locks

abbrev pub is_write : Mode → Bool
is_write mode = elim mode [ PW ↦ true | _ ↦ false ]

-- a range up to the greatest offset of an object has no last byte
abbrev pub last_of : ℕ → Option ℕ
last_of last = if last == the_end then None else Some last

-- a lock on a range of an object, of a life that goes by a number
abbrev pub lock_at : (cookie life : ℕ) → Mode → Extent → Lock
lock_at cookie life mode extent = record {
  cookie = cookie;
  life = life;
  write = is_write mode;
  first = extent.first;
  last =
      last_of extent.last;
}
