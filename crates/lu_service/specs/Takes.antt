-- Which operations a service takes, by its kind, with what holds of their fields.
use Rattle.std.specs.Prelude.{◌≡◌, ◌+◌, ◌*◌, ◌≤◌, ℤ, pos, negsuc, length}
use Rattle.lu_msg.specs.declared.operations.Op.{Op}
use Rattle.lu_msg.specs.declared.operations.Op.TheVariants as op
use Rattle.lu_spec_machine.specs.Objects.{page_size}
use Rattle.lu_service.specs.declared.services.Kind.{Kind}
use Rattle.lu_service.specs.declared.services.Kind.TheVariants.{Mdt, Ost}
use Rattle.lu_service.specs.Contents.{most_bytes}

-- a number of stripes is -1 or more
abbrev pub IsCount : ℤ → Type 0
IsCount (pos count) = Unit {0}
IsCount (negsuc below) = below ≡ 0

-- the operations on names
abbrev pub IsNamed : Op → Type 0
IsNamed (op.Lookup path) = Unit {0}
IsNamed (op.Stat path) = Unit {0}
IsNamed (op.List path) = Unit {0}
IsNamed (op.Layout path) = Unit {0}
IsNamed (op.Mkdir path) = Unit {0}
IsNamed (op.Create path size count) = IsCount count
IsNamed (op.Link old new) = Unit {0}
IsNamed (op.Unlink path) = Unit {0}
IsNamed (op.Rmdir path) = Unit {0}
IsNamed (op.Rename old new) = Unit {0}
IsNamed (op.Chmod path mode) = Unit {0}
IsNamed (op.Open path) = Unit {0}
IsNamed (op.Close opened fid) = Unit {0}
IsNamed _ = ⊥

-- the operations on objects: a range is in order, and what is read, written or cut ends at or below the limit
abbrev pub IsOnObject : Op → Type 0
IsOnObject (op.Enqueue resource mode extent) = extent.first ≤ extent.last
IsOnObject (op.Get resource cookie page) = (page + 1) * page_size ≤ most_bytes
IsOnObject (op.Put resource cookie offset bytes) = offset + length bytes ≤ most_bytes
IsOnObject (op.Cut resource cookie size) = size ≤ most_bytes
IsOnObject (op.Size resource) = Unit {0}
IsOnObject _ = ⊥

-- those of them that a service performs itself: locks are the target's, and a page is read under a lock
abbrev pub IsOfBytes : Op → Type 0
IsOfBytes (op.Put resource cookie offset bytes) = offset + length bytes ≤ most_bytes
IsOfBytes (op.Cut resource cookie size) = size ≤ most_bytes
IsOfBytes (op.Size resource) = Unit {0}
IsOfBytes _ = ⊥

-- what a service of this kind is asked about
abbrev pub Takes : Kind → Op → Type 0
Takes Mdt o = IsNamed o
Takes Ost o = IsOnObject o

-- and what it performs
abbrev pub Performs : Kind → Op → Type 0
Performs Mdt o = IsNamed o
Performs Ost o = IsOfBytes o
