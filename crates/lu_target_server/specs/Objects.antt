-- Requests on an object.
use Rattle.std.specs.Prelude.{◌≡◌, ℕ}
use Rattle.lu_base.specs.declared.ids.Cookie.{Cookie}
use Rattle.lu_base.specs.declared.locks.Extent.{Extent}
use Rattle.lu_base.specs.declared.locks.Mode.{Mode}
use Rattle.lu_base.specs.declared.locks.Resource.{Resource}
use Rattle.lu_msg.specs.declared.operations.Op.{Op}
use Rattle.lu_msg.specs.declared.operations.Op.TheVariants as op

-- a lock on this one is asked for
abbrev pub AsksFor : Resource → Op → Type 0
AsksFor resource o = (mode : Mode) × (extent : Extent) × (o ≡ op.Enqueue resource mode extent)

-- this page of this one is read
abbrev pub Reads : Resource → (page : ℕ) → Op → Type 0
Reads resource page o = (cookie : Cookie) × (o ≡ op.Get resource cookie page)

-- the size of one is asked for
abbrev pub AsksSize : Op → Type 0
AsksSize o = (resource : Resource) × (o ≡ op.Size resource)

-- a put or a cut, under the lock of this cookie
abbrev pub IsWrite : Cookie → Op → Type 0
IsWrite cookie (op.Put on named offset bytes) = named ≡ cookie
IsWrite cookie (op.Cut on named size) = named ≡ cookie
IsWrite cookie _ = ⊥
