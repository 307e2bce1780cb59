-- What a service holds: the number of object storage targets, the greatest number that was used (that of the
-- root at first), the names of a file system with their inodes, and objects: the bytes of the stripes of files,
-- by offset. The metadata target has no objects, and the others have no names.
use Rattle.std.specs.Prelude.{◌≡◌, ℕ, ◌≤◌, ◌^◌, ◌==◌, ◌&&◌, if◌then◌else◌, Bool, true, List, [], ◌∷◌}
use Rattle.lu_base.specs.declared.ids.Txn.{Txn}
use Rattle.lu_base.specs.declared.ids.Who.{Who}
use Rattle.lu_base.specs.declared.locks.Extent.{Extent}
use Rattle.lu_base.specs.declared.locks.Resource.{Resource}
use Rattle.lu_msg.specs.declared.operations.Op.{Op}
use Rattle.lu_part.specs.declared.parts.Part.{Part}
use Rattle.lu_part.specs.declared.parts.Part.TheVariants.{Bytes}
use Rattle.lu_spec_machine.specs.Tree.{Tree}
use Rattle.lu_spec_machine.specs.Footprint as footprint
use Rattle.lu_spec_machine.specs.Footprint.{Operation, Every}
use Rattle.lu_spec_machine.specs.Objects.{Object, object_size}
use Rattle.lu_spec_machine.specs.Places.{RisingFrom, found_at, is_in}

pub record Contents : Type 0 where
  pub osts : ℕ
  pub last : ℕ
  pub tree : Tree
  pub objects : List (Resource × Object)

-- an operation as a life asks for it
abbrev pub asked : Txn → Who → Op → Operation
asked number who o = record { number = number; who = who; op = o }

-- ---- objects by resource

abbrev pub same_resource : Resource → Resource → Bool
same_resource a b = a.fid.0 == b.fid.0 && a.stripe == b.stripe

-- an object that isn't there has no bytes
abbrev pub object_in : List (Resource × Object) → Resource → Object
object_in [] r = []
object_in (e ∷ objects) r = if same_resource e.0 r then e.1 else object_in objects r

-- an object stays in its place, and a new one comes last
abbrev pub with_object : Resource → Object → List (Resource × Object) → List (Resource × Object)
with_object r object [] = (r, object) ∷ []
with_object r object (e ∷ objects) =
    if same_resource e.0 r then (e.0, object) ∷ objects else e ∷ with_object r object objects

-- files and objects end at or below this offset, a tebibyte
abbrev pub most_bytes : ℕ
most_bytes = 2 ^ 40

-- the offsets of its bytes rise, and it doesn't reach past the limit
abbrev pub IsObject : Object → Type 0
IsObject object = RisingFrom 0 object × (object_size object ≤ most_bytes)

-- what holds of the contents of every service
abbrev pub IsSound : Contents → Type 0
IsSound s = Every (λ (e : Resource × Object). IsObject e.1) s.objects

-- ---- what two contents share

-- that object has the same bytes there
abbrev pub SameBytes : Contents → Contents → Resource → Extent → Type 0
SameBytes s t r extent =
    (q : ℕ) → is_in extent q ≡ true → found_at (object_in s.objects r) q ≡ found_at (object_in t.objects r) q

-- the two hold the same there
abbrev pub Same : Contents → Contents → Part → Type 0
Same s t (Bytes f stripe extent) = SameBytes s t (record { fid = f; stripe = stripe }) extent
Same s t p = footprint.Same s.tree t.tree p
