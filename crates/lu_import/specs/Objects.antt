-- The object that an operation of an object storage target is on. At such a target a request waits while
-- another on its object is in flight (this project's profile).
use Rattle.std.specs.Prelude.{Bool, false, ◌==◌, ◌&&◌, Option, Some, None}
use Rattle.lu_base.specs.declared.locks.Resource.{Resource}
use Rattle.lu_msg.specs.declared.operations.Op.{Op}
use Rattle.lu_msg.specs.declared.operations.Op.TheVariants.{Enqueue, Get, Put, Cut, Size}

-- None of an operation of the metadata target.
abbrev pub object : Op → Option Resource
object (Enqueue resource _ _) = Some resource
object (Get resource _ _) = Some resource
object (Put resource _ _ _) = Some resource
object (Cut resource _ _) = Some resource
object (Size resource) = Some resource
object _ = None

-- Both are on one object.
abbrev pub same : Option Resource → Option Resource → Bool
same (Some a) (Some b) = a.fid.0 == b.fid.0 && a.stripe == b.stripe
same _ _ = false

abbrev pub same_object : Op → Op → Bool
same_object a b = same (object a) (object b)
