-- The resources of the guards so far.
use Rattle.std.proofs.Common.{◌≡◌, false, take}
use Rattle.std.specs.List.{list_any}
use Rattle.lu_base.specs.declared.locks.Resource.{Resource}
use Rattle.lu_part.specs.Guards.{guard}
use Rattle.lu_lockspace.specs.Spaces.{same_resource}
use Rattle.lu_lockspace.specs.Guarded.{is_listed, AreApart}
use Rattle.lu_lockspace.proofs.listing.guards.Given as goal

abbrev pub invariant-loop-part : goal.invariant-loop-part
invariant-loop-part l =
    AreApart l.resources.items
    × ((resource : Resource) → is_listed resource l.resources.items ≡ false
    → list_any (λ part. same_resource resource (guard part).0) (take l.part-index l.parts) ≡ false)
