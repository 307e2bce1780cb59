-- The resources of the notes so far.
use Rattle.std.proofs.Common.{◌≡◌, true, take}
use Rattle.std.specs.List.{list_any}
use Rattle.lu_base.specs.declared.locks.Resource.{Resource}
use Rattle.lu_lockspace.specs.Spaces.{same_resource}
use Rattle.lu_lockspace.specs.Notes.{is_waited}
use Rattle.lu_lockspace.proofs.stays.resources_of.Given as goal

abbrev pub invariant-loop-stay : goal.invariant-loop-stay
invariant-loop-stay l =
    (resource : Resource) → list_any (λ stay. same_resource resource stay.resource) (take l.stay-index l.stays) ≡ true
    → is_waited resource l.resources.keys ≡ true
