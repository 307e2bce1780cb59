-- The queues of the resources so far, and what was granted on them.
use Rattle.std.proofs.Common.{◌≡◌, take}
use Rattle.std.specs.Map.{keys_of}
use Rattle.lu_lockspace.specs.Ending.{AllEnded}
use Rattle.lu_lockspace.proofs.ending.ended.Given as goal

abbrev pub invariant-loop-resource : goal.invariant-loop-resource
invariant-loop-resource l =
    (keys_of l.ended.items ≡ take l.resource-index l.resources) × AllEnded l.lives l.queues l.ended.items l.grants.items
