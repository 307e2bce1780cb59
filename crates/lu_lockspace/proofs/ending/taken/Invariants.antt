-- The cookies so far, and those of the resources that are left.
use Rattle.std.proofs.Common.{◌≡◌, ◌++◌, drop}
use Rattle.lu_lockspace.specs.Ending.{taken_on_all}
use Rattle.lu_lockspace.proofs.ending.taken.Given as goal

abbrev pub invariant-loop-resource : goal.invariant-loop-resource
invariant-loop-resource l = l.cookies.items ++ taken_on_all l.lives (drop l.resource-index l.resources) l.queues
    ≡ taken_on_all l.lives l.resources l.queues
