-- The cookies so far, and those of the resources that are left.
use Rattle.std.proofs.Common.{◌≡◌, ◌++◌, drop}
use Rattle.lu_lockspace.specs.Guarded.{of_life_on_all}
use Rattle.lu_lockspace.proofs.queues.Queues.of_life.Given as goal

abbrev pub invariant-loop-resource : goal.invariant-loop-resource
invariant-loop-resource l = l.cookies.items ++ of_life_on_all l.who (drop l.resource-index l.resources) l.self
    ≡ of_life_on_all l.who l.resources l.self
