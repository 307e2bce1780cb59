-- The cookies so far, and those of the resources that are left.
use Rattle.std.proofs.Common.{◌≡◌, ◌++◌, drop}
use Rattle.lu_lockspace.specs.Guarded.{guarded_on_all}
use Rattle.lu_lockspace.proofs.queues.Queues.guarded_on_all.Given as goal

abbrev pub invariant-loop-resource : goal.invariant-loop-resource
invariant-loop-resource l = l.cookies.items ++ guarded_on_all (drop l.resource-index l.resources) l.parts l.self
    ≡ guarded_on_all l.resources l.parts l.self
