-- The resources so far.
use Rattle.std.proofs.Common.{take}
use Rattle.lu_target_locks.specs.Leaving.{AllHaveGoneOn}
use Rattle.lu_target_locks.proofs.departing.all_go_on.Given as goal

abbrev pub invariant-loop-resource : goal.invariant-loop-resource
invariant-loop-resource l = AllHaveGoneOn l.space l.tick l.granted (take l.resource-index l.resources) l.initial.calls l.steps.items l.calls
