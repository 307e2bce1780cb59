-- What is told so far.
use Rattle.std.proofs.Common.{◌≡◌, ◌++◌, take}
use Rattle.lu_target_locks.specs.Leaving.{granted_on}
use Rattle.lu_target_locks.proofs.departing.tell_granted.Given as goal

abbrev pub invariant-loop-lock : goal.invariant-loop-lock
invariant-loop-lock l = l.steps.items ≡ l.initial.steps.items ++ granted_on l.resource (take l.lock-index l.granted)
