-- What is told so far.
use Rattle.std.proofs.Common.{◌≡◌, ◌++◌, take}
use Rattle.lu_target_locks.specs.Leaving.{called_steps}
use Rattle.lu_target_locks.proofs.departing.tell_called.Given as goal

abbrev pub invariant-loop-lock : goal.invariant-loop-lock
invariant-loop-lock l = l.steps.items ≡ l.initial.steps.items ++ called_steps (take l.lock-index l.called)
