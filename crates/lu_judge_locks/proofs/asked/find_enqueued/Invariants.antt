-- None of what the later messages ask for is for it.
use Rattle.std.proofs.Common.{◌≡◌, ◌≤◌, length, drop}
use Rattle.std.specs.Prelude.{None}
use Rattle.lu_spec_laws.specs.Words.Asked.{is_for}
use Rattle.lu_judge_pass.specs.Tables.{sending_of}
use Rattle.lu_judge_locks.specs.Asked.{requested_in}
use Rattle.lu_judge_locks.proofs.Asking.{found_in}
use Rattle.lu_judge_locks.proofs.asked.find_enqueued.Given as goal

abbrev pub invariant-loop-left : goal.invariant-loop-left
invariant-loop-left l = record {
  within : l.left ≤ length l.taken;
  none : found_in (requested_in l.requests l.target) l.lock.cookie sending_of (is_for l.lock) (drop l.left l.taken) ≡ None;
}

abbrev pub decreases-loop-left : goal.decreases-loop-left
decreases-loop-left l = l.left
