-- What was granted so far begins what is granted, and all that was passed over has to wait.
use Rattle.std.proofs.Common.{◌-◌, ◌≤◌, List, ◌++◌, length, take, All}
use Rattle.lu_lock.specs.Overlap.{IsOrdered}
use Rattle.lu_queue.specs.declared.locks.Grant.{Grant}
use Rattle.lu_queue.specs.Queues.{QueueState, AllWait, AreGranted}
use Rattle.lu_queue.proofs.granting.settle.Given as goal

abbrev pub invariant-loop-place : goal.invariant-loop-place
invariant-loop-place l =
    ((rest : List Grant) (after : QueueState) →
    AreGranted (record { granted = l.granted.items; waiting = l.waiting.items }) rest after →
    AreGranted (record { granted = l.initial.granted.items; waiting = l.initial.waiting.items }) (l.grants ++ rest) after)
    × AllWait l.granted.items (take l.place l.waiting.items)
    × (l.place ≤ length l.waiting.items)
    × All (λ lock. IsOrdered lock.ask.policy) l.waiting.items

abbrev pub decreases-loop-place : goal.decreases-loop-place
decreases-loop-place l = length l.waiting.items - l.place
