-- The locks so far.
use Rattle.std.proofs.Common.{◌≡◌, take}
use Rattle.lu_queue.proofs.arrivals.Arrivals.from_slice.Given as goal

abbrev pub invariant-loop-lock : goal.invariant-loop-lock
invariant-loop-lock l = l.arrivals ≡ take l.lock-index l.locks
