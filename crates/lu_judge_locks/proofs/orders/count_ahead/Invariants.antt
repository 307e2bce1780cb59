-- None of those so far has the cookie.
use Rattle.std.proofs.Common.{◌≡◌, ◌≤◌, ◌-◌, ◌++◌, length, take, drop}
use Rattle.lu_spec_laws.specs.Words.Queues.{ahead_of, without_first}
use Rattle.lu_judge_locks.specs.Orders.{locks_of}
use Rattle.lu_judge_locks.proofs.orders.count_ahead.Given as goal

abbrev pub invariant-loop-count : goal.invariant-loop-count
invariant-loop-count l = record {
  within : l.count ≤ length l.locks;
  ahead : ahead_of l.cookie.0 (locks_of l.locks) ≡ locks_of (take l.count l.locks) ++ ahead_of l.cookie.0 (locks_of (drop l.count l.locks));
  others : without_first l.cookie.0 (locks_of l.locks) ≡ locks_of (take l.count l.locks)
      ++ without_first l.cookie.0 (locks_of (drop l.count l.locks));
}

abbrev pub decreases-loop-count : goal.decreases-loop-count
decreases-loop-count l = length l.locks - l.count
