-- The locks so far.
use Rattle.std.proofs.Common.{◌≡◌, ◌++◌, take}
use Rattle.lu_import.specs.Recovery.{lock_replays}
use Rattle.lu_import.proofs.recovery.Teller.tell_locks.Given as goal

abbrev pub invariant-loop-lock : goal.invariant-loop-lock
invariant-loop-lock l = l.sends ≡ l.initial.sends ++ lock_replays l.self (take l.lock-index l.locks)
