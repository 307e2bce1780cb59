-- The locks so far.
use Rattle.std.proofs.Common.{take}
use Rattle.lu_target_locks.proofs.Stands.{HasStood}
use Rattle.lu_target_locks.proofs.standing.all_stand.Given as goal

abbrev pub invariant-loop-lock : goal.invariant-loop-lock
invariant-loop-lock l = HasStood (take l.lock-index l.locks) l.standing.items l.space
