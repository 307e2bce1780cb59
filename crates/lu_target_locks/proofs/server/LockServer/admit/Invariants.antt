-- The wants so far.
use Rattle.std.proofs.Common.{take}
use Rattle.lu_target_locks.specs.Adding.{AllAdmitted}
use Rattle.lu_target_locks.proofs.server.LockServer.admit.Given as goal

abbrev pub invariant-loop-want : goal.invariant-loop-want
invariant-loop-want l = AllAdmitted l.who (take l.want-index l.wants) l.locks.items l.initial.self l.self
