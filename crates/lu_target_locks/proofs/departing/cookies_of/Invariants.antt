-- The cookies so far.
use Rattle.std.proofs.Common.{take}
use Rattle.lu_target_locks.specs.Leaving.{AreTheirs}
use Rattle.lu_target_locks.proofs.departing.cookies_of.Given as goal

abbrev pub invariant-loop-who : goal.invariant-loop-who
invariant-loop-who l = AreTheirs l.space (take l.who-index l.gone) l.cookies.items
