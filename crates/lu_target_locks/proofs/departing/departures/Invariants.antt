-- The lives so far.
use Rattle.std.proofs.Common.{take}
use Rattle.lu_target_locks.specs.Leaving.{AreDepartures}
use Rattle.lu_target_locks.proofs.departing.departures.Given as goal

abbrev pub invariant-loop-who : goal.invariant-loop-who
invariant-loop-who l = AreDepartures l.space l.calls l.gone (take l.who-index l.gone) l.departures.items
