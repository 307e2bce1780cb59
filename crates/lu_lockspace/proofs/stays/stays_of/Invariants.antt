-- What is noted of the lives so far.
use Rattle.std.proofs.Common.{take}
use Rattle.lu_lockspace.specs.Notes.{AllNoted}
use Rattle.lu_lockspace.proofs.stays.stays_of.Given as goal

abbrev pub invariant-loop-who : goal.invariant-loop-who
invariant-loop-who l = AllNoted (take l.who-index l.lives) l.stays.keys l.some.items
