-- The places of the cookies so far are forgotten.
use Rattle.std.proofs.Common.{take}
use Rattle.lu_lockspace.specs.Ending.{AreGone}
use Rattle.lu_lockspace.proofs.ending.forget.Given as goal

abbrev pub invariant-loop-cookie : goal.invariant-loop-cookie
invariant-loop-cookie l = AreGone (take l.cookie-index l.cookies) l.initial.places.entries l.places.entries
