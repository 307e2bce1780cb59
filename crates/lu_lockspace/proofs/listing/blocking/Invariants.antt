-- What was told so far begins what blocks all.
use Rattle.std.proofs.Common.{List, [], ◌++◌, drop}
use Rattle.lu_base.specs.declared.ids.Cookie.{Cookie}
use Rattle.lu_lockspace.specs.Spaces.{AreBlocking}
use Rattle.lu_lockspace.proofs.listing.blocking.Given as goal

abbrev pub invariant-loop-lock : goal.invariant-loop-lock
invariant-loop-lock l =
    (rest : List Cookie) → AreBlocking l.granted (drop l.lock-index l.waiting) l.cookies.items rest
    → AreBlocking l.granted l.waiting [] (l.cookies.items ++ rest)
