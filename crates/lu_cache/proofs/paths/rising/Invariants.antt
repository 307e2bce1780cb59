-- What is left in the list, put upon what is in the set, makes the whole.
use Rattle.std.proofs.Common.{◌≡◌, [], length}
use Rattle.lu_cache.proofs.InOrder.{upon}
use Rattle.lu_cache.proofs.paths.rising.Given as goal

abbrev pub invariant-loop-cookie : goal.invariant-loop-cookie
invariant-loop-cookie l = upon l.cookies.items l.sorted.keys ≡ upon l.initial.cookies.items []

abbrev pub decreases-loop-cookie : goal.decreases-loop-cookie
decreases-loop-cookie l = length l.cookies.items
