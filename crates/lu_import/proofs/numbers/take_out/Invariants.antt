-- What is still to be taken out.
use Rattle.std.proofs.Common.{◌≡◌, ℕ, length}
use Rattle.lu_import.specs.Adding.{undone}
use Rattle.lu_import.proofs.numbers.take_out.Given as goal

abbrev pub invariant-loop-number : goal.invariant-loop-number
invariant-loop-number l = undone l.added.items l.seen.keys ≡ undone l.initial.added.items l.initial.seen.keys

abbrev pub decreases-loop-number : goal.decreases-loop-number
decreases-loop-number l = goal.left-loop-number l
