-- Sizes were taken, and the glimpse goes on from there.
use Rattle.std.proofs.Common.{length}
use Rattle.lu_call.proofs.Glimpsing.{Taken}
use Rattle.lu_call.proofs.glimpses.take_sizes.Given as goal

abbrev pub invariant-loop-lock : goal.invariant-loop-lock
invariant-loop-lock l = Taken l.initial.left.items l.left.items l.initial.sizes l.sizes l.store.store

abbrev pub decreases-loop-lock : goal.decreases-loop-lock
decreases-loop-lock l = length l.left.items
