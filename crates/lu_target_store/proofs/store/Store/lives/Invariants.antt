-- The lives so far are the first ones.
use Rattle.std.proofs.Common.{◌≡◌, ◌-◌, length, take}
use Rattle.lu_txn.specs.Slots.{lives_of}
use Rattle.lu_target_store.proofs.store.Store.lives.Given as goal

abbrev pub invariant-loop-who : goal.invariant-loop-who
invariant-loop-who g l = l.lives ≡ take (length l.lives) (lives_of l.initial.self.journal.slots)

abbrev pub decreases-loop-who : goal.decreases-loop-who
decreases-loop-who g l = length (lives_of l.initial.self.journal.slots) - length l.lives
