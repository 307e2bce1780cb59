-- The lives so far have no slots.
use Rattle.std.proofs.Common.{◌≡◌, take}
use Rattle.lu_txn.specs.Slots.{without_lives}
use Rattle.lu_txn.proofs.slots.Slots.remove_all.Given as goal

abbrev pub invariant-loop-who : goal.invariant-loop-who
invariant-loop-who l = l.self ≡ without_lives (take l.who-index l.lives) l.initial.self
