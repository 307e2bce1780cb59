-- The lives so far have slots.
use Rattle.std.proofs.Common.{◌≡◌, take}
use Rattle.lu_txn.specs.Slots.{with_lives}
use Rattle.lu_txn.proofs.slots.Slots.add_all.Given as goal

abbrev pub invariant-loop-who : goal.invariant-loop-who
invariant-loop-who l = l.self ≡ with_lives (take l.who-index l.lives) l.initial.self
