-- The lives so far have slots.
use Rattle.std.proofs.Common.{◌≡◌, take}
use Rattle.lu_target_refines.specs.Batches.{joined_by}
use Rattle.lu_target_store.proofs.commits.add_slots.Given as goal

abbrev pub invariant-loop-who : goal.invariant-loop-who
invariant-loop-who l = l.journal ≡ joined_by (take l.who-index l.come) l.initial.journal
