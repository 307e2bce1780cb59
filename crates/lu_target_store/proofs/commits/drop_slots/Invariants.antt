-- The lives so far have no slots.
use Rattle.std.proofs.Common.{◌≡◌, take}
use Rattle.lu_target_refines.specs.Batches.{left_by}
use Rattle.lu_target_store.proofs.commits.drop_slots.Given as goal

abbrev pub invariant-loop-who : goal.invariant-loop-who
invariant-loop-who l = l.journal ≡ left_by (take l.who-index l.gone) l.initial.journal
