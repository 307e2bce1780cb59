-- The last boot so far.
use Rattle.std.proofs.Common.{◌≡◌, take}
use Rattle.lu_target_store.specs.Commits.{last_boot}
use Rattle.lu_target_store.proofs.commits.last_boot.Given as goal

abbrev pub invariant-loop-batch : goal.invariant-loop-batch
invariant-loop-batch l = l.last ≡ last_boot (take l.batch-index l.batches)
