-- What the batches so far tell.
use Rattle.std.proofs.Common.{◌≡◌, take}
use Rattle.lu_txn.specs.Loads.{stored_by}
use Rattle.lu_txn.proofs.loads.Stored.by.Given as goal

abbrev pub invariant-loop-batch : goal.invariant-loop-batch
invariant-loop-batch l = l.stored ≡ stored_by (take l.batch-index l.batch-items)
