-- The number of the last one so far.
use Rattle.std.proofs.Common.{◌≡◌, take}
use Rattle.lu_txn.specs.Loads.{last_number}
use Rattle.lu_txn.proofs.loads.last_number.Given as goal

abbrev pub invariant-loop-transaction : goal.invariant-loop-transaction
invariant-loop-transaction l = l.last.0 ≡ last_number l.initial.last.0 (take l.transaction-index l.transactions)
