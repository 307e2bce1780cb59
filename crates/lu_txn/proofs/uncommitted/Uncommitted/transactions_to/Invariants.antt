-- Copies of those so far.
use Rattle.std.proofs.Common.{◌≡◌, take, map}
use Rattle.lu_txn.proofs.uncommitted.Uncommitted.transactions_to.Given as goal

abbrev pub invariant-loop-place : goal.invariant-loop-place
invariant-loop-place l = l.copies ≡ map (λ logged. logged.transaction) (take l.place l.self.transactions)
