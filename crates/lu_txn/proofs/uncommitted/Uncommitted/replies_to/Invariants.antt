-- The slots that those so far fill.
use Rattle.std.proofs.Common.{◌≡◌, take}
use Rattle.lu_txn.specs.Commits.{filled_by}
use Rattle.lu_txn.proofs.uncommitted.Uncommitted.replies_to.Given as goal

abbrev pub invariant-loop-place : goal.invariant-loop-place
invariant-loop-place l = l.slots ≡ filled_by (take l.place l.self.transactions)
