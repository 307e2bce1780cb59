-- So many are taken out.
use Rattle.std.proofs.Common.{◌≡◌}
use Rattle.std.specs.Prelude.{drop}
use Rattle.lu_txn.proofs.uncommitted.Uncommitted.drop_to.Given as goal

abbrev pub invariant-loop-place : goal.invariant-loop-place
invariant-loop-place l = l.self ≡ record l.initial.self { transactions = drop l._place l.initial.self.transactions }
