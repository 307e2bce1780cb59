-- What was filed past the place still is.
use Rattle.lu_txn.specs.Indexes.{Keeps}
use Rattle.lu_txn.proofs.index.Index.remove.Given as goal

abbrev pub invariant-loop-part : goal.invariant-loop-part
invariant-loop-part l = Keeps l.place l.initial.self l.self
