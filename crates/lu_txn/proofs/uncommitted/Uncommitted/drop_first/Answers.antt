-- The index keeps the later ones.
use Rattle.std.proofs.Common.{subst}
use Rattle.lu_txn.specs.Indexes.{IsFiled}
use Rattle.lu_txn.proofs.Filing.{filed_dropped}
use Rattle.lu_txn.proofs.uncommitted.Uncommitted.drop_first.Goals as goal

pub invariant_of-self : goal.invariant_of-self
invariant_of-self c =
    let log = c.self.inside in
    filed_dropped log.first log.newest.0 log.index c.remove.new.self c.in-Some.gone c.pop_front.new.self.items
    (subst (IsFiled log.first log.newest.0 log.index) c.in-Some.ensures.items c.self.invariant) c.remove.ensures.kept
