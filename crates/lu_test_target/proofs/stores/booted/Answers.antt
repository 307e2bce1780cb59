-- The batch has no transaction, and the disk was loaded as it is.
use Rattle.std.proofs.Common.{subst, sym}
use Rattle.lu_test_target.specs.Disks.{IsOne}
use Rattle.lu_test_target.proofs.StoreDisks.{one_below}
use Rattle.lu_test_target.proofs.stores.booted.Goals as goal

pub boot-requires-clause-below : goal.boot-requires-clause-below
boot-requires-clause-below c =
    one_below c.load.new.self.batches (subst IsOne (sym c.in_ok-batches.ensures.same) c.in_ok-disk.ensures.batch)
