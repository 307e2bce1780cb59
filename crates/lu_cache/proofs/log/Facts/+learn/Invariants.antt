-- The facts that are left.
use Rattle.std.proofs.Common.{length}
use Rattle.lu_cache.proofs.log.Facts.+learn.Given as goal

abbrev pub decreases-learn : goal.decreases-learn
decreases-learn l = length l.facts.items
