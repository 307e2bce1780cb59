-- The names that are left.
use Rattle.std.proofs.Common.{length}
use Rattle.lu_cache.proofs.paths.+walk.Given as goal

abbrev pub decreases-walk : goal.decreases-walk
decreases-walk g l = length l.names.now
