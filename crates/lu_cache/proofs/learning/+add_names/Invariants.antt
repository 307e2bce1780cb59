-- The names that are left.
use Rattle.std.proofs.Common.{length}
use Rattle.lu_cache.proofs.learning.+add_names.Given as goal

abbrev pub decreases-add_names : goal.decreases-add_names
decreases-add_names l = length l.names.now
