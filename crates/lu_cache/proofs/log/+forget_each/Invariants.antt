-- The numbers that are left.
use Rattle.std.proofs.Common.{length}
use Rattle.lu_cache.proofs.log.+forget_each.Given as goal

abbrev pub decreases-forget_each : goal.decreases-forget_each
decreases-forget_each l = length l.numbers.now
