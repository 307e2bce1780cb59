-- The last item of the slice.
use Rattle.std.proofs.Common.{◌∙◌}
use Rattle.lu_cache.proofs.Learned.{last_is}
use Rattle.lu_cache.proofs.learning.last.Goals as goal

pub returns : goal.returns
returns c = record { last = c.last.ensures.value ∙ last_is c.args.locks.now }
