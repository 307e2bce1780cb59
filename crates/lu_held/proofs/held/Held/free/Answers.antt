-- The free locks are counted beside the cache.
use Rattle.std.proofs.Common.{◌∙◌, ap, length, filter}
use Rattle.lu_held.specs.Locks.{is_free}
use Rattle.lu_held.proofs.held.Held.free.Goals as goal

pub returns : goal.returns
returns c = c.self.invariant.indexed.free ∙ ap (λ state. length (filter is_free state.locks)) c.self.view_is
