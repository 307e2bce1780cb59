-- The last free lock of the entries is the least recently used.
use Rattle.std.proofs.Common.{◌∙◌, ap, ◌-◌, length, filter}
use Rattle.std.specs.Prelude.{option_map, slice_get}
use Rattle.lu_held.specs.Locks.{name_of, is_free}
use Rattle.lu_held.proofs.Trims.{last_free_is}
use Rattle.lu_held.proofs.held.Held.oldest_free.Goals as goal

pub returns : goal.returns
returns c = c.last_free.ensures ∙ last_free_is c.self.inside.uses.entries c.self.invariant.kept.keyed
    ∙ ap (λ state. option_map name_of (slice_get (filter is_free state.locks) (length (filter is_free state.locks) - 1))) c.self.view_is
