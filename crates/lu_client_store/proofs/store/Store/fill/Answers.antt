-- Bytes that are filled change no size.
use Rattle.lu_spec_entries.specs.Words.{Fills}
use Rattle.lu_cache.specs.Cached.{cache_after}
use Rattle.lu_client_store.proofs.Short.{short_either}
use Rattle.lu_client_store.proofs.store.Store.fill.Goals as goal

pub invariant_of-self : goal.invariant_of-self
invariant_of-self c = short_either c.fill.result c.self.inside.cache
    (cache_after c.self.inside.cache (Fills c.args.resource c.args.at c.args.from.now)) c.fill.new.self c.fill.ensures.filled
    c.fill.ensures.kept c.self.invariant c.self.invariant
