-- An offset that is shown changes no size.
use Rattle.lu_spec_entries.specs.Words.{Shows}
use Rattle.lu_cache.specs.Cached.{cache_after}
use Rattle.lu_client_store.proofs.Short.{short_either}
use Rattle.lu_client_store.proofs.store.Store.show.Goals as goal

pub invariant_of-self : goal.invariant_of-self
invariant_of-self c = short_either c.show.result c.self.inside.cache
    (cache_after c.self.inside.cache (Shows c.args.lock.now.resource c.args.lock.now.cookie c.args.last)) c.show.new.self
    c.show.ensures.shown c.show.ensures.kept c.self.invariant c.self.invariant
