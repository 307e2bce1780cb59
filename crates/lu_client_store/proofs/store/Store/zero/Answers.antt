-- Bytes that become 0 change no size.
use Rattle.lu_spec_entries.specs.Words.{Zeroes}
use Rattle.lu_cache.specs.Cached.{cache_after}
use Rattle.lu_client_store.proofs.Short.{short_then}
use Rattle.lu_client_store.proofs.store.Store.zero.Goals as goal

pub invariant_of-self : goal.invariant_of-self
invariant_of-self c = short_then (cache_after c.self.inside.cache (Zeroes c.args.resource c.args.n)) c.cut.new.self c.cut.ensures.cut
    c.self.invariant
