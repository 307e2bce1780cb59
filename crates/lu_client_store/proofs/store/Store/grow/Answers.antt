-- A change that lies below 2^40 makes no size greater.
use Rattle.lu_spec_entries.specs.Words.{Grown}
use Rattle.lu_cache.specs.Cached.{cache_after}
use Rattle.lu_client_store.proofs.Short.{short_then, short_grown, fits_in_file}
use Rattle.lu_client_store.proofs.store.Store.grow.Goals as goal

pub grow-requires : goal.grow-requires
grow-requires c = record { fits = fits_in_file c.args.change.now c.requires.fits }

pub invariant_of-self : goal.invariant_of-self
invariant_of-self c =
    short_then (cache_after c.self.inside.cache (Grown c.args.resource c.args.change.now)) c.grow.new.self c.grow.ensures.grown
    (short_grown c.args.resource c.args.change.now c.self.inside.cache.sizes c.requires.fits c.self.invariant)
