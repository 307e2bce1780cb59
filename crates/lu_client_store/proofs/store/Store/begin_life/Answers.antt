-- Each part begins anew.
use Rattle.std.proofs.Common.{List, ◌∙◌, ap}
use Rattle.lu_base.specs.declared.locks.Resource.{Resource}
use Rattle.lu_spec_entries.specs.Words.{Life}
use Rattle.lu_spec_client.specs.Patches.{Patch}
use Rattle.lu_cache.specs.Cached.{Cached, cache_after}
use Rattle.lu_client_store.specs.Stored.{StoreState, stored_after}
use Rattle.lu_spec_client.specs.Calls.{first_life}
use Rattle.lu_client_store.proofs.Parts.{together}
use Rattle.lu_client_store.proofs.Short.{short_then}
use Rattle.lu_client_store.proofs.store.Store.begin_life.Goals as goal

-- no size is kept then
pub invariant_of-self : goal.invariant_of-self
invariant_of-self c = short_then (cache_after c.self.inside.cache (Life (first_life 0))) c.clear.new.self
    (c.clear.ensures.cleared (first_life 0)) tt

pub returns : goal.returns
returns c =
    let held = c.self.inside.held in
    record {
      begun = λ who.
          ap (λ (cache : Cached). together held cache c.clear-2.new.self) (c.clear.ensures.cleared who)
          ∙ ap (λ (patches : List (Resource × Patch)). together held (cache_after c.self.inside.cache (Life who)) patches)
          c.clear-2.ensures.cleared
          ∙ ap (λ (s : StoreState). stored_after s (Life who)) c.self.view_is;
    }
