-- A state put together from its parts.
use Rattle.std.proofs.Common.{List}
use Rattle.lu_base.specs.declared.locks.Resource.{Resource}
use Rattle.lu_held.specs.Held.{HeldState}
use Rattle.lu_spec_client.specs.Patches.{Patch}
use Rattle.lu_cache.specs.Cached.{Cached}
use Rattle.lu_client_store.specs.Stored.{StoreState}

abbrev pub together : HeldState → Cached → List (Resource × Patch) → StoreState
together h c patches =
    record {
      unused = h.unused;
      facts = c.facts;
      store = record { held = h.locks; bytes = c.bytes; sizes = c.sizes; shown = c.shown; patches = patches };
    }
