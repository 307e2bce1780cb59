-- None of the locks before has a change of the object, and nothing has changed.
use Rattle.std.proofs.Common.{◌≡◌, drop}
use Rattle.lu_spec_client.specs.Caches.{patch_at}
use Rattle.lu_spec_client.specs.WriteBack.{flushes}
use Rattle.lu_client_store.proofs.store.Store.take_first_flush.Given as goal

abbrev pub invariant-loop-held : goal.invariant-loop-held
invariant-loop-held l =
    (l.self ≡ l.initial.self)
    × (flushes l.resource (patch_at l.resource l.initial.self.store.patches) l.locks
    ≡ flushes l.resource (patch_at l.resource l.initial.self.store.patches) (drop l.held-index l.locks))
