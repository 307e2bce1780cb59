-- The size is that under the locks from here on.
use Rattle.std.proofs.Common.{◌≡◌, drop}
use Rattle.lu_spec_client.specs.Looks.{size_on}
use Rattle.lu_client_store.proofs.store.Store.size_on.Given as goal

abbrev pub invariant-loop-one : goal.invariant-loop-one
invariant-loop-one l = size_on l.stripe l.used l.self.store ≡ size_on l.stripe (drop l.one-index l.used) l.self.store
