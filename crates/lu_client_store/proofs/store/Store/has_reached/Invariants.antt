-- It has reached if it has by the locks from here on.
use Rattle.std.proofs.Common.{◌≡◌, drop}
use Rattle.lu_spec_client.specs.Looks.{has_reached}
use Rattle.lu_client_store.proofs.store.Store.has_reached.Given as goal

abbrev pub invariant-loop-one : goal.invariant-loop-one
invariant-loop-one l = has_reached l.layout l.position l.used l.self.store
    ≡ has_reached l.layout l.position (drop l.one-index l.used) l.self.store
