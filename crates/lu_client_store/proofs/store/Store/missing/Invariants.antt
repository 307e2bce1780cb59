-- What is found is what is found under the locks from here on.
use Rattle.std.proofs.Common.{◌≡◌, drop}
use Rattle.lu_spec_client.specs.Looks.{missing}
use Rattle.lu_client_store.proofs.store.Store.missing.Given as goal

abbrev pub invariant-loop-one : goal.invariant-loop-one
invariant-loop-one l =
    missing l.layout l.position l.end l.self.store l.used
    ≡ missing l.layout l.position l.end l.self.store (drop l.one-index l.used)
