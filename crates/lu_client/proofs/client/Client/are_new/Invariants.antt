-- Those before are new.
use Rattle.std.proofs.Common.{◌≡◌, true, take}
use Rattle.lu_client.specs.Comings.{are_new}
use Rattle.lu_client.proofs.client.Client.are_new.Given as goal

abbrev pub invariant-loop-at : goal.invariant-loop-at
invariant-loop-at l = are_new l.target.0 (take l.at l.locks) l.self.client.store.held ≡ true
