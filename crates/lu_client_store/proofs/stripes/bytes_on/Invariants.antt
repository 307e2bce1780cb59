-- Those so far.
use Rattle.std.proofs.Common.{◌≡◌, take}
use Rattle.lu_spec_client.specs.Stripes.{bytes_on}
use Rattle.lu_client_store.proofs.stripes.bytes_on.Given as goal

abbrev pub invariant-loop-i : goal.invariant-loop-i
invariant-loop-i l = l.run ≡ bytes_on l.layout l.stripe l.position (take l.i l.bytes)
