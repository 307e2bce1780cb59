use Rattle.std.proofs.Common.{◌≡◌, take}
use Rattle.lu_spec_client.specs.Patches.{bytes_of, sent}
use Rattle.lu_patch.proofs.flight.sent.Given as goal

abbrev pub invariant-loop-dirty : goal.invariant-loop-dirty
invariant-loop-dirty l = l.made.items ≡ sent (bytes_of (take l.dirty-index l.run))
