use Rattle.std.proofs.Common.{◌≡◌, take}
use Rattle.lu_spec_client.specs.Patches.{bytes_of}
use Rattle.lu_patch.proofs.flight.bytes_of.Given as goal

abbrev pub invariant-loop-dirty : goal.invariant-loop-dirty
invariant-loop-dirty l = l.bytes ≡ bytes_of (take l.dirty-index l.run)
