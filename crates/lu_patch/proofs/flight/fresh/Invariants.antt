use Rattle.std.proofs.Common.{◌≡◌, take}
use Rattle.lu_spec_client.specs.Patches.{fresh}
use Rattle.lu_patch.proofs.flight.fresh.Given as goal

abbrev pub invariant-loop-byte : goal.invariant-loop-byte
invariant-loop-byte l = l.run.items ≡ fresh (take l.byte-index l.from)
