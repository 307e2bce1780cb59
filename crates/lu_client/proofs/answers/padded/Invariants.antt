-- So many bytes are there.
use Rattle.std.proofs.Common.{◌≡◌}
use Rattle.lu_spec_client.specs.Messages.{padded}
use Rattle.lu_client.proofs.answers.padded.Given as goal

abbrev pub invariant-loop-place : goal.invariant-loop-place
invariant-loop-place l = l.made ≡ padded l.fn.bytes l.place
