-- The file isn't bound before.
use Rattle.std.proofs.Common.{◌≡◌, drop}
use Rattle.std.specs.Prelude.{map}
use Rattle.lu_spec_client.specs.Calls.{file_of}
use Rattle.lu_client.specs.Clients.{bound_of}
use Rattle.lu_client.proofs.client.Client.file.Given as goal

abbrev pub invariant-loop-bound : goal.invariant-loop-bound
invariant-loop-bound l = file_of l.handle (map bound_of (drop l.bound-index l.bound-items)) ≡ file_of l.handle l.self.client.handles
