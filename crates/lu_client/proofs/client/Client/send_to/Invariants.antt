-- The rest is left to send, and fewer wait.
use Rattle.std.proofs.Common.{length}
use Rattle.lu_spec_client.specs.Imports.{import_of}
use Rattle.lu_client.specs.Fronts.{SendsOn}
use Rattle.lu_client.proofs.client.Client.send_to.Given as goal

abbrev pub invariant-loop : goal.invariant-loop
invariant-loop l = SendsOn l.target.0 l.initial.self l.self l.initial.turn l.turn

abbrev pub decreases-loop : goal.decreases-loop
decreases-loop l = length (import_of l.target.0 l.self.client.imports).queue
