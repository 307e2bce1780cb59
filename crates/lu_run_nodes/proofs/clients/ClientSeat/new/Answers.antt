use Rattle.lu_spec_run.specs.Scenarios.{head_of}
use Rattle.lu_run_nodes.proofs.ClientTurns.{shows_first}
use Rattle.lu_run_nodes.proofs.clients.ClientSeat.new.Goals as goal

pub returns : goal.returns
returns c = record { shows = shows_first (head_of c.args.head.now) c.args.number c.in_ok-client.client c.in_ok-client.ensures.first }
