use Rattle.lu_run_nodes.proofs.ClientTurns.{makes_death}
use Rattle.lu_run_nodes.proofs.clients.ClientSeat.die.Goals as goal

pub returns : goal.returns
returns c = record { made = makes_death c.self.view_is c.in_ok-step.ensures.step c.in_ok-step.ensures.after c.in_ok-step.ensures.counted }
