use Rattle.std.proofs.Common.{sym}
use Rattle.lu_run_nodes.proofs.ClientTurns.{makes_taken}
use Rattle.lu_run_nodes.proofs.clients.ClientSeat.deliver.Goals as goal

pub returns-clause-made : goal.returns-clause-made
returns-clause-made c = makes_taken c.self.view_is c.args.message.now (sym c.in-Target.is) c.in_ok-deliver.ensures.step
    c.in_ok-deliver.ensures.after c.in_ok-deliver.ensures.counted
