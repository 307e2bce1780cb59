-- The turn of the call with its stripes.
use Rattle.std.proofs.Common.{ap}
use Rattle.lu_spec_run.specs.Scenarios.{with_stripes}
use Rattle.lu_run_nodes.proofs.ClientTurns.{makes_call}
use Rattle.lu_run_nodes.proofs.clients.ClientSeat.begin.Goals as goal

pub returns : goal.returns
returns c =
    let same = ap with_stripes c.in_ok-copy.ensures.same in
    record {
      made = makes_call c.args.stamp c.args.slot c.call.new.self c.call.result same c.self.view_is c.call.ensures.step c.call.ensures.after
          c.call.ensures.counted;
    }
