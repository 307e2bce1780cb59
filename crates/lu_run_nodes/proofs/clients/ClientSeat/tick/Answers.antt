use Rattle.std.proofs.Common.{refl}
use Rattle.lu_spec_client.specs.Rows.{Ticks}
use Rattle.lu_run_nodes.proofs.ClientTurns.{makes_ok}
use Rattle.lu_run_nodes.proofs.clients.ClientSeat.tick.Goals as goal

pub returns : goal.returns
returns c =
    record {
      made = makes_ok c.args.stamp Ticks c.tick.new.self c.tick.result c.self.view_is refl c.tick.ensures.step c.tick.ensures.after
          c.tick.ensures.counted;
    }
