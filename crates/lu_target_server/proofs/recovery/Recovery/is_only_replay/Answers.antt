-- What is known of who gave the replays decides it.
use Rattle.std.proofs.Common.{subst}
use Rattle.std.specs.Prelude.{◌↔◌, IsTrue}
use Rattle.lu_spec_target.specs.Kept.{replayed}
use Rattle.lu_window.specs.States.{State}
use Rattle.lu_target_server.specs.Recovering.{IsOnlyReplay}
use Rattle.lu_target_server.proofs.GiverKnown.{is_only_replay}
use Rattle.lu_target_server.proofs.recovery.Recovery.is_only_replay.Goals as goal

pub returns : goal.returns
returns c =
    let r = replayed c.args.replay.now in
    let w = c.self.inside.window in
    record {
      only = subst (λ (it : State). IsTrue c.is_free.result ↔ IsOnlyReplay r it.window.replays) c.self.view_is
          (is_only_replay c.is_free.result r c.self.inside.replays w.window.replays c.self.invariant.0.0 c.self.invariant.1.0
          c.is_free.ensures.free);
    }
