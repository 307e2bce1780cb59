-- The replays rise from above all that the service has used.
use Rattle.std.proofs.Common.{map, sym, subst}
use Rattle.lu_window.specs.Shown.{kept_replay}
use Rattle.lu_target_server.specs.Closing.{MayPerform}
use Rattle.lu_target_server.specs.Servers.{ServerState}
use Rattle.lu_target_server.proofs.Standing.{rises_own}
use Rattle.lu_target_server.proofs.server.Server.perform_again.Goals as goal

pub close_window-requires-clause-rising : goal.close_window-requires-clause-rising
close_window-requires-clause-rising g c =
    rises_own (map kept_replay c.args.kept) c.args.gone.now _ c.requires.may.0
    (subst (λ (it : ServerState). MayPerform (map kept_replay c.args.kept) c.args.gone.now it c.requires.may.0) (sym c.self.view_is)
    c.requires.may.1)
