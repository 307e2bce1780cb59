-- The lockspace's are the rows'.
use Rattle.std.proofs.Common.{sym, subst}
use Rattle.lu_target_refines.proofs.Finding.{in_way_is}
use Rattle.lu_target_locks.specs.Servers.{ServerState, Shows}
use Rattle.lu_target_locks.proofs.server.LockServer.in_way.Goals as goal

pub returns : goal.returns
returns c =
    record {
      cookies = λ v s shared. in_way_is c.self.inside.space v c.args.parts.now c.in_ok-cookies.cookies
          (subst (λ (it : ServerState). Shows it v) (sym c.self.view_is) s).locks shared c.in_ok-cookies.ensures.cookies;
    }
