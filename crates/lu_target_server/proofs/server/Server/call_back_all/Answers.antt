-- They are called back, and told so.
use Rattle.std.proofs.Common.{ap, subst}
use Rattle.std.proofs.lemmas.Result.{on_ok_weaker}
use Rattle.lu_target_server.specs.Servers.{ServerState}
use Rattle.lu_target_server.specs.Passes.{AreCalled}
use Rattle.lu_target_server.proofs.FoundWays.{called_made}
use Rattle.lu_target_server.proofs.server.Server.call_back_all.Goals as goal

pub returns-clause-called : goal.returns-clause-called
returns-clause-called g c =
    let own : ServerState = record {
      id = c.self.inside.id.0;
      boot = c.self.inside.boot;
      expire = c.self.inside.expire;
      kind = g.S.Service.kind;
      contents = g.S.Service.contents c.self.inside.service;
      store = c.self.inside.store;
      locks = c.self.inside.locks;
      requests = c.self.inside.requests;
    } in
    let new : ServerState = record own { locks = c.call_back_all.new.self } in
    on_ok_weaker c.say_blocks.result
    (λ told. subst (λ (old : ServerState). AreCalled c.args.cookies.now old new c.args.turn.now c.say_blocks.new.turn) c.self.view_is
    (called_made c.args.cookies.now c.in_ok-called.called own c.call_back_all.new.self c.args.turn.now c.say_blocks.new.turn
    c.in_ok-called.ensures.called told))
    c.say_blocks.ensures.told

pub returns-clause-same : goal.returns-clause-same
returns-clause-same g c = ap (λ (x : ServerState). record x { locks = c.call_back_all.new.self }) c.self.view_is
