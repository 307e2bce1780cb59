-- What is sent and what is outstanding then are the row's.
use Rattle.std.proofs.Common.{sym, ap, subst, ◌∙◌}
use Rattle.lu_target_locks.specs.Asking.{IsGlimpsed}
use Rattle.lu_target_server.specs.Servers.{ServerState}
use Rattle.lu_target_server.proofs.Glimpsing.{asks_sent, makes_asks}
use Rattle.lu_target_server.proofs.server.Server.ask.Goals as goal

pub returns-clause-makes : goal.returns-clause-makes
returns-clause-makes g c =
    let it = c.self.inside in
    let new : ServerState =
    record {
      id = it.id.0;
      boot = it.boot;
      expire = it.expire;
      kind = g.S.Service.kind;
      contents = g.S.Service.contents it.service;
      store =
          it.store;
      locks = c.ask_size.new.self;
      requests = it.requests;
    }
    in
    makes_asks c.args.self.now new c.args.turn.now c.say_ask.new.turn c.args.request.now c.args.resource c.args.lock.now
    c.in_ok-ask_size.field-0 c.requires.objects
    (ap (λ (s : ServerState). record s { locks = c.ask_size.new.self }) c.self.view_is)
    (subst (λ (s : ServerState). IsGlimpsed c.args.lock.now.cookie c.args.request.now.who c.args.request.now.xid c.in_ok-ask_size.field-0
    s.locks c.ask_size.new.self) c.self.view_is c.in_ok-ask_size.ensures.asked)
    c.requires.waits c.requires.op c.requires.unasked c.requires.held
    (λ v same. asks_sent v c.args.lock.now c.args.request.now it.boot c.args.turn.now c.say_ask.new.turn
    (same ∙ sym (ap (λ (s : ServerState). s.boot) c.self.view_is)) c.in_ok-say_ask.ensures.said)
