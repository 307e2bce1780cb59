-- The request makes the next transaction.
use Rattle.std.proofs.Common.{◌≡◌, ◌<◌, ◌+◌, ◌*◌, ◌^◌, ◌∙◌, sym, ap, subst}
use Rattle.lu_base.specs.declared.ids.Txn.{Txn as TxnOf}
use Rattle.lu_msg.specs.declared.messages.Reply.{Reply}
use Rattle.lu_service.specs.declared.services.Kind.TheVariants.{Mdt}
use Rattle.lu_service.specs.Contents.{Contents, asked}
use Rattle.lu_service.specs.Names.{names}
use Rattle.lu_service.specs.Takes.{Takes}
use Rattle.lu_target_store.specs.Stores.{StoreState}
use Rattle.lu_target_server.specs.Servers.{ServerState, IsTaken}
use Rattle.lu_base.specs.declared.ids.At.{At}
use Rattle.lu_target_server.specs.Acting.{HasToldAs}
use Rattle.lu_target_server.specs.Answering.{Tells}
use Rattle.lu_target_server.proofs.Composing.{on_ok_two}
use Rattle.lu_target_server.proofs.Executions.{waiting_taken, above_all, may_answer, transacts_made}
use Rattle.lu_target_server.proofs.server.Server.transact.Goals as goal

pub writes-requires : goal.writes-requires
writes-requires g c =
    let s = c.requires.stands in
    record {
      takes = subst (λ (x : ServerState). Takes x.kind c.args.request.op) (sym c.self.view_is)
          (IsTaken.takes (waiting_taken c.args.self.now s.0 c.args.request s.1 c.requires.waits));
    }

pub told_as-requires : goal.told_as-requires
told_as-requires g c =
    let s = c.requires.stands in
    record {
      names = c.requires.names;
      stands = c.requires.stands;
      waits = c.requires.waits;
      above = above_all c.args.self.now s.0 c.in_ok-number.number c.requires.names s.1 (c.in_ok-number.ensures.number s.0 s.1.store);
    }

pub append-requires : goal.append-requires
append-requires g c =
    let s = c.requires.stands in
    let old = c.args.self.now in
    let by = c.in_ok-reply.ensures.told in
    let reply = c.in_ok-reply.reply in
    let mid : ServerState = c.told_as.new.self in
    let store_is : mid.store ≡ old.store = ap (λ (x : ServerState). x.store) by.mid_is in
    let number_is : reply.txn ≡ c.in_ok-number.number =
    ap (λ (told : Reply). told.txn) (by.replies s.0 (subst (λ (x : ServerState). Tells x s.0) (sym by.mid_is)
    (record { boot = s.1.boot; store = s.1.store }))) in
    record {
      may = may_answer old mid s.0 c.args.request reply s.1 c.requires.waits store_is c.in_ok-reply.ensures.own;
      tag = IsTaken.tag (waiting_taken old s.0 c.args.request s.1 c.requires.waits);
      above = subst (λ (x : StoreState). x.journal.newest < reply.txn.0) (sym store_is)
          (subst (λ (n : TxnOf). old.store.journal.newest < n.0) (sym number_is) c.in_ok-number.ensures.above);
      boot = subst (λ (x : StoreState). reply.txn.0 < (x.journal.boot + 1) * 2 ^ 32) (sym store_is)
          (subst (λ (n : TxnOf). n.0 < (old.store.journal.boot + 1) * 2 ^ 32) (sym number_is) c.in_ok-number.ensures.boot);
    }

pub returns-clause-makes : goal.returns-clause-makes
returns-clause-makes g c =
    let r = c.args.request in
    let old = c.args.self.now in
    let acts = g.S.Service.acts in
    let kind_is : g.S.Service.kind ≡ Mdt = ap (λ (x : ServerState). x.kind) c.self.view_is ∙ c.requires.names in
    let contents_is : g.S.Service.contents c.self.inside.service ≡ old.contents = ap (λ (x : ServerState). x.contents) c.self.view_is in
    let number = c.in_ok-number.number in
    on_ok_two _ _ _
    (λ sent appended.
    transacts_made acts c.args.turn.now.at r c.in_ok-written.written c.in_ok-reply.reply old c.told_as.new.self c.append.new.self
    (record {
      names = g.met.S.Service.serves_names kind_is;
      kind = c.requires.names;
      waits = c.requires.waits;
      number = number;
      next = c.in_ok-number.ensures.number;
      writes = subst (λ (x : Contents). c.in_ok-written.written ≡ acts.writes x (asked number r.who r.op)) contents_is
          (c.in_ok-written.ensures.writes number);
      by = subst (λ (at : At). HasToldAs acts at number r c.in_ok-reply.reply old c.told_as.new.self) c.at.ensures.at
          c.in_ok-reply.ensures.told;
      appended = appended;
    })
    c.args.turn.now c.append.new.turn sent)
    c.append.result c.append.ensures.sent c.append.ensures.appended
