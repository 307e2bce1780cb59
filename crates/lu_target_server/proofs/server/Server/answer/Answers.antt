-- The store keeps the reply, and it is sent.
use Rattle.std.proofs.Common.{◌≡◌, ◌∙◌, refl, ap, sym, subst}
use Rattle.std.specs.Prelude.{IsSome}
use Rattle.lu_txn.specs.Slots.{slot_of}
use Rattle.lu_target_store.specs.Stores.{HasTaken}
use Rattle.lu_target_server.specs.Servers.{ServerState}
use Rattle.lu_target_server.specs.Answering.{IsAnswered}
use Rattle.lu_target_server.proofs.server.Server.answer.Goals as goal

pub keep-requires : goal.keep-requires
keep-requires g c =
    record {
      slot = subst (λ (s : ServerState). IsSome (slot_of c.args.reply.who s.store.journal.slots)) (sym c.self.view_is) c.requires.may.slot;
      taken = subst (λ (s : ServerState). HasTaken c.args.reply.who c.args.tag s.store) (sym c.self.view_is) c.requires.may.taken;
      tag = c.requires.tag;
    }

pub returns-clause-answered : goal.returns-clause-answered
returns-clause-answered g c =
    let new : ServerState = record {
      id = c.self.inside.id.0;
      boot = c.self.inside.boot;
      expire = c.self.inside.expire;
      kind = g.S.Service.kind;
      contents = g.S.Service.contents c.self.inside.service;
      store = c.keep.new.self;
      locks = c.self.inside.locks;
      requests = c.remove.new.self;
    } in
    subst (λ (old : ServerState). IsAnswered c.args.tag c.args.reply old new) c.self.view_is
    (record { store = c.in_ok-keep.ensures.shows; takes = c.in_ok-keep.ensures.takes; requests = c.remove.ensures.removed; same = refl })
