-- The store has the transaction, and the reply is sent.
use Rattle.std.proofs.Common.{◌≡◌, ◌∙◌, ◌+◌, ◌*◌, ◌^◌, ◌<◌, refl, ap, sym, subst}
use Rattle.std.specs.Prelude.{IsSome}
use Rattle.lu_spec_entries.specs.Carried.{Deed}
use Rattle.lu_txn.specs.Slots.{slot_of}
use Rattle.lu_target_store.specs.Stores.{HasTaken}
use Rattle.lu_target_server.specs.Servers.{ServerState}
use Rattle.lu_target_server.specs.Answering.{IsAppended}
use Rattle.lu_target_server.proofs.server.Server.append.Goals as goal

pub append-requires : goal.append-requires
append-requires g c =
    record {
      slot = subst (λ (s : ServerState). IsSome (slot_of c.args.reply.who s.store.journal.slots)) (sym c.self.view_is) c.requires.may.slot;
      taken = subst (λ (s : ServerState). HasTaken c.args.reply.who c.args.request.tag s.store) (sym c.self.view_is) c.requires.may.taken;
      tag = c.requires.tag;
      above = subst (λ (s : ServerState). s.store.journal.newest < c.args.reply.txn.0) (sym c.self.view_is) c.requires.above;
      boot = subst (λ (s : ServerState). c.args.reply.txn.0 < (s.store.journal.boot + 1) * 2 ^ 32) (sym c.self.view_is) c.requires.boot;
    }

pub returns-clause-appended : goal.returns-clause-appended
returns-clause-appended g c =
    let d : Deed = record { tag = c.args.request.tag; op = c.args.request.op; writes = c.args.written; reply = c.args.reply } in
    let new : ServerState = record {
      id = c.self.inside.id.0;
      boot = c.self.inside.boot;
      expire = c.self.inside.expire;
      kind = g.S.Service.kind;
      contents = g.S.Service.contents c.self.inside.service;
      store = c.append.new.self;
      locks = c.self.inside.locks;
      requests = c.remove.new.self;
    } in
    subst (λ (old : ServerState). IsAppended d old new) c.self.view_is
    (record {
      store = c.in_ok-append.ensures.shows;
      takes = c.in_ok-append.ensures.takes;
      requests = c.remove.ensures.removed;
      same =
          refl;
    })
