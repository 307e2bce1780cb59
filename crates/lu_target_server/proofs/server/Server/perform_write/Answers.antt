-- The deed is the row's, and the parts together show what it makes.
use Rattle.std.proofs.Common.{◌≡◌, ℕ, ◌<◌, sym, ap, subst, ◌∙◌}
use Rattle.std.specs.Prelude.{IsSome}
use Rattle.lu_base.specs.declared.ids.Who.{Who}
use Rattle.lu_msg.specs.Limits.{tag_count}
use Rattle.lu_msg.specs.declared.messages.Reply.{Reply}
use Rattle.lu_msg.specs.declared.messages.Request.{Request}
use Rattle.lu_service.specs.Contents.{asked}
use Rattle.lu_txn.specs.Slots.{slot_of}
use Rattle.lu_target_store.specs.Stores.{HasTaken}
use Rattle.lu_spec_target.specs.Objects.{row_written}
use Rattle.lu_target_server.specs.Answering.{MayRefuse, IsAppended}
use Rattle.lu_spec_entries.specs.Given.{giving}
use Rattle.lu_target_server.specs.Servers.{ServerState}
use Rattle.lu_target_server.proofs.AnsweredObjects.{may_refuse}
use Rattle.lu_target_server.proofs.Performing.{performed, alters_unseen, reply_plain, makes_written}
use Rattle.lu_target_server.proofs.Replying.{on_ok_two}
use Rattle.lu_target_server.proofs.server.Server.perform_write.Goals as goal

pub append-requires-clause-may : goal.append-requires-clause-may
append-requires-clause-may g c =
    let it = c.self.inside in
    let r = c.args.request.now in
    let may : MayRefuse r c.args.self.now = may_refuse c.args.self.now c.requires.stands.0 r c.requires.stands.1 c.requires.waits in
    let copied : c.in_ok-request.request ≡ r = c.in_ok-request.ensures.same in
    let tag : c.in_ok-request.request.tag ≡ r.tag = ap (λ (x : Request). x.tag) copied in
    let own = c.reply-reply.ensures.own in
    record {
      slot = subst (λ (who : Who). IsSome (slot_of who it.store.journal.slots)) (sym own)
          (subst (λ (s : ServerState). IsSome (slot_of r.who s.store.journal.slots)) (sym c.self.view_is) may.slot);
      taken = subst (λ (who : Who). HasTaken who c.in_ok-request.request.tag it.store) (sym own)
          (subst (λ (t : ℕ). HasTaken r.who t it.store) (sym tag)
          (subst (λ (s : ServerState). HasTaken r.who r.tag s.store) (sym c.self.view_is) may.taken));
    }

pub append-requires-clause-tag : goal.append-requires-clause-tag
append-requires-clause-tag g c =
    let it = c.self.inside in
    let r = c.args.request.now in
    let may : MayRefuse r c.args.self.now = may_refuse c.args.self.now c.requires.stands.0 r c.requires.stands.1 c.requires.waits in
    let copied : c.in_ok-request.request ≡ r = c.in_ok-request.ensures.same in
    let tag : c.in_ok-request.request.tag ≡ r.tag = ap (λ (x : Request). x.tag) copied in
    subst (λ (t : ℕ). t < tag_count) (sym tag) may.tag

pub returns-clause-makes : goal.returns-clause-makes
returns-clause-makes g c =
    let it = c.self.inside in
    let r = c.args.request.now in
    let number = c.in_ok-number.number in
    let reply : Reply = c.reply-reply.result in
    let copied : c.in_ok-request.request ≡ r = c.in_ok-request.ensures.same in
    let middle : ServerState =
    record {
      id = it.id.0;
      boot = it.boot;
      expire = it.expire;
      kind = g.S.Service.kind;
      contents = g.S.Service.contents c.apply.new.self;
      store = it.store;
      locks = it.locks;
      requests = it.requests;
    }
    in
    on_ok_two c.append.result
    (λ sent appended.
    makes_written c.args.self.now middle c.append.new.self r c.args.turn.now.at number c.in_ok-answer.answer c.in_ok-written.written reply
    g.S.Service.acts
    (g.met.S.Service.serves_objects (ap (λ (s : ServerState). s.kind) c.self.view_is ∙ c.requires.objects)) c.requires.objects
    c.requires.unasked c.requires.alters
    (λ a. alters_unseen r.op a c.requires.alters) (λ v s. c.in_ok-number.ensures.number v s.store)
    (c.in_ok-answer.ensures.answer ∙ ap (λ (s : ServerState). g.S.Service.acts.answer s.contents (asked number r.who r.op)) c.self.view_is)
    (c.in_ok-written.ensures.writes number ∙ ap (λ (s : ServerState). g.S.Service.acts.writes s.contents (asked number r.who r.op))
    c.self.view_is)
    (c.in_ok-answer.ensures.after ∙ ap (λ (s : ServerState). g.S.Service.acts.after s.contents (asked number r.who r.op)) c.self.view_is)
    (ap (λ (s : ServerState). record s { contents = g.S.Service.contents c.apply.new.self }) c.self.view_is)
    (λ v t. reply_plain v r number c.new-seen.result c.at.result c.args.turn.now.at c.new-locks.result c.in_ok-answer.answer reply
    (c.reply-reply.ensures.reply v t) c.new-seen.ensures.empty c.at.ensures.at c.new-locks.ensures.empty)
    c.args.turn.now c.append.new.turn
    (subst (λ (q : Request). c.append.new.turn ≡ giving c.args.turn.now (row_written (performed q c.in_ok-written.written reply))) copied
    sent)
    (subst (λ (q : Request). IsAppended (performed q c.in_ok-written.written reply) middle c.append.new.self) copied appended))
    c.append.ensures.sent c.append.ensures.appended
