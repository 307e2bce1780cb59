-- Its reply has the size that was reported.
use Rattle.std.proofs.Common.{◌≡◌, sym, ap, subst, ◌∙◌}
use Rattle.std.proofs.lemmas.Result.{on_ok_weaker}
use Rattle.lu_msg.specs.declared.answers.Answer.TheVariants as told
use Rattle.lu_msg.specs.declared.messages.Reply.{Reply}
use Rattle.lu_target_store.specs.Stores.{Serves}
use Rattle.lu_spec_target.specs.Glimpses.{answered, by_holder}
use Rattle.lu_spec_target.specs.Replies.{none}
use Rattle.lu_spec_target.specs.States.{Target}
use Rattle.lu_target_server.specs.Answering.{Tells}
use Rattle.lu_target_server.specs.Servers.{ServerState}
use Rattle.lu_target_server.proofs.ObjectReplies.{size_reply}
use Rattle.lu_target_server.proofs.Replying.{sent_as, is_answered_as}
use Rattle.lu_target_server.proofs.server.Server.say_reported.Goals as goal

pub returns-clause-sent : goal.returns-clause-sent
returns-clause-sent g c =
    let reply : Reply = c.plain_reply-reply.result in
    let is : (v : Target) → Tells c.args.self.now v → reply ≡ (answered v (by_holder c.args.report.now) c.args.request.now
    (told.Size c.args.size)).reply = λ v t.
    size_reply g.S.Service.acts (g.S.Service.contents c.self.inside.service) v c.args.request.now c.args.size c.in_ok-touched.touched
    c.in_ok-seen.seen (by_holder c.args.report.now) reply
    (g.met.S.Service.serves_objects (ap (λ (s : ServerState). s.kind) c.self.view_is ∙ c.requires.objects)) c.requires.sizes
    (c.in_ok-touched.ensures.touches none)
    (c.in_ok-seen.ensures.seen v (subst (λ (s : ServerState). Serves s.store v) (sym c.self.view_is) t.store))
    (c.plain_reply-reply.ensures.reply v t)
    in
    on_ok_weaker c.answer.result
    (λ sent. λ v t. sent_as c.args.turn.now c.answer.new.turn reply
    (answered v (by_holder c.args.report.now) c.args.request.now (told.Size c.args.size)).reply (is v t) sent) c.answer.ensures.sent

pub returns-clause-answered : goal.returns-clause-answered
returns-clause-answered g c =
    let reply : Reply = c.plain_reply-reply.result in
    let is : (v : Target) → Tells c.args.self.now v → reply ≡ (answered v (by_holder c.args.report.now) c.args.request.now
    (told.Size c.args.size)).reply = λ v t.
    size_reply g.S.Service.acts (g.S.Service.contents c.self.inside.service) v c.args.request.now c.args.size c.in_ok-touched.touched
    c.in_ok-seen.seen (by_holder c.args.report.now) reply
    (g.met.S.Service.serves_objects (ap (λ (s : ServerState). s.kind) c.self.view_is ∙ c.requires.objects)) c.requires.sizes
    (c.in_ok-touched.ensures.touches none)
    (c.in_ok-seen.ensures.seen v (subst (λ (s : ServerState). Serves s.store v) (sym c.self.view_is) t.store))
    (c.plain_reply-reply.ensures.reply v t)
    in
    on_ok_weaker c.answer.result
    (λ answers. λ v t.
    is_answered_as c.args.request.now.tag reply (answered v (by_holder c.args.report.now) c.args.request.now (told.Size c.args.size)).reply
    c.args.self.now c.answer.new.self (is v t) answers)
    c.answer.ensures.answered
