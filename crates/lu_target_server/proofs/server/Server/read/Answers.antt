-- Its reply has the page as far as the range goes.
use Rattle.std.proofs.Common.{◌≡◌, sym, ap, subst, ◌∙◌}
use Rattle.std.proofs.lemmas.Result.{on_ok_weaker}
use Rattle.lu_spec_machine.specs.Objects.{content}
use Rattle.lu_msg.specs.declared.answers.Answer.TheVariants as told
use Rattle.lu_msg.specs.declared.messages.Reply.{Reply}
use Rattle.lu_service.specs.Contents.{Contents}
use Rattle.lu_target_store.specs.Stores.{Serves}
use Rattle.lu_target_refines.specs.Contents.{ShowsObjects}
use Rattle.lu_spec_target.specs.Glimpses.{answered}
use Rattle.lu_spec_target.specs.Queues.{object}
use Rattle.lu_spec_target.specs.Replies.{none}
use Rattle.lu_spec_target.specs.States.{Target}
use Rattle.lu_target_server.specs.Answering.{TellsSizes}
use Rattle.lu_target_server.specs.Servers.{ServerState}
use Rattle.lu_target_server.proofs.ObjectReplies.{content_reply}
use Rattle.lu_target_server.proofs.Replying.{sent_as, is_answered_as}
use Rattle.lu_target_server.proofs.server.Server.read.Goals as goal

pub returns-clause-sent : goal.returns-clause-sent
returns-clause-sent g c =
    let reply : Reply = c.plain_reply-reply.result in
    let own : Contents = g.S.Service.contents c.self.inside.service in
    let is : (v : Target) → TellsSizes c.args.self.now v → reply
    ≡ (answered v c.args.turn.now.at c.args.request.now (told.Content
    (content c.args.page c.args.extent (object v c.args.resource)))).reply = λ v t.
    content_reply g.S.Service.acts own v c.args.request.now c.args.resource c.args.page c.args.extent c.part_of.result c.in_ok-bytes.bytes
    c.in_ok-touched.touched c.in_ok-seen.seen c.at.result
    c.args.turn.now.at reply (g.met.S.Service.serves_objects (ap (λ (s : ServerState). s.kind) c.self.view_is ∙ c.requires.objects))
    (subst (λ (s : ServerState). ShowsObjects s.contents v.contents) (sym c.self.view_is) t.objects) c.requires.op c.requires.meets
    (g.met.S.Service.lawful.within own c.args.resource) c.part_of.ensures.part c.in_ok-bytes.ensures.read
    (c.in_ok-touched.ensures.touches none)
    (c.in_ok-seen.ensures.seen v (subst (λ (s : ServerState). Serves s.store v) (sym c.self.view_is) t.tells.store)) c.at.ensures.at
    (c.plain_reply-reply.ensures.reply v t.tells)
    in
    on_ok_weaker c.answer.result
    (λ sent. λ v t.
    sent_as c.args.turn.now c.answer.new.turn reply (answered v c.args.turn.now.at c.args.request.now
    (told.Content (content c.args.page c.args.extent (object v c.args.resource)))).reply (is v t) sent)
    c.answer.ensures.sent

pub returns-clause-answered : goal.returns-clause-answered
returns-clause-answered g c =
    let reply : Reply = c.plain_reply-reply.result in
    let own : Contents = g.S.Service.contents c.self.inside.service in
    let is : (v : Target) → TellsSizes c.args.self.now v → reply
    ≡ (answered v c.args.turn.now.at c.args.request.now (told.Content
    (content c.args.page c.args.extent (object v c.args.resource)))).reply = λ v t.
    content_reply g.S.Service.acts own v c.args.request.now c.args.resource c.args.page c.args.extent c.part_of.result c.in_ok-bytes.bytes
    c.in_ok-touched.touched c.in_ok-seen.seen c.at.result
    c.args.turn.now.at reply (g.met.S.Service.serves_objects (ap (λ (s : ServerState). s.kind) c.self.view_is ∙ c.requires.objects))
    (subst (λ (s : ServerState). ShowsObjects s.contents v.contents) (sym c.self.view_is) t.objects) c.requires.op c.requires.meets
    (g.met.S.Service.lawful.within own c.args.resource) c.part_of.ensures.part c.in_ok-bytes.ensures.read
    (c.in_ok-touched.ensures.touches none)
    (c.in_ok-seen.ensures.seen v (subst (λ (s : ServerState). Serves s.store v) (sym c.self.view_is) t.tells.store)) c.at.ensures.at
    (c.plain_reply-reply.ensures.reply v t.tells)
    in
    on_ok_weaker c.answer.result
    (λ answers. λ v t.
    is_answered_as c.args.request.now.tag reply (answered v c.args.turn.now.at c.args.request.now
    (told.Content (content c.args.page c.args.extent (object v c.args.resource)))).reply c.args.self.now
    c.answer.new.self (is v t) answers) c.answer.ensures.answered
