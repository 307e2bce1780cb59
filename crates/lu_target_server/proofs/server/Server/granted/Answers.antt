-- Its reply has the range and the size of the object.
use Rattle.std.proofs.Common.{◌≡◌, [], ◌∷◌, Some, sym, subst, ◌∙◌}
use Rattle.std.proofs.lemmas.Result.{on_ok_weaker}
use Rattle.lu_msg.specs.declared.answers.Answer.TheVariants as told
use Rattle.lu_msg.specs.declared.messages.Reply.{Reply}
use Rattle.lu_target_store.specs.Stores.{Serves}
use Rattle.lu_spec_target.specs.Glimpses.{answered}
use Rattle.lu_spec_target.specs.Queues.{extent_of, size_of}
use Rattle.lu_spec_target.specs.Replies.{replies}
use Rattle.lu_spec_target.specs.States.{Target}
use Rattle.lu_spec_entries.specs.Carried.{Deed}
use Rattle.lu_target_server.specs.Answering.{TellsSizes, IsAnswered}
use Rattle.lu_target_server.specs.Servers.{ServerState}
use Rattle.lu_target_server.proofs.ObjectReplies.{granted_reply, noted_grant}
use Rattle.lu_target_server.proofs.Replying.{sent_as, is_answered_as}
use Rattle.lu_target_server.proofs.server.Server.granted.Goals as goal

pub returns-clause-sent : goal.returns-clause-sent
returns-clause-sent g c =
    let reply : Reply = c.plain_reply-reply.result in
    let back = c.in_ok-size.ensures.same in
    let is : (v : Target) → TellsSizes c.args.self.now v → reply ≡ (answered v c.args.turn.now.at c.args.request.now
    (told.Granted c.args.lock.cookie (extent_of c.args.lock) (size_of v c.args.lock.resource))).reply = λ v t.
    let now : TellsSizes c.size_of.new.self v = subst (λ (s : ServerState). TellsSizes s v) (sym back) t in
    granted_reply c.args.self.now.contents v c.args.request.now c.args.lock c.extent_of-extent.result c.in_ok-size.size
    c.in_ok-touched.touched c.in_ok-seen.seen c.at.result c.args.turn.now.at reply
    t.objects c.requires.op c.extent_of-extent.ensures.extent c.in_ok-size.ensures.size c.in_ok-touched.ensures.range
    (c.in_ok-seen.ensures.seen v (subst (λ (s : ServerState). Serves s.store v) (sym c.self.view_is) now.tells.store))
    (c.at.ensures.at ∙ c.in_ok-note.ensures.turn)
    (c.plain_reply-reply.ensures.reply v now.tells)
    in
    on_ok_weaker c.answer.result
    (λ sent. λ v t.
    let d : Deed = answered v c.args.turn.now.at c.args.request.now
    (told.Granted c.args.lock.cookie (extent_of c.args.lock) (size_of v c.args.lock.resource)) in
    noted_grant c.args.turn.now c.note.new.self c.answer.new.turn c.args.lock (Some d) (replies d ∷ []) c.in_ok-note.ensures.added
    c.in_ok-note.ensures.turn
    (sent_as c.note.new.self c.answer.new.turn reply d.reply (is v t) sent)) c.answer.ensures.sent

pub returns-clause-answered : goal.returns-clause-answered
returns-clause-answered g c =
    let reply : Reply = c.plain_reply-reply.result in
    let back = c.in_ok-size.ensures.same in
    let is : (v : Target) → TellsSizes c.args.self.now v → reply ≡ (answered v c.args.turn.now.at c.args.request.now
    (told.Granted c.args.lock.cookie (extent_of c.args.lock) (size_of v c.args.lock.resource))).reply = λ v t.
    let now : TellsSizes c.size_of.new.self v = subst (λ (s : ServerState). TellsSizes s v) (sym back) t in
    granted_reply c.args.self.now.contents v c.args.request.now c.args.lock c.extent_of-extent.result c.in_ok-size.size
    c.in_ok-touched.touched c.in_ok-seen.seen c.at.result c.args.turn.now.at reply
    t.objects c.requires.op c.extent_of-extent.ensures.extent c.in_ok-size.ensures.size c.in_ok-touched.ensures.range
    (c.in_ok-seen.ensures.seen v (subst (λ (s : ServerState). Serves s.store v) (sym c.self.view_is) now.tells.store))
    (c.at.ensures.at ∙ c.in_ok-note.ensures.turn)
    (c.plain_reply-reply.ensures.reply v now.tells)
    in
    on_ok_weaker c.answer.result
    (λ answers. λ v t.
    is_answered_as c.args.request.now.tag reply (answered v c.args.turn.now.at c.args.request.now
    (told.Granted c.args.lock.cookie (extent_of c.args.lock) (size_of v c.args.lock.resource))).reply
    c.args.self.now c.answer.new.self (is v t) (subst (λ (s : ServerState). IsAnswered c.args.request.now.tag reply s c.answer.new.self)
    back answers)) c.answer.ensures.answered
