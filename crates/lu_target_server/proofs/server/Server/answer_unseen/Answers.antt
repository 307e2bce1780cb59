-- Its reply is the rows', which has seen nothing.
use Rattle.std.proofs.Common.{◌≡◌, refl}
use Rattle.std.proofs.lemmas.Result.{on_ok_weaker}
use Rattle.lu_spec_machine.specs.Objects.{object_touches}
use Rattle.lu_msg.specs.declared.messages.Reply.{Reply}
use Rattle.lu_spec_target.specs.Glimpses.{answered}
use Rattle.lu_spec_target.specs.States.{Target}
use Rattle.lu_target_server.specs.Answering.{Tells}
use Rattle.lu_target_server.proofs.Replying.{answered_as, unseen_is, sent_as, is_answered_as}
use Rattle.lu_target_server.proofs.server.Server.answer_unseen.Goals as goal

pub returns-clause-sent : goal.returns-clause-sent
returns-clause-sent g c =
    let reply : Reply = c.plain_reply-reply.result in
    let is : (v : Target) → Tells c.args.self.now v → reply ≡ (answered v c.args.turn.now.at c.args.request.now c.args.answer).reply =
    λ v t.
    answered_as v c.args.request.now c.new-seen.result c.at.result c.args.turn.now.at c.args.answer c.args.answer reply
    (c.plain_reply-reply.ensures.reply v t)
    (unseen_is v c.new-seen.result (object_touches c.args.request.now.op c.args.answer) c.new-seen.ensures.empty c.requires.unseen)
    c.at.ensures.at refl
    in
    on_ok_weaker c.answer.result
    (λ sent. λ v t. sent_as c.args.turn.now c.answer.new.turn reply (answered v c.args.turn.now.at c.args.request.now c.args.answer).reply
    (is v t) sent) c.answer.ensures.sent

pub returns-clause-answered : goal.returns-clause-answered
returns-clause-answered g c =
    let reply : Reply = c.plain_reply-reply.result in
    let is : (v : Target) → Tells c.args.self.now v → reply ≡ (answered v c.args.turn.now.at c.args.request.now c.args.answer).reply =
    λ v t.
    answered_as v c.args.request.now c.new-seen.result c.at.result c.args.turn.now.at c.args.answer c.args.answer reply
    (c.plain_reply-reply.ensures.reply v t)
    (unseen_is v c.new-seen.result (object_touches c.args.request.now.op c.args.answer) c.new-seen.ensures.empty c.requires.unseen)
    c.at.ensures.at refl
    in
    on_ok_weaker c.answer.result
    (λ answers. λ v t. is_answered_as c.args.request.now.tag reply (answered v c.args.turn.now.at c.args.request.now c.args.answer).reply
    c.args.self.now c.answer.new.self (is v t) answers)
    c.answer.ensures.answered
