-- What is lost needn't be accepted.
use Rattle.std.proofs.Common.{◌≡◌, Option, sym, ap, ◌∙◌}
use Rattle.std.specs.Option.{option_map}
use Rattle.lu_msg.specs.declared.messages.Request.{Request}
use Rattle.lu_msg.specs.declared.operations.Op.{Op}
use Rattle.lu_spec_laws.specs.Words.Lives.{is_gone}
use Rattle.lu_spec_laws.specs.Words.Lost.{is_lost}
use Rattle.lu_spec_laws.specs.Words.Requests.{asked}
use Rattle.lu_spec_laws.specs.Words.Histories.{request_answer, machine_of}
use Rattle.lu_spec_laws.specs.Laws.History.{is_accepted}
use Rattle.lu_judge_history.specs.Shown.{whole_of}
use Rattle.lu_judge_history.proofs.Telling.{names_lost, names_by}
use Rattle.lu_judge_history.proofs.history.History.allows_names.Goals as goal

pub returns-then-has : goal.returns-then-has
returns-then-has c = λ past shown.
    let whole = whole_of c.args.self.now in
    names_lost (is_gone whole) (is_lost whole) c.args.self.now.osts past c.args.txn c.args.who c.args.xid.0
    (sym (c.has.ensures.lost whole shown.lost) ∙ c.if-has.true)

pub returns : goal.returns
returns c = λ past shown.
    let whole = whole_of c.args.self.now in
    let asks : option_map (λ o. o.now) c.asked-op.result ≡ asked past 0 c.args.who c.args.xid.0 =
    c.asked-op.ensures.asked ∙ ap (λ (r : Option Request). option_map (λ q. q.op) r) (shown.ledger.requests 0 c.args.who c.args.xid.0) in
    names_by (is_gone whole) (is_lost whole) c.args.self.now.osts past c.args.txn c.args.who c.args.xid.0 _
    (sym (c.has.ensures.lost whole shown.lost) ∙ c.if-has.false)
    (c.is_accepted.ensures ∙ ap is_accepted
    (c.in_ok-answer.ensures.answer c.args.self.now.osts (is_gone whole) (is_lost whole) past shown.played
    ∙ ap (λ (o : Option Op). request_answer c.args.self.now.osts (machine_of (is_gone whole) (is_lost whole) c.args.self.now.osts past)
    c.args.who c.args.txn o) asks))
