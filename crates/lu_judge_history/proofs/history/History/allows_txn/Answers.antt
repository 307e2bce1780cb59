-- A transaction of an object storage target is a piece.
use Rattle.std.proofs.Common.{◌≡◌, Option, ap, subst, ◌∙◌}
use Rattle.std.specs.Prelude.{IsTrue, ◌↔◌}
use Rattle.std.specs.Option.{option_map}
use Rattle.lu_msg.specs.declared.messages.Request.{Request}
use Rattle.lu_msg.specs.declared.operations.Op.{Op}
use Rattle.lu_spec_laws.specs.Words.Lives.{is_gone}
use Rattle.lu_spec_laws.specs.Words.Lost.{is_lost}
use Rattle.lu_spec_laws.specs.Words.Requests.{asked}
use Rattle.lu_spec_laws.specs.Laws.History.{PieceAt}
use Rattle.lu_judge_history.specs.Shown.{whole_of}
use Rattle.lu_judge_history.proofs.Telling.{piece_by}
use Rattle.lu_judge_history.proofs.history.History.allows_txn.Goals as goal

pub returns : goal.returns
returns c = λ past shown.
    let whole = whole_of c.args.self.now in
    let asks : option_map (λ o. o.now) c.asked-op.result ≡ asked past c.args.target c.args.who c.args.xid.0 =
    c.asked-op.ensures.asked ∙ ap (λ (r : Option Request). option_map (λ q. q.op) r)
    (shown.ledger.requests c.args.target c.args.who c.args.xid.0) in
    piece_by (is_gone whole) (is_lost whole) c.args.self.now.osts past c.args.txn c.args.who c.args.xid.0 c.args.target _
    c.if-target-eq0.false
    (subst (λ (o : Option Op). IsTrue c.carries.result ↔ PieceAt past c.args.target c.args.who c.args.xid.0 o) asks
    (c.carries.ensures past shown.limits shown.carried asks))
