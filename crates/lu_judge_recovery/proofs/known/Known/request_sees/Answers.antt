use Rattle.std.proofs.Common.{◌≡◌, sym, ap, ◌∙◌, subst}
use Rattle.std.specs.Prelude.{Option}
use Rattle.std.specs.Option.{option_map}
use Rattle.std.proofs.lemmas.Result.{IfOk-weaker}
use Rattle.lu_msg.specs.declared.operations.Op.{Op}
use Rattle.lu_spec_laws.specs.Words.Requests.{asked}
use Rattle.lu_spec_laws.specs.Words.Seen.{touches_of, seen_by}
use Rattle.lu_judge_names.specs.Formed.{IsFormed}
use Rattle.lu_judge_names.proofs.FormedLines.{asked_formed}
use Rattle.lu_judge_recovery.proofs.known.Known.request_sees.Goals as goal

pub returns : goal.returns
returns c = record {
  sees = IfOk-weaker c.seen.result _ _
      (λ numbers seen past shown.
      let is : option_map (λ o. o.now) c.asked-op.result ≡ asked past c.args.target c.args.who c.args.xid.0 =
      c.asked-op.ensures.asked ∙ ap (option_map (λ r. r.op)) (shown.ledger.requests c.args.target c.args.who c.args.xid.0) in
      let formed : IsFormed (option_map (λ o. o.now) c.asked-op.result) =
      subst (λ (o : Option Op). IsFormed o) (sym is) (asked_formed past c.args.target c.args.who c.args.xid.0 shown.formed) in
      seen past shown
      ∙ ap (seen_by c.args.self.now.osts c.args.target past)
      (c.in_ok-touched.ensures.touches c.args.self.now.osts past shown.contents formed
      ∙ ap (λ (o : Option Op). touches_of c.args.self.now.osts c.args.target past c.args.number c.args.who o c.args.answer.now) is))
      c.seen.ensures.seen;
}
