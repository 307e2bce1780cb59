use Rattle.std.proofs.Common.{◌≡◌, Bor, Option, Some, None, sym, ap, ◌∙◌}
use Rattle.std.specs.Option.{option_map}
use Rattle.lu_msg.specs.declared.messages.Request.{Request}
use Rattle.lu_msg.specs.declared.operations.Op.{Op}
use Rattle.lu_spec_laws.specs.Words.Lost.{is_lost}
use Rattle.lu_spec_laws.specs.Words.Requests.{asked}
use Rattle.lu_spec_laws.specs.Words.Calls.{operation}
use Rattle.lu_judge_calls.specs.Tables.{begun_of}
use Rattle.lu_judge_acts.specs.Shown.{whole_of}
use Rattle.lu_judge_acts.proofs.Acted.{none_asked}
use Rattle.lu_judge_acts.proofs.acts.Acts.acted_there.Goals as goal

pub returns-in-Some : goal.returns-in-Some
returns-in-Some c = record {
  acted = λ past shown.
      let sent : option_map (λ (o : Bor Op). o.now) c.asked.result ≡ asked past 0 c.args.who c.args.xid.0 = c.asked.ensures.asked
      ∙ ap (λ (r : Option Request). option_map (λ q. q.op) r) (shown.ledger.requests 0 c.args.who c.args.xid.0) in
      c.acted_as.ensures.acted past shown (sym sent ∙ ap (λ (o : Option (Bor Op)). option_map (λ (o : Bor Op). o.now) o) c.in-Some.is);
}

pub returns-in-None : goal.returns-in-None
returns-in-None c = record {
  acted = λ past shown.
      let sent : option_map (λ (o : Bor Op). o.now) c.asked.result ≡ asked past 0 c.args.who c.args.xid.0 = c.asked.ensures.asked
      ∙ ap (λ (r : Option Request). option_map (λ q. q.op) r) (shown.ledger.requests 0 c.args.who c.args.xid.0) in (
        λ so. absurd (cc),
        λ law. absurd (none_asked (is_lost (whole_of c.args.self.now)) (whole_of c.args.self.now) past c.args.who
            (begun_of c.args.begun.now) c.args.turn c.args.xid.0 (operation (begun_of c.args.begun.now))
            (sym sent ∙ ap (λ (o : Option (Bor Op)). option_map (λ (o : Bor Op). o.now) o) c.in-None.is) law),
      );
}
