use Rattle.std.proofs.Common.{◌≡◌, true, false, sym, ◌∙◌}
use Rattle.std.specs.Prelude.{◌||◌}
use Rattle.lu_spec_laws.specs.Words.Lost.{is_lost}
use Rattle.lu_spec_laws.specs.Words.Calls.{operation}
use Rattle.lu_spec_laws.specs.Laws.Acts.{acted, made, told_with}
use Rattle.lu_spec_laws.proofs.Tests.{clash}
use Rattle.lu_judge_calls.specs.Tables.{begun_of}
use Rattle.lu_judge_acts.specs.Shown.{whole_of}
use Rattle.lu_judge_acts.proofs.Acted.{acts_needs, needs_acts}
use Rattle.lu_judge_acts.proofs.acts.Acts.acted_as.Goals as goal

pub returns-then-not-asks_for : goal.returns-then-not-asks_for
returns-then-not-asks_for c = record {
  acted = λ past shown sent.
      let needs = acts_needs (is_lost (whole_of c.args.self.now)) (whole_of c.args.self.now) past c.args.who (begun_of c.args.begun.now)
      c.args.turn c.args.xid.0 c.args.op.now (operation (begun_of c.args.begun.now)) sent in
      (λ so. absurd (cc), λ law. absurd (clash c.asks_for.result (c.asks_for.ensures.asks.1 (needs law).1) c.if-not-asks_for.true));
}

pub returns-then-not-was_executed : goal.returns-then-not-was_executed
returns-then-not-was_executed c = record {
  acted = λ past shown sent.
      let needs = acts_needs (is_lost (whole_of c.args.self.now)) (whole_of c.args.self.now) past c.args.who (begun_of c.args.begun.now)
      c.args.turn c.args.xid.0 c.args.op.now (operation (begun_of c.args.begun.now)) sent in (
        λ so. absurd (cc),
        λ law. absurd (clash c.was_executed.result (c.was_executed.ensures.executed past shown ∙ (needs law).0.executed)
            c.if-not-was_executed.true),
      );
}

pub returns-then-has : goal.returns-then-has
returns-then-has c = record {
  acted = λ past shown sent.
      let needs = acts_needs (is_lost (whole_of c.args.self.now)) (whole_of c.args.self.now) past c.args.who (begun_of c.args.begun.now)
      c.args.turn c.args.xid.0 c.args.op.now (operation (begun_of c.args.begun.now)) sent in (
        λ so. absurd (cc),
        λ law. absurd (clash c.has.result c.if-has.true
            (c.has.ensures.told ∙ shown.elsewhere c.args.who c.args.xid.0 ∙ (needs law).0.untold)),
      );
}

pub returns : goal.returns
returns c = record {
  acted = λ past shown sent.
      let lost = is_lost (whole_of c.args.self.now) in
      let whole = whole_of c.args.self.now in
      let begun = begun_of c.args.begun.now in
      let needs = acts_needs lost whole past c.args.who begun c.args.turn c.args.xid.0 c.args.op.now (operation begun) sent in
      let executed : (acted past c.args.turn c.args.who c.args.xid.0 || made lost past c.args.turn c.args.who c.args.xid.0) ≡ true =
      sym (c.was_executed.ensures.executed past shown) ∙ c.if-not-was_executed.false in
      let untold : told_with past c.args.who c.args.xid.0 ≡ false = sym (c.has.ensures.told ∙ shown.elsewhere c.args.who c.args.xid.0)
      ∙ c.if-has.false in
      let alone = c.acted_alone.ensures.alone past shown in (
        λ so.
            needs_acts lost whole past c.args.who begun c.args.turn c.args.xid.0 c.args.op.now (operation begun)
            (c.asks_for.ensures.asks.0 c.if-not-asks_for.false)
            (record { request = sent; executed = executed; untold = untold; alone = alone.0 so }),
        λ law. alone.1 (needs law).0.alone,
      );
}
