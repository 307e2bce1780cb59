use Rattle.lu_spec_laws.proofs.Tests.{clash}
use Rattle.lu_judge_acts.proofs.acts.Acts.may_tell.Goals as goal

pub returns-then-not-is_bad_rightly : goal.returns-then-not-is_bad_rightly
returns-then-not-is_bad_rightly c = record {
  may = λ past shown ordered follows. (
    λ so. absurd (cc),
    λ law. absurd
        (clash c.is_bad_rightly.result (c.is_bad_rightly.ensures.bad.1 law.handle) c.if-not-is_bad_rightly.true),
  );
}

pub returns-then-not-ends_well : goal.returns-then-not-ends_well
returns-then-not-ends_well c = record {
  may = λ past shown ordered follows.
      let ends = c.ends_well.ensures.ends past shown ordered follows in
      (λ so. absurd (cc), λ law. absurd (clash c.ends_well.result (ends.1 law.evicted) c.if-not-ends_well.true));
}

pub returns-then-not-names_rightly : goal.returns-then-not-names_rightly
returns-then-not-names_rightly c = record {
  may = λ past shown ordered follows. (
    λ so. absurd (cc),
    λ law. absurd
        (clash c.names_rightly.result (c.names_rightly.ensures.own.1 law.own) c.if-not-names_rightly.true),
  );
}

pub returns : goal.returns
returns c = record {
  may = λ past shown ordered follows.
      let acts = c.has_acted.ensures.acted past shown ordered follows in
      let ends = c.ends_well.ensures.ends past shown ordered follows in (
        λ so. record {
          handle = c.is_bad_rightly.ensures.bad.0 c.if-not-is_bad_rightly.false;
          evicted = ends.0 c.if-not-ends_well.false;
          own = c.names_rightly.ensures.own.0 c.if-not-names_rightly.false;
          acts = acts.0 so;
        },
        λ law. acts.1 law.acts,
      );
}
