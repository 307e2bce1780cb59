use Rattle.lu_spec_laws.proofs.Tests.{clash}
use Rattle.lu_judge_acts.proofs.acts.Acts.acted_in_time.Goals as goal

pub returns-then-not-after : goal.returns-then-not-after
returns-then-not-after c = record {
  acted = λ past shown ordered follows. (
    λ so. absurd (cc),
    λ law. absurd
        (clash c.is_up_to-after.result (c.is_up_to-after.ensures.1 law.after) c.if-not-after.true),
  );
}

pub returns-then-not-before : goal.returns-then-not-before
returns-then-not-before c = record {
  acted = λ past shown ordered follows. (
    λ so. absurd (cc),
    λ law. absurd
        (clash c.is_up_to-before.result (c.is_up_to-before.ensures.1 law.before) c.if-not-before.true),
  );
}

pub returns : goal.returns
returns c = record {
  acted = λ past shown ordered follows.
      let elsewhere = c.acted_elsewhere.ensures.acted past shown ordered follows in (
        λ so. record {
          after = c.is_up_to-after.ensures.0 c.if-not-after.false;
          before = c.is_up_to-before.ensures.0 c.if-not-before.false;
          acts = elsewhere.0 so;
        },
        λ law. elsewhere.1 law.acts,
      );
}
