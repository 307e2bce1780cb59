use Rattle.std.proofs.Common.{refl, sym, ◌∙◌}
use Rattle.lu_judge_recovery.proofs.closes.restores_it.Goals as goal

pub returns-then-not-stays : goal.returns-then-not-stays
returns-then-not-stays c = record {
  restores = λ at later t past lives shows knows causes.
      (λ done stays. absurd (cc (sym (sym (c.stays.ensures.stays t past lives knows causes) ∙ c.if-not-stays.true) ∙ stays)), λ law. refl);
}

pub returns : goal.returns
returns c = record {
  restores = λ at later t past lives shows knows causes.
      let both = c.restores.ensures.restores at later shows in
      (λ done stays. both.0 done, λ law. both.1 (law (sym (c.stays.ensures.stays t past lives knows causes) ∙ c.if-not-stays.false)));
}
