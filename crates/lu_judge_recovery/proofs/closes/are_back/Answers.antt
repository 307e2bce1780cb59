use Rattle.std.proofs.Common.{◌≡◌, true, false, refl, sym, ◌∙◌}
use Rattle.lu_judge_recovery.proofs.closes.are_back.Goals as goal

pub returns-then-not-has_taken : goal.returns-then-not-has_taken
returns-then-not-has_taken c = record {
  back = λ past ledger windows marks.
      let none = sym (c.has_taken.ensures.taken ∙ marks.taken c.args.turn.stamp c.args.turn.target) ∙ c.if-not-has_taken.true in
      (λ yes took. absurd (cc (sym none ∙ took)), λ all. refl);
}

pub returns : goal.returns
returns c = record {
  back = λ past ledger windows marks.
      let took = sym (c.has_taken.ensures.taken ∙ marks.taken c.args.turn.stamp c.args.turn.target) ∙ c.if-not-has_taken.false in
      let both = c.all_back.ensures.back past ledger windows in
      (λ yes t. both.0 yes, λ all. both.1 (all took));
}
