use Rattle.std.proofs.Common.{inl, inr, sym, ◌∙◌, true≢false}
use Rattle.lu_base.proofs.Digits.{no_star, star_of}
use Rattle.lu_base.proofs.Outcomes.{none_weaker}
use Rattle.lu_base.proofs.text.read_bytes.Goals as goal

pub returns-then-has_star-clause-none : goal.returns-then-has_star-clause-none
returns-then-has_star-clause-none c =
    let star = c.has_star.ensures.star.0 c.if-has_star.true in
    none_weaker c.read_repeated.result (λ none bytes fits either. elim either [
      | inl digits ↦ no_star c.args.text.now bytes fits digits.0 star
      | inr repeated ↦ none bytes repeated
    ]) c.read_repeated.ensures.none

pub returns-else-has_star-clause-none : goal.returns-else-has_star-clause-none
returns-else-has_star-clause-none c =
    none_weaker c.read_digits.result (λ none bytes fits either. elim either [
      | inl digits ↦ digits.1 (none bytes fits digits.0)
      | inr repeated ↦
          true≢false (sym (c.has_star.ensures.star.1 (star_of c.args.text.now repeated.0 repeated.1 repeated.5)) ∙ c.if-has_star.false)
    ]) c.read_digits.ensures.none
