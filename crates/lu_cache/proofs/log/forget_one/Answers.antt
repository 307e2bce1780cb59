-- The fact leaves, with what is filed of it; or there is none to forget.
use Rattle.std.proofs.Common.{◌≡◌, ◌==◌, [], ◌∷◌, true, false, Some, None, sym, subst, ◌∙◌, arith}
use Rattle.std.proofs.lemmas.Bool.Decides.{nat_tests}
use Rattle.lu_spec_machine.specs.Places.{found_at}
use Rattle.lu_cache.specs.declared.facts.Fact.{Fact}
use Rattle.lu_cache.proofs.Falling.{not_both, some_is, looked_up, took_out}
use Rattle.lu_cache.specs.Forgetting.{Forgets}
use Rattle.lu_cache.proofs.Forgotten.{kept_all, forgets_one}
use Rattle.lu_cache.proofs.log.forget_one.Goals as goal

pub returns-in_default : goal.returns-in_default
returns-in_default c = record {
  forgets = kept_all c.args.cookie c.args.number c.args.log.now.entries c.args.topics.now c.requires.rising
      (λ f found. not_both f _ (c.in_default.ensures.value ∙ looked_up c.args.number c.args.log.now.entries ∙ found));
}

pub returns-then-ne : goal.returns-then-ne
returns-then-ne c =
    let off : (c.in-Some.fact.now.cookie.0 == c.args.cookie.0) ≡ false = grind (arith, nat_tests, c.ne.ensures, c.if-ne.true) in
    record {
      forgets = kept_all c.args.cookie c.args.number c.args.log.now.entries c.args.topics.now c.requires.rising
          (λ f found. subst (λ (g : Fact). (g.cookie.0 == c.args.cookie.0) ≡ false)
          (some_is c.in-Some.fact.now f (c.in-Some.ensures.value ∙ looked_up c.args.number c.args.log.now.entries ∙ found)) off);
    }

pub returns : goal.returns
returns c =
    let same : (c.in-Some.fact.now.cookie.0 == c.args.cookie.0) ≡ true = grind (arith, nat_tests, c.ne.ensures, c.if-ne.false) in
    record {
      forgets = subst (λ log. Forgets c.args.cookie (c.args.number ∷ []) c.args.log.now.entries c.args.topics.now log c.take_away.new.self)
          (sym (c.remove.ensures.entries ∙ took_out c.args.number c.args.log.now.entries))
          (forgets_one c.args.cookie c.args.number c.in-Some.fact.now c.args.log.now.entries c.args.topics.now c.take_away.new.self
          c.requires.rising (sym (looked_up c.args.number c.args.log.now.entries) ∙ sym c.in-Some.ensures.value) same
          c.take_away.ensures.gone);
    }
