use Rattle.std.proofs.Common.{ℕ, Option, refl, subst}
use Rattle.lu_judge_pass.specs.Firsts.{IsFirst}
use Rattle.lu_judge.specs.Laws.{law_of}
use Rattle.lu_judge.proofs.Only.{none_kept, some_broken}
use Rattle.lu_judge.proofs.verdicts.first_broken.Goals as goal

pub returns-in-Some-clause-none : goal.returns-in-Some-clause-none
returns-in-Some-clause-none c =
    let trace = c.args.trace.now in
    let first = subst (λ (place : Option ℕ). IsFirst (law_of trace c.args.law) trace.entries place) c.in-Some.is c.in_ok-place.ensures in
    (λ is. absurd (cc), λ kept. absurd (some_broken trace c.args.law c.in-Some.place first kept))

pub returns-in-None-clause-none : goal.returns-in-None-clause-none
returns-in-None-clause-none c =
    let trace = c.args.trace.now in
    let first = subst (λ (place : Option ℕ). IsFirst (law_of trace c.args.law) trace.entries place) c.in-None.is c.in_ok-place.ensures in
    (λ is. none_kept trace c.args.law first, λ kept. refl)
