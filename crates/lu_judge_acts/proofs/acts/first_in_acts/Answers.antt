use Rattle.std.proofs.Common.{◌≡◌, ℕ, List, Option, None, refl, subst, ◌∙◌}
use Rattle.std.specs.Prelude.{reverse, IfOk, ◌↔◌}
use Rattle.lu_trace.specs.declared.entries.Line.{Line}
use Rattle.lu_spec_laws.specs.Holds.{Holds}
use Rattle.lu_spec_laws.specs.Laws.Messages.{Messages}
use Rattle.lu_spec_laws.specs.Laws.Acts.{Acts as ActsLaw}
use Rattle.lu_judge_pass.specs.Places.{Placed}
use Rattle.lu_judge_pass.proofs.Placed.{placed}
use Rattle.lu_judge_acts.proofs.acts.first_in_acts.Goals as goal

given_of : (lines slice entries : List Line) → lines ≡ slice → slice ≡ entries → Holds Messages (reverse entries)
    → Holds (Placed (record { osts = 0; whole = reverse lines })) (reverse slice)
given_of lines slice entries same is holds = rw (same, is) (placed 0 (reverse entries) holds)

pub first_broken-requires : goal.first_broken-requires
first_broken-requires c κs = (
  (refl, tt),
  (
    c.in_ok-new.ensures.shows,
    given_of c.in_ok-new.field-0.lines.now c.as_slice-lines.result.now c.args.trace.now.entries
        c.in_ok-new.ensures.lines c.as_slice-lines.ensures.same c.requires.messages,
  ),
)

pub returns-clause-none : goal.returns-clause-none
returns-clause-none c =
    let entries = c.args.trace.now.entries in
    let lines = c.in_ok-new.field-0.lines.now in
    subst (λ (xs : List Line). IfOk c.first_broken.result (λ (place : Option ℕ). (place ≡ None)
    ↔ Holds (ActsLaw (reverse xs)) (reverse entries))) (c.in_ok-new.ensures.lines ∙ c.as_slice-lines.ensures.same)
    (subst (λ (xs : List Line). IfOk c.first_broken.result (λ (place : Option ℕ). (place ≡ None)
    ↔ Holds (ActsLaw (reverse lines)) (reverse xs))) c.as_slice-lines.ensures.same c.first_broken.ensures.none)
