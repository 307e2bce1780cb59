-- The judge sees no line yet, and what is known of each line follows from the trace.
use Rattle.std.proofs.Common.{◌≡◌, refl}
use Rattle.std.specs.Prelude.{reverse, None, ◌↔◌}
use Rattle.std.proofs.lemmas.Result.{IfOk-weaker}
use Rattle.lu_spec_laws.specs.Holds.{Holds}
use Rattle.lu_spec_laws.specs.Laws.History.{History as HistoryLaw}
use Rattle.lu_judge_pass.specs.Firsts.{IsFirst}
use Rattle.lu_judge_history.proofs.Given.{given_of, moved}
use Rattle.lu_judge_history.proofs.history.first_in_history.Goals as goal

pub first_broken-requires : goal.first_broken-requires
first_broken-requires c = λ k. (
  (refl, tt),
  (
    c.in_ok-judge.ensures.shows,
    given_of c.in_ok-judge.judge.osts c.in_ok-judge.judge.lines.now c.as_slice.result.now c.args.trace.now.entries
        c.in_ok-judge.ensures.lines c.as_slice.ensures.same c.requires.messages c.requires.formed.lines,
  ),
)

pub returns-clause-first : goal.returns-clause-first
returns-clause-first c =
    IfOk-weaker c.first_broken.result _ _
    (λ place is.
    moved (λ n all lines. IsFirst (HistoryLaw n (reverse all)) lines place) c.args.trace.now.osts _ _ _ c.args.trace.now.entries
    c.in_ok-judge.ensures.osts c.in_ok-judge.ensures.lines c.as_slice.ensures.same is)
    c.first_broken.ensures.first

pub returns-clause-none : goal.returns-clause-none
returns-clause-none c =
    IfOk-weaker c.first_broken.result _ _
    (λ place is.
    moved (λ n all lines. (place ≡ None) ↔ Holds (HistoryLaw n (reverse all)) (reverse lines)) c.args.trace.now.osts _ _ _
    c.args.trace.now.entries
    c.in_ok-judge.ensures.osts c.in_ok-judge.ensures.lines c.as_slice.ensures.same is)
    c.first_broken.ensures.none
