use Rattle.std.proofs.Common.{◌≡◌, ℕ, List, reverse, refl, sym, ap, ◌∙◌, subst}
use Rattle.std.specs.Prelude.{None, All, IfOk, ◌↔◌}
use Rattle.std.proofs.lemmas.Result.{IfOk-weaker}
use Rattle.lu_trace.specs.declared.entries.Line.{Line}
use Rattle.lu_trace.specs.WellFormed.{IsLine}
use Rattle.lu_spec_laws.specs.Holds.{Holds}
use Rattle.lu_spec_laws.specs.Laws.Messages.{Messages}
use Rattle.lu_spec_laws.specs.Laws.Recovery.{Recovery}
use Rattle.lu_judge_pass.specs.Firsts.{IsFirst}
use Rattle.lu_judge_pass.specs.Places.{Placed}
use Rattle.lu_judge_pass.proofs.Placed.{placed}
use Rattle.lu_judge_recovery.proofs.judge.first_in_recovery.Goals as goal

pub new-requires : goal.new-requires
new-requires c = record {
  some = c.requires.formed.some_osts;
  most = c.requires.formed.few_osts;
  formed =
      subst (λ (lines : List Line). All IsLine lines) (sym c.as_slice-lines.ensures.same) c.requires.formed.lines;
}

pub first_broken-requires : goal.first_broken-requires
first_broken-requires c κs = (
  (refl, tt),
  (
    c.in_ok-judge.ensures.shows,
    subst (λ (n : ℕ). Holds (Placed (record { osts = n; whole = reverse c.in_ok-judge.judge.lines.now }))
        (reverse c.as_slice-lines.result.now)) (sym c.in_ok-judge.ensures.osts)
        (subst (λ (lines : List Line). Holds (Placed (record { osts = c.args.trace.now.osts; whole = reverse lines }))
        (reverse c.as_slice-lines.result.now)) (sym c.in_ok-judge.ensures.lines)
        (placed c.args.trace.now.osts (reverse c.as_slice-lines.result.now)
        (subst (λ (lines : List Line). Holds Messages (reverse lines)) (sym c.as_slice-lines.ensures.same) c.requires.messages))),
  ),
)

pub returns-clause-first : goal.returns-clause-first
returns-clause-first c =
    let r = c.first_broken.result in
    let judge = c.in_ok-judge.judge in
    subst (λ (n : ℕ). IfOk r (IsFirst (Recovery n (reverse c.args.trace.now.entries)) c.args.trace.now.entries)) c.in_ok-judge.ensures.osts
    (subst (λ (w : List Line). IfOk r (IsFirst (Recovery judge.known.osts (reverse w)) c.args.trace.now.entries))
    (c.in_ok-judge.ensures.lines ∙ c.as_slice-lines.ensures.same)
    (subst (λ (ls : List Line). IfOk r (IsFirst (Recovery judge.known.osts (reverse judge.lines.now)) ls)) c.as_slice-lines.ensures.same
    c.first_broken.ensures.first))

pub returns-clause-none : goal.returns-clause-none
returns-clause-none c =
    let r = c.first_broken.result in
    let judge = c.in_ok-judge.judge in
    subst (λ (n : ℕ). IfOk r (λ place. (place ≡ None) ↔ Holds (Recovery n (reverse c.args.trace.now.entries))
    (reverse c.args.trace.now.entries))) c.in_ok-judge.ensures.osts
    (subst (λ (w : List Line). IfOk r (λ place. (place ≡ None) ↔ Holds (Recovery judge.known.osts (reverse w))
    (reverse c.args.trace.now.entries))) (c.in_ok-judge.ensures.lines ∙ c.as_slice-lines.ensures.same)
    (subst (λ (ls : List Line). IfOk r (λ place. (place ≡ None) ↔ Holds (Recovery judge.known.osts (reverse judge.lines.now)) (reverse ls)))
    c.as_slice-lines.ensures.same c.first_broken.ensures.none))
