use Rattle.std.proofs.Common.{◌≡◌, ℕ, ◌+◌, ◌<◌, ◌≤◌, ◌∷◌, inl, inr, length, sym, subst, ⊎_elim, arith}
use Rattle.std.specs.Prelude.{slice_index_or}
use Rattle.std.proofs.lemmas.Bool.{cases_lt}
use Rattle.lu_trace.specs.declared.entries.Line.{Line}
use Rattle.lu_spec_laws.specs.Words.Pasts.{Past}
use Rattle.lu_judge_pass.specs.Firsts.{before}
use Rattle.std.proofs.Common.{◌∙◌}
use Rattle.std.proofs.lemmas.List.{get_or_default}
use Rattle.lu_judge_pass.proofs.Wholes.{before_more}
use Rattle.lu_judge_glimpse.specs.Begins.{Counted, ShowsBegins}
use Rattle.lu_judge_glimpse.proofs.Put.{before_length, counted_more}
use Rattle.lu_judge_glimpse.proofs.counts.counts_in.Goals as goal

pub loop-place-preserved : goal.loop-place-preserved
loop-place-preserved c =
    let place = c.loop-place.place in
    let lines = c.args.lines.now in
    let line = c.index-lines-place.result in
    let below : place < length lines = omega arith in
    let past = before lines place in
    record {
      within = omega arith;
      begins =
          subst (λ (past : Past). ShowsBegins c.step-in-loop-place.new.self past) (sym (before_more lines place line below))
          (subst (λ (l : Line). ShowsBegins c.step-in-loop-place.new.self (l ∷ past)) c.index-lines-place.is
          (c.in_ok-step-2.ensures.shows past (sym (before_length lines place (omega arith))) c.loop-place.invariant.begins));
      counted = λ k less d.
          ⊎_elim
          (λ old. counted_more c.loop-place.counts c.step.new.self (before lines k) (slice_index_or lines k d).at.node
          (slice_index_or lines k d).entry c.in_ok-step.ensures.still (c.loop-place.invariant.counted k old d))
          (λ new.
          let is : place ≡ k = omega (arith, less, new) in
          subst (λ (j : ℕ). Counted c.step.new.self (before lines j) (slice_index_or lines j d)) is
          (subst (λ (l : Line). Counted c.step.new.self past l) (c.index-lines-place.is ∙ get_or_default lines place line d below)
          (c.in_ok-step.ensures.counted past c.loop-place.invariant.begins)))
          (cases_lt k place);
    }
