use Rattle.std.proofs.Common.{◌≡◌, ◌+◌, ◌-◌, ◌<◌, ◌∷◌, true, List, length, drop, refl, ap, sym, ◌∙◌, subst, arith}
use Rattle.std.specs.Prelude.{slice_index_or}
use Rattle.std.proofs.lemmas.List.{drop_more, drop_all}
use Rattle.lu_trace.specs.declared.entries.Line.{Line}
use Rattle.lu_spec_laws.specs.Words.Pasts.{same_turn}
use Rattle.lu_judge_pass.specs.Places.{turn_of}
use Rattle.lu_judge_recovery.specs.Rest.{ShowsRest}
use Rattle.lu_judge_recovery.proofs.Turning.{same_in_turn, whole_rest, more_lines, none_dropped}
use Rattle.lu_judge_recovery.proofs.rest.rest_in.Goals as goal

pub loop-place-init : goal.loop-place-init
loop-place-init c = record {
  within = omega arith;
  shows = subst (λ lines. ShowsRest c.new-rest.result c.args.at lines)
      (sym (drop_all (length c.rest_of_turn-lines.result.now) c.rest_of_turn-lines.result.now (omega arith)))
      (c.new-rest.ensures.shows c.args.at);
}

pub loop-place-preserved : goal.loop-place-preserved
loop-place-preserved c = record {
  within = omega arith;
  shows =
      let lines = c.rest_of_turn-lines.result.now in
      let line = c.index-lines-place.result in
      let below : c.loop-place.place - 1 < length lines = omega arith in
      let here : same_turn (slice_index_or lines (c.loop-place.place - 1) line).at c.args.at ≡ true =
      subst (λ (ls : List Line). c.loop-place.place - 1 < length ls
      → same_turn (slice_index_or ls (c.loop-place.place - 1) line).at c.args.at ≡ true) (sym c.rest_of_turn-lines.ensures)
      (same_in_turn c.args.at c.args.later.now (c.loop-place.place - 1) line) below in
      let more : slice_index_or lines (c.loop-place.place - 1) line ∷ drop c.loop-place.place lines ≡ drop (c.loop-place.place - 1) lines =
      more_lines lines c.loop-place.place line (omega arith) below in
      subst (λ (ls : List Line). ShowsRest c.add.new.self c.args.at ls) more
      (subst (λ (l : Line). ShowsRest c.add.new.self c.args.at (l ∷ drop c.loop-place.place lines)) c.index-lines-place.is
      (c.in_ok-add.ensures.shows c.args.at (drop c.loop-place.place lines)
      (ap (λ (l : Line). same_turn l.at c.args.at) c.index-lines-place.is ∙ here) c.loop-place.invariant.shows));
}

pub returns : goal.returns
returns c = record {
  shows = λ order.
      whole_rest c.loop-place.rest c.args.at c.args.later.now order
      (subst (λ (ls : List Line). ShowsRest c.loop-place.rest c.args.at ls)
      (none_dropped c.rest_of_turn-lines.result.now c.loop-place.place (omega arith) ∙ c.rest_of_turn-lines.ensures)
      c.loop-place.invariant.shows);
}
