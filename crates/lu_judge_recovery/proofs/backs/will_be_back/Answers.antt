use Rattle.std.proofs.Common.{◌≡◌, ◌<◌, false, true, length, take, sym, ap, ◌∙◌, arith}
use Rattle.std.specs.List.{list_any}
use Rattle.lu_trace.specs.declared.entries.Line.{Line}
use Rattle.lu_spec_laws.specs.Laws.Recovery.{is_back_of}
use Rattle.lu_judge_recovery.proofs.Searches.{found_at, none_more, none_found}
use Rattle.lu_judge_recovery.proofs.Turning.{any_in_rest}
use Rattle.lu_judge_recovery.proofs.backs.will_be_back.Goals as goal

pub loop-place-preserved : goal.loop-place-preserved
loop-place-preserved c = record {
  within = omega arith;
  none =
      let below : c.loop-place.place < length c.rest_of_turn-rest.result.now = omega arith in
      none_more (λ (k : Line). is_back_of c.args.who k.entry) c.rest_of_turn-rest.result.now c.loop-place.place c.index-rest-place.result
      below c.loop-place.invariant.none
      (sym c.is_back_of.ensures ∙ c.if-is_back_of.false);
}

pub returns-then-is_back_of : goal.returns-then-is_back_of
returns-then-is_back_of c = record {
  back = λ order.
      let below : c.loop-place.place < length c.rest_of_turn-rest.result.now = omega arith in
      sym (any_in_rest (is_back_of c.args.who) c.args.at c.args.later.now order
      ∙ ap (list_any (λ (k : Line). is_back_of c.args.who k.entry)) (sym c.rest_of_turn-rest.ensures)
      ∙ found_at (λ (k : Line). is_back_of c.args.who k.entry) c.rest_of_turn-rest.result.now c.loop-place.place c.index-rest-place.result
      below
      (sym c.is_back_of.ensures ∙ c.if-is_back_of.true));
}

pub returns : goal.returns
returns c = record {
  back = λ order.
      sym (any_in_rest (is_back_of c.args.who) c.args.at c.args.later.now order
      ∙ ap (list_any (λ (k : Line). is_back_of c.args.who k.entry)) (sym c.rest_of_turn-rest.ensures)
      ∙ none_found (λ (k : Line). is_back_of c.args.who k.entry) c.rest_of_turn-rest.result.now c.loop-place.place (omega arith)
      c.loop-place.invariant.none);
}
