use Rattle.std.proofs.Common.{◌≡◌, ℕ, ◌<◌, false, true, length, take, sym, ap, ◌∙◌, arith}
use Rattle.std.specs.Prelude.{◌||◌}
use Rattle.lu_spec_laws.specs.Words.Closes.{rests_on}
use Rattle.lu_spec_laws.specs.Words.Learned.{heard_number, saw}
use Rattle.lu_judge_recovery.proofs.Searches.{found_at, none_more, none_found}
use Rattle.lu_judge_recovery.proofs.closing.Close.rests.Goals as goal

pub loop-place-preserved : goal.loop-place-preserved
loop-place-preserved c = record {
  within = omega arith;
  none = λ t past knows.
      let below : c.loop-place.place < length c.as_slice-lost.result.now = omega arith in
      none_more (λ (n : ℕ). heard_number t c.args.who n past || saw t c.args.who n past) c.as_slice-lost.result.now c.loop-place.place 0
      below
      (c.loop-place.invariant.none t past knows) (sym (c.learned.ensures.learned t past knows) ∙ c.if-learned.false);
}

pub returns-then-learned : goal.returns-then-learned
returns-then-learned c = record {
  rests = λ t past knows.
      let below : c.loop-place.place < length c.as_slice-lost.result.now = omega arith in
      sym (ap (rests_on t past c.args.who) (sym (c.as_slice-lost.ensures.same ∙ knows.lost)) ∙
      found_at (λ (n : ℕ). heard_number t c.args.who n past || saw t c.args.who n past) c.as_slice-lost.result.now c.loop-place.place 0
      below (sym (c.learned.ensures.learned t past knows) ∙ c.if-learned.true));
}

pub returns : goal.returns
returns c = record {
  rests = λ t past knows.
      sym (ap (rests_on t past c.args.who) (sym (c.as_slice-lost.ensures.same ∙ knows.lost)) ∙
      none_found (λ (n : ℕ). heard_number t c.args.who n past || saw t c.args.who n past) c.as_slice-lost.result.now c.loop-place.place
      (omega arith) (c.loop-place.invariant.none t past knows));
}
