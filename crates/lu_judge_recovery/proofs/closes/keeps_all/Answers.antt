use Rattle.std.proofs.Common.{◌≡◌, ◌<◌, true, length, sym, ◌∙◌, arith}
use Rattle.std.specs.Prelude.{◌||◌}
use Rattle.lu_spec_laws.specs.Words.Closes.{will_keep}
use Rattle.lu_judge_recovery.proofs.Checks.{fails_at, holds_at, holds_all}
use Rattle.lu_judge_recovery.proofs.closes.keeps_all.Goals as goal

pub loop-place-preserved : goal.loop-place-preserved
loop-place-preserved c = record {
  within = omega arith;
  keeps = λ at later shows.
      let below : c.loop-place.place < length c.args.numbers.now = omega arith in
      holds_at (λ n. will_keep at later n ≡ true) c.args.numbers.now c.loop-place.place 0 c.keeps.result below
      ((λ yes. sym (c.keeps.ensures.kept ∙ shows.kept _) ∙ yes, λ kept. c.keeps.ensures.kept ∙ shows.kept _ ∙ kept))
      c.if-not-keeps.false (c.loop-place.invariant.keeps at later shows);
}

pub returns-then-not-keeps : goal.returns-then-not-keeps
returns-then-not-keeps c = record {
  keeps = λ at later shows.
      let below : c.loop-place.place < length c.args.numbers.now = omega arith in
      fails_at (λ n. will_keep at later n ≡ true) c.args.numbers.now c.loop-place.place 0 c.keeps.result below
      ((λ yes. sym (c.keeps.ensures.kept ∙ shows.kept _) ∙ yes, λ kept. c.keeps.ensures.kept ∙ shows.kept _ ∙ kept))
      c.if-not-keeps.true;
}

pub returns : goal.returns
returns c = record {
  keeps = λ at later shows. holds_all (λ n. will_keep at later n ≡ true) c.args.numbers.now c.loop-place.place
      (omega arith) (c.loop-place.invariant.keeps at later shows);
}
