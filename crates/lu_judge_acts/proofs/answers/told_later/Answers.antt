use Rattle.std.proofs.Common.{◌<◌, length, sym, ◌∙◌, arith}
use Rattle.lu_judge_acts.proofs.Later.{ended}
use Rattle.lu_judge_acts.proofs.answers.told_later.Goals as goal

pub returns-then-not-same_turn : goal.returns-then-not-same_turn
returns-then-not-same_turn c =
    let below : c.loop-place.place < length c.args.later.now = omega arith in
    record {
      told = λ order.
          sym (ended c.args.slot c.args.at c.args.later.now c.loop-place.place c.index-later-place.result below (sym c.index-later-place.is)
          (sym c.same_turn.ensures ∙ c.if-not-same_turn.true) (c.loop-place.invariant.order order) c.loop-place.invariant.passed);
    }
