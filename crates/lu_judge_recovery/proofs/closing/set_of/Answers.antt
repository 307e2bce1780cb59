use Rattle.std.proofs.Common.{◌≡◌, ◌<◌, ◌∙◌, ap, sym, length, take, arith}
use Rattle.std.specs.Prelude.{◌||◌}
use Rattle.std.proofs.lemmas.List.Folds.{list_any_more}
use Rattle.lu_judge_pass.proofs.Shown.{add}
use Rattle.lu_judge_recovery.proofs.Sets.{number_added}
use Rattle.lu_judge_recovery.proofs.closing.set_of.Goals as goal

pub loop-place-preserved : goal.loop-place-preserved
loop-place-preserved c = record {
  within = omega arith;
  set = λ n.
      let below : c.loop-place.place < length c.args.numbers.now = omega arith in
      number_added c.args.numbers.now c.loop-place.place n _ _ below (c.in_ok-insert.ensures.updates.0 n) (c.loop-place.invariant.set n);
}
