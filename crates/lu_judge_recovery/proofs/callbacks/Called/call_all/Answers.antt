use Rattle.std.proofs.Common.{◌≡◌, ◌<◌, length, take, sym, ap, ◌∙◌, arith}
use Rattle.std.specs.Prelude.{Bool, slice_index_or, ◌==◌, ◌&&◌, ◌||◌, not}
use Rattle.std.specs.List.{list_any}
use Rattle.std.proofs.lemmas.List.Folds.{list_any_more}
use Rattle.lu_base.specs.declared.ids.Who.{Who}
use Rattle.lu_spec_machine.specs.Tree.{same_life}
use Rattle.lu_judge_recovery.specs.Callbacks.{was_called}
use Rattle.lu_judge_recovery.proofs.Calling.{also_called}
use Rattle.lu_judge_recovery.proofs.callbacks.Called.call_all.Goals as goal

pub loop-place-preserved : goal.loop-place-preserved
loop-place-preserved c = record {
  within = omega arith;
  called = λ w s.
      let below : c.loop-place.place < length c.args.lives.now = omega arith in
      let none : Who = record { client = 0; life = 0 } in
      let here : Who = slice_index_or c.args.lives.now c.loop-place.place none in
      c.in_ok-call.ensures.called w s
      ∙ ap (λ (b : Bool). (same_life here w && not (c.args.stamp == s)) || b) (c.loop-place.invariant.called w s)
      ∙ also_called (list_any (λ (who : Who). same_life who w) (take c.loop-place.place c.args.lives.now)) (same_life here w)
      (not (c.args.stamp == s)) (was_called c.args.self.now w s)
      ∙ ap (λ (b : Bool). (b && not (c.args.stamp == s)) || was_called c.args.self.now w s)
      (sym (list_any_more (λ (who : Who). same_life who w) c.args.lives.now c.loop-place.place none below));
}
