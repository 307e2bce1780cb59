use Rattle.std.proofs.Common.{◌≡◌, ◌<◌, ◌∙◌, ap, sym, length, take, arith}
use Rattle.std.specs.Prelude.{if◌then◌else◌, Option, Some, slice_index_or}
use Rattle.lu_base.specs.declared.ids.Who.{Who}
use Rattle.lu_base.specs.declared.locks.Cause.{Cause}
use Rattle.lu_spec_machine.specs.Tree.{same_life}
use Rattle.lu_judge_recovery.specs.Closings.{cause_among}
use Rattle.lu_judge_recovery.proofs.Sets.{cause_added}
use Rattle.lu_judge_recovery.proofs.closing.Causes.of.Goals as goal

pub loop-place-preserved : goal.loop-place-preserved
loop-place-preserved c = record {
  within = omega arith;
  causes = λ t past knows who.
      let below : c.loop-place.place < length c.args.lives.now = omega arith in
      let none : Who = record { client = 0; life = 0 } in
      cause_added c.args.lives.now c.loop-place.place t past none who _ _ below
      (c.in_ok-insert.ensures.updates.0 (who.client, who.life)
      ∙ ap (λ (cause : Option Cause). if same_life (slice_index_or c.args.lives.now c.loop-place.place none) who then Some cause
      else cause_among (record { by_life = c.loop-place.by_life }) who) (c.cause.ensures.cause t past knows))
      (c.loop-place.invariant.causes t past knows who);
}
