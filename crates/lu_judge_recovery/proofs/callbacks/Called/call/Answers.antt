use Rattle.std.proofs.Common.{◌≡◌, ap, ◌∙◌}
use Rattle.std.specs.Prelude.{Option, ◌==◌, ◌&&◌, ◌||◌, not}
use Rattle.std.specs.HashMap.{get_by}
use Rattle.lu_base.specs.declared.ids.Who.{Who}
use Rattle.lu_spec_machine.specs.Tree.{same_life}
use Rattle.lu_spec_laws.proofs.Tests.{life_is}
use Rattle.lu_judge_recovery.specs.Callbacks.{is_called}
use Rattle.lu_judge_recovery.specs.declared.callbacks.Calls.{Calls}
use Rattle.lu_judge_recovery.proofs.Calling.{call_put}
use Rattle.lu_judge_recovery.proofs.callbacks.Called.call.Goals as goal

pub returns : goal.returns
returns c = record {
  called = λ w s.
      call_put (same_life c.args.who w) c.called_at-calls.result _ _ _ c.args.stamp s (c.in_ok-insert.ensures.updates.0 (w.client, w.life))
      (λ same. ap (λ (v : Who). get_by (λ k. v.client == k.0 && v.life == k.1) c.args.self.now.by_life) (life_is c.args.who w same))
      (λ u. c.called_at-calls.ensures.called u ∙ ap (λ (o : Option Calls). not (c.args.stamp == u) || is_called o u)
      (c.copied.ensures ∙ c.get.ensures.value));
}
