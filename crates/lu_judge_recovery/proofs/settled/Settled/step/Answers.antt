use Rattle.std.proofs.Common.{◌≡◌, ℕ, ap, ◌∙◌}
use Rattle.std.specs.Prelude.{◌==◌}
use Rattle.std.proofs.lemmas.Bool.{eqb-true}
use Rattle.lu_spec_laws.specs.Words.Boots.{committed}
use Rattle.lu_judge_recovery.proofs.Lines.{settled_put}
use Rattle.lu_judge_recovery.proofs.settled.Settled.step.Goals as goal

pub returns-in_ok-insert-in-Target : goal.returns-in_ok-insert-in-Target
returns-in_ok-insert-in-Target c = record {
  shows = λ past windows shown t.
      rw (c.in-Close.is, c.in-Target.is)
      (settled_put (c.in-Target.target == t) c.committed.result (committed t past) _ _ _ (c.in_ok-insert-in-Target.ensures.updates.0 t)
      (λ same. c.committed.ensures.committed past windows ∙ ap (λ (u : ℕ). committed u past) (eqb-true c.in-Target.target t same))
      (shown t));
}
