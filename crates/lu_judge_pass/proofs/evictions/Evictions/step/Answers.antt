use Rattle.lu_judge_pass.proofs.Shown.{add}
use Rattle.lu_judge_pass.proofs.evictions.Evictions.step.Goals as goal

pub returns-in_ok-insert-in-Target : goal.returns-in_ok-insert-in-Target
returns-in_ok-insert-in-Target c = record {
  shows = λ past shown target who.
      rw (c.in-Evict.is, c.in-Target.is) (add _ _ _ _ (c.in_ok-insert-in-Target.ensures.updates.0 (target, (who.client, who.life)))
      (shown target who));
}
