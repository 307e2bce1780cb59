use Rattle.std.proofs.Common.{refl}
use Rattle.lu_judge_pass.proofs.Shown.{put}
use Rattle.lu_judge_recovery.proofs.Lines.{last_put}
use Rattle.lu_judge_recovery.proofs.made.Made.step.Goals as goal

pub returns-in_ok-insert-in-Target : goal.returns-in_ok-insert-in-Target
returns-in_ok-insert-in-Target c = record {
  shows = λ past shown s t who x.
      rw (c.in-Txn.is, c.in-Target.is)
      (last_put _ _ _ _ _ _ (put (λ seen. seen.now) _ _ _ _ _ (c.in_ok-insert-in-Target.ensures.updates.0
      ((s, t), ((who.client, who.life), x))) refl) (shown s t who x));
}
