use Rattle.std.proofs.Common.{sym, ◌∙◌}
use Rattle.lu_judge_pass.proofs.Shown.{add}
use Rattle.lu_judge_recovery.proofs.failing.Failing.step.Goals as goal

pub returns-in_ok-insert-in-Target : goal.returns-in_ok-insert-in-Target
returns-in_ok-insert-in-Target c = record {
  shows = λ past shown s t. rw (c.in-Fail.is, c.in-Target.is) (add _ _ _ _ (c.in_ok-insert-in-Target.ensures.updates.0 (s, t)) (shown s t));
}
