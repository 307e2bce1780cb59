use Rattle.std.proofs.Common.{refl}
use Rattle.std.specs.Prelude.{◌==◌}
use Rattle.lu_spec_machine.specs.Tree.{same_life}
use Rattle.lu_judge_windows.specs.Joins.{lives_in}
use Rattle.lu_judge_windows.proofs.Listed.{pushed}
use Rattle.lu_judge_windows.proofs.Tests.{joined_put}
use Rattle.lu_judge_windows.proofs.joins.Joins.step.Goals as goal

pub returns-in_ok-insert-in-Target : goal.returns-in_ok-insert-in-Target
returns-in_ok-insert-in-Target c = record {
  shows = λ past shown. rw (c.in-Joined.is, c.in-Target.is) (record {
    has = λ target who.
        joined_put (c.in-Target.target == target) (same_life c.in-Joined.who who) _ _ _ _
        (c.in_ok-insert-in-Target.ensures.updates.0 (target, (who.client, who.life))) (shown.has target who)
        (rw c.in_ok-push-in-Target.ensures.same refl);
    lives = λ target. pushed c.in-Target.target c.in-Joined.who (lives_in c.args.self.now) (lives_in c.push.new.self) _
        c.in_ok-push-in-Target.ensures.pushed shown.lives target;
  });
}
