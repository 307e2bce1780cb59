use Rattle.std.proofs.Common.{refl}
use Rattle.lu_judge_pass.proofs.Shown.{put}
use Rattle.lu_judge_windows.proofs.given.Given.give.Goals as goal

pub returns-in_ok-insert-in-Target : goal.returns-in_ok-insert-in-Target
returns-in_ok-insert-in-Target c = record {
  gives = λ target who cookie. rw c.in-Target.is (put (λ lock. lock.now) _ _ _ _ _
      (c.in_ok-insert-in-Target.ensures.updates.0 ((target, cookie), (who.client, who.life))) refl);
}
