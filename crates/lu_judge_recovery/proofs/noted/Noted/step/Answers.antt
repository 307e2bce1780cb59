use Rattle.std.proofs.Common.{◌≡◌, refl, ap}
use Rattle.lu_spec_laws.specs.Words.Pasts.{is_target}
use Rattle.lu_spec_laws.specs.Words.Seen.{granted_as, restored_as}
use Rattle.lu_judge_pass.proofs.Shown.{put}
use Rattle.lu_judge_recovery.proofs.Lines.{last_put, last_nothing}
use Rattle.lu_judge_recovery.proofs.noted.Noted.step.Goals as goal

pub returns-in-Client : goal.returns-in-Client
returns-in-Client c = record {
  shows = λ past shown. record {
    granted = λ t cookie. last_nothing (granted_as cookie c.args.line.now.entry) (is_target t c.args.line.now.at.node) _ _
        (ap (is_target t) c.in-Client.is) (shown.granted t cookie);
    restored = λ t cookie. last_nothing (restored_as cookie c.args.line.now.entry) (is_target t c.args.line.now.at.node) _ _
        (ap (is_target t) c.in-Client.is) (shown.restored t cookie);
  };
}

pub returns-in_ok-insert-in-Grant : goal.returns-in_ok-insert-in-Grant
returns-in_ok-insert-in-Grant c = record {
  shows = λ past shown. record {
    granted = λ t cookie.
        rw (c.in-Grant.is, c.in-Target.is)
        (last_put _ _ _ _ _ _ (put (λ lock. lock.now) _ _ _ _ _ (c.in_ok-insert-in-Grant.ensures.updates.0 (t, cookie)) refl)
        (shown.granted t cookie));
    restored = λ t cookie. rw c.in-Grant.is (shown.restored t cookie);
  };
}

pub returns-in_ok-insert-in-Restore : goal.returns-in_ok-insert-in-Restore
returns-in_ok-insert-in-Restore c = record {
  shows = λ past shown. record {
    granted = λ t cookie. rw c.in-Restore.is (shown.granted t cookie);
    restored = λ t cookie.
        rw (c.in-Restore.is, c.in-Target.is)
        (last_put _ _ _ _ _ _ (put (λ lock. lock.now) _ _ _ _ _ (c.in_ok-insert-in-Restore.ensures.updates.0 (t, cookie)) refl)
        (shown.restored t cookie));
  };
}
