use Rattle.std.proofs.Common.{◌≡◌, refl}
use Rattle.std.specs.Prelude.{◌==◌}
use Rattle.lu_judge_pass.proofs.Shown.{put}
use Rattle.lu_spec_machine.specs.Tree.{same_life}
use Rattle.lu_spec_laws.specs.Words.Closes.{is_lock}
use Rattle.lu_judge_recovery.proofs.Lines.{set_here, next_here}
use Rattle.lu_judge_recovery.proofs.rest.Rest.add.Goals as goal

pub returns-in_ok-insert-in-Kept : goal.returns-in_ok-insert-in-Kept
returns-in_ok-insert-in-Kept c = record {
  shows = λ at later same shown. record {
    kept = λ n. rw c.in-Kept.is (set_here (c.in-Kept.number.0 == n) _ _ _ _ same (c.in_ok-insert-in-Kept.ensures.updates.0 n)
        (shown.kept n));
    evicted = λ who. rw c.in-Kept.is (shown.evicted who);
    restored = λ who cookie. rw c.in-Kept.is (shown.restored who cookie);
  };
}

pub returns-in_ok-insert-in-Evict : goal.returns-in_ok-insert-in-Evict
returns-in_ok-insert-in-Evict c = record {
  shows = λ at later same shown. record {
    kept = λ n. rw c.in-Evict.is (shown.kept n);
    evicted = λ who. rw c.in-Evict.is (next_here (same_life c.in-Evict.who who) _ c.in-Evict.cause _ _ _ same
        (c.in_ok-insert-in-Evict.ensures.updates.0 (who.client, who.life)) (shown.evicted who));
    restored = λ who cookie. rw c.in-Evict.is (shown.restored who cookie);
  };
}

pub returns-in_ok-insert-in-Restore : goal.returns-in_ok-insert-in-Restore
returns-in_ok-insert-in-Restore c = record {
  shows = λ at later same shown. record {
    kept = λ n. rw c.in-Restore.is (shown.kept n);
    evicted = λ who. rw c.in-Restore.is (shown.evicted who);
    restored = λ who cookie.
        rw c.in-Restore.is
        (next_here (is_lock who cookie c.in-Restore.lock) _ c.in-Restore.lock _ _ _ same
        (put (λ lock. lock.now) _ _ _ _ _ (c.in_ok-insert-in-Restore.ensures.updates.0 ((who.client, who.life), cookie)) refl)
        (shown.restored who cookie));
  };
}
