use Rattle.std.proofs.Common.{refl}
use Rattle.lu_judge_recovery.proofs.closings.Closing.note.Goals as goal

pub returns-in_ok-insert-in-Restore : goal.returns-in_ok-insert-in-Restore
returns-in_ok-insert-in-Restore c = record {
  noted = rw c.in-Restore.is
      (record {
        kept = refl;
        causes = refl;
        locks = refl;
        last_kept = refl;
        last_evicted = refl;
        restored = λ who cookie. c.in_ok-insert-in-Restore.ensures.updates.0 ((who.client, who.life), cookie);
      });
}
