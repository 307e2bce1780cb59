use Rattle.std.proofs.Common.{◌≡◌, sym, ap, ◌∙◌}
use Rattle.std.specs.Prelude.{Some}
use Rattle.lu_base.specs.declared.locks.Lock.{Lock}
use Rattle.lu_judge_recovery.specs.Closings.{lock_in, has_restored_in}
use Rattle.lu_judge_recovery.proofs.Judging.{due_after}
use Rattle.lu_judge_recovery.proofs.kept.is_due.Goals as goal

pub returns-else-not-same_lock : goal.returns-else-not-same_lock
returns-else-not-same_lock c = record {
  due = due_after (lock_in c.args.closing.now c.args.lock.now.ask.who c.args.lock.now.cookie.0) c.args.lock.now c.has_restored.result
      (has_restored_in c.args.closing.now c.args.lock.now.ask.who c.args.lock.now.cookie.0)
      (sym c.in-Some.ensures.lock ∙ ap (λ (l : Lock). Some l) (c.same_lock.ensures.0 c.if-not-same_lock.false))
      c.has_restored.ensures.restored;
}
