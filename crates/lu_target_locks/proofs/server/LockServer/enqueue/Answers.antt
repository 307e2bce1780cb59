-- The lock is there under the next cookie.
use Rattle.std.proofs.Common.{sym, subst}
use Rattle.lu_base.specs.declared.locks.Lock.{Lock}
use Rattle.lu_target_locks.specs.Servers.{enqueued_of, IsEnqueued}
use Rattle.lu_target_locks.proofs.Enqueues.{is_enqueued}
use Rattle.lu_target_locks.proofs.server.LockServer.enqueue.Goals as goal

pub returns-clause-enqueued : goal.returns-clause-enqueued
returns-clause-enqueued c =
    let l : Lock = c.in_ok-lock.lock in
    subst (λ answer. IsEnqueued c.args.resource c.args.ask answer c.args.self.now c.add.new.self) (sym c.as_placed.ensures)
    (subst (λ (k : Lock). IsEnqueued c.args.resource c.args.ask (enqueued_of k c.in_ok-lock.placed) c.args.self.now c.add.new.self)
    (sym c.in_ok-lock.ensures.lock)
    (is_enqueued c.args.resource c.args.ask l.cookie c.in_ok-lock.placed c.args.self.now c.add.new.self c.in_ok-lock.ensures.added))
