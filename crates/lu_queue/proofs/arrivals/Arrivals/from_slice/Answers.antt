-- No lock before it has the cookie.
use Rattle.std.proofs.Common.{suc, subst, take, drop}
use Rattle.std.proofs.Math.Seq.{split_at}
use Rattle.lu_queue.specs.Queues.{IsOnce}
use Rattle.lu_queue.proofs.Lists.{new_after}
use Rattle.lu_queue.proofs.arrivals.Arrivals.from_slice.Goals as goal

pub push-requires : goal.push-requires
push-requires c = rw c.loop-lock.invariant (new_after (take c.loop-lock.lock-index c.args.locks.now) _
    (drop (suc c.loop-lock.lock-index) c.args.locks.now) (subst IsOnce
    (split_at c.args.locks.now c.loop-lock.lock-index _ c.loop-lock-test.true) c.requires))
