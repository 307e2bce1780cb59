-- No cookie is twice among the granted locks.
use Rattle.std.proofs.Common.{sym, subst}
use Rattle.lu_queue.specs.Queues.{IsOnce}
use Rattle.lu_queue.proofs.Lists.{once_left}
use Rattle.lu_lockspace.proofs.listing.blocking_in.Goals as goal

pub blocking-requires : goal.blocking-requires
blocking-requires c = subst IsOnce (sym c.granted_locks.ensures.locks)
    (once_left c.args.queue.now.granted c.args.queue.now.waiting c.granted_locks.ensures.lawful.coherent.once)
