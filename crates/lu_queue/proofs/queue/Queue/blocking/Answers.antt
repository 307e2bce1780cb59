-- No cookie is twice among the granted locks.
use Rattle.std.proofs.Common.{sym, subst}
use Rattle.lu_queue.specs.Queues.{IsOnce}
use Rattle.lu_queue.proofs.Lists.{once_left}
use Rattle.lu_queue.proofs.queue.Queue.blocking.Goals as goal

pub in_conflict-requires : goal.in_conflict-requires
in_conflict-requires c =
    subst IsOnce (sym c.as_slice.ensures) (once_left c.self.inside.granted c.self.inside.waiting c.self.invariant.coherent.once)
