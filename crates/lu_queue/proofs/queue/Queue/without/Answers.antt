-- The queue without the lock is coherent.
use Rattle.std.proofs.Common.{◌≡◌, sym, subst, rules}
use Rattle.lu_queue.specs.Queues.{QueueState, without, IsCoherent}
use Rattle.lu_queue.proofs.Coherence.{coherent_without}
use Rattle.lu_queue.proofs.queue.Queue.without.Goals as goal

pub settled-requires : goal.settled-requires
settled-requires c =
    let queue : QueueState = record { granted = c.self.inside.granted; waiting = c.self.inside.waiting } in
    let start : QueueState = record { granted = c.in_ok-granted.granted.items; waiting = c.in_ok-waiting.waiting.items } in
    let same : start ≡ without c.args.cookie.0 queue = search rules in
    subst IsCoherent (sym same) (coherent_without c.args.cookie.0 queue c.self.invariant)
