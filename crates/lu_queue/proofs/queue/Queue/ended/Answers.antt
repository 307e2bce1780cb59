-- The queue without the locks of the lives is coherent.
use Rattle.std.proofs.Common.{◌≡◌, not, sym, subst, rules}
use Rattle.lu_queue.specs.Queues.{QueueState, is_of, without_lives, IsCoherent}
use Rattle.lu_queue.proofs.Coherence.{coherent_filtered}
use Rattle.lu_queue.proofs.queue.Queue.ended.Goals as goal

pub settled-requires : goal.settled-requires
settled-requires c =
    let queue : QueueState = record { granted = c.self.inside.granted; waiting = c.self.inside.waiting } in
    let start : QueueState = record { granted = c.in_ok-granted.granted.items; waiting = c.in_ok-waiting.waiting.items } in
    let same : start ≡ without_lives c.args.lives.now queue = search rules in
    subst IsCoherent (sym same) (coherent_filtered (λ lock. not (is_of c.args.lives.now lock)) queue c.self.invariant)
