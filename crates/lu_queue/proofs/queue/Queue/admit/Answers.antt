-- The queue with one lock more, waiting or granted.
use Rattle.std.proofs.Common.{◌≡◌, true, false, [], ◌∷◌, ◌++◌, sym, subst, rules}
use Rattle.lu_queue.specs.Queues.{QueueState, is_in, has_to_wait, as_granted, IsQueue}
use Rattle.lu_queue.proofs.Coherence.{queue_waits, queue_grants}
use Rattle.lu_queue.proofs.queue.Queue.admit.Goals as goal

pub invariant_of-self-then-has_to_wait : goal.invariant_of-self-then-has_to_wait
invariant_of-self-then-has_to_wait c =
    let lock = c.args.lock in
    let granted = c.self.inside.granted in
    let waiting = c.self.inside.waiting in
    let queue : QueueState = record { granted = granted; waiting = waiting } in
    let new : is_in lock.cookie.0 queue ≡ false = subst (λ q. is_in lock.cookie.0 q ≡ false) (sym c.self.view_is) c.requires.new in
    let waits : has_to_wait lock.ask granted waiting ≡ true = search rules in
    subst (λ xs. IsQueue (record { granted = granted; waiting = xs })) (sym c.in_ok-push.ensures.added)
    (queue_waits queue lock c.self.invariant new c.requires.ask waits)

pub returns-then-has_to_wait-clause-lawful : goal.returns-then-has_to_wait-clause-lawful
returns-then-has_to_wait-clause-lawful c = invariant_of-self-then-has_to_wait c

pub invariant_of-self-2 : goal.invariant_of-self-2
invariant_of-self-2 c =
    let lock = c.args.lock in
    let granted = c.self.inside.granted in
    let waiting = c.self.inside.waiting in
    let queue : QueueState = record { granted = granted; waiting = waiting } in
    let new : is_in lock.cookie.0 queue ≡ false = subst (λ q. is_in lock.cookie.0 q ≡ false) (sym c.self.view_is) c.requires.new in
    let free : has_to_wait lock.ask granted waiting ≡ false = search rules in
    let more : c.push-2.new.self ≡ granted ++ as_granted lock granted waiting ∷ [] = search rules in
    subst (λ xs. IsQueue (record { granted = xs; waiting = waiting })) (sym more)
    (queue_grants queue lock c.self.invariant new c.requires.ask free)

pub returns-clause-lawful : goal.returns-clause-lawful
returns-clause-lawful c = invariant_of-self-2 c
