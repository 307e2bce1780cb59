-- The queue with one granted lock more.
use Rattle.std.proofs.Common.{◌≡◌, ◌∙◌, false, [], ◌∷◌, ◌++◌, refl, sym, ap, subst}
use Rattle.lu_queue.specs.declared.locks.Grant.{Grant}
use Rattle.lu_queue.specs.Queues.{QueueState, is_in, conflicts, IsQueue}
use Rattle.lu_queue.proofs.Coherence.{queue_with}
use Rattle.lu_queue.proofs.queue.Queue.restore.Goals as goal

pub invariant_of-self-2 : goal.invariant_of-self-2
invariant_of-self-2 c =
    let lock : Grant = record { cookie = c.args.cookie; ask = c.args.ask } in
    let granted = c.self.inside.granted in
    let queue : QueueState = record { granted = granted; waiting = c.self.inside.waiting } in
    let new : is_in lock.cookie.0 queue ≡ false =
    subst (λ q. is_in lock.cookie.0 q ≡ false) (sym c.self.view_is) (sym c.has.ensures.found ∙ c.if-has.false) in
    let none : conflicts lock.ask granted ≡ false =
    sym (c.conflicts.ensures ∙ ap (conflicts lock.ask) c.as_slice.ensures) ∙ c.if-conflicts.false in
    let more : c.push.new.self ≡ granted ++ lock ∷ [] = c.in_ok-push.ensures.added in
    subst (λ xs. IsQueue (record { granted = xs; waiting = c.self.inside.waiting })) (sym more)
    (queue_with queue lock lock c.self.invariant new refl none)

pub returns-clause-lawful : goal.returns-clause-lawful
returns-clause-lawful c = invariant_of-self-2 c
