-- One lock more, in its queue and among the places.
use Rattle.std.proofs.Common.{◌≡◌, ◌∙◌, false, None, sym, ap, subst}
use Rattle.lu_queue.specs.Queues as queue
use Rattle.lu_queue.specs.Queues.{placed, with_lock}
use Rattle.lu_lockspace.specs.Spaces.{is_in, grant_of, queue_of, KeepsOthers}
use Rattle.lu_lockspace.specs.Entries.{at, all_of, place_of, IsIndexed}
use Rattle.lu_lockspace.proofs.Resources.{queue_at}
use Rattle.lu_lockspace.proofs.Laws.{keeps_others, no_place, lawful, indexed_with, indexed_same, in_with, put_back}
use Rattle.lu_lockspace.proofs.space.Lockspace.admit.Goals as goal

pub returns-in_err-insert-clause-lawful : goal.returns-in_err-insert-clause-lawful
returns-in_err-insert-clause-lawful c = lawful c.self.inside.queues c.self.inside.places.entries c.self.invariant

pub invariant_of-self-in-Ok : goal.invariant_of-self-in-Ok
invariant_of-self-in-Ok c =
    let lock = c.args.lock in
    let none : place_of lock.cookie.0 c.self.inside.places.entries ≡ None =
    no_place c.self.inside.queues c.self.inside.places.entries c.self.invariant lock.cookie.0
    (subst (λ s. is_in lock.cookie.0 s ≡ false) (sym c.self.view_is) c.requires.new) in
    indexed_with lock.cookie.0 lock.resource c.self.inside.queues c.enqueue.new.self c.self.inside.places.entries c.insert.new.self.entries
    c.self.invariant
    c.enqueue.ensures.rising c.enqueue.ensures.others c.in-Ok.ensures.lawful c.insert.ensures.ordered none
    (λ n. ap (queue.is_in n) c.in-Ok.ensures.added ∙ in_with n (grant_of lock) (at lock.resource c.self.inside.queues))
    (λ q. c.in_ok-insert.ensures.updates.0 q)

pub invariant_of-self-in-Err : goal.invariant_of-self-in-Err
invariant_of-self-in-Err c =
    let lock = c.args.lock in
    let none : place_of lock.cookie.0 c.self.inside.places.entries ≡ None =
    no_place c.self.inside.queues c.self.inside.places.entries c.self.invariant lock.cookie.0
    (subst (λ s. is_in lock.cookie.0 s ≡ false) (sym c.self.view_is) c.requires.new) in
    subst (λ es. IsIndexed es c.remove.new.self.entries) (sym c.in-Err.ensures.kept)
    (indexed_same c.self.inside.queues c.self.inside.places.entries c.remove.new.self.entries c.self.invariant c.remove.ensures.ordered
    (put_back lock.cookie.0 lock.resource c.self.inside.places.entries c.insert.new.self.entries c.remove.new.self.entries none
    (λ q. c.in_ok-insert.ensures.updates.0 q) (λ q. c.remove.ensures.updates.0 q)))

pub returns-in-Ok-clause-placed : goal.returns-in-Ok-clause-placed
returns-in-Ok-clause-placed c =
    let lock = c.args.lock in
    let here : queue_of lock.resource c.args.self.now ≡ at lock.resource c.self.inside.queues =
    subst (λ s. queue_of lock.resource s ≡ at lock.resource c.self.inside.queues) c.self.view_is
    (queue_at lock.resource c.self.inside.queues c.self.invariant.rising) in
    c.in-Ok.ensures.placed ∙ ap (placed (grant_of lock)) (sym here)

pub returns-in-Ok-clause-added : goal.returns-in-Ok-clause-added
returns-in-Ok-clause-added c =
    let lock = c.args.lock in
    let here : queue_of lock.resource c.args.self.now ≡ at lock.resource c.self.inside.queues =
    subst (λ s. queue_of lock.resource s ≡ at lock.resource c.self.inside.queues) c.self.view_is
    (queue_at lock.resource c.self.inside.queues c.self.invariant.rising) in
    queue_at lock.resource c.enqueue.new.self c.enqueue.ensures.rising ∙ c.in-Ok.ensures.added ∙ ap (with_lock (grant_of lock)) (sym here)

pub returns-in-Ok-clause-others : goal.returns-in-Ok-clause-others
returns-in-Ok-clause-others c =
    subst (λ s. KeepsOthers c.args.lock.resource s (all_of c.enqueue.new.self)) c.self.view_is
    (keeps_others c.args.lock.resource c.self.inside.queues c.enqueue.new.self c.self.invariant.rising c.enqueue.ensures.rising
    c.enqueue.ensures.others)

pub returns-in-Ok-clause-lawful : goal.returns-in-Ok-clause-lawful
returns-in-Ok-clause-lawful c = lawful c.enqueue.new.self c.insert.new.self.entries (invariant_of-self-in-Ok c)

pub returns-in-Err-clause-lawful : goal.returns-in-Err-clause-lawful
returns-in-Err-clause-lawful c = lawful c.enqueue.new.self c.remove.new.self.entries (invariant_of-self-in-Err c)
