-- One lock more, in its queue and among the places.
use Rattle.std.proofs.Common.{◌≡◌, ◌∙◌, true, false, None, rules, sym, ap, subst}
use Rattle.lu_queue.specs.Queues as queue
use Rattle.lu_queue.specs.Queues.{QueueState, may_restore, restored}
use Rattle.lu_lockspace.specs.Spaces.{is_in, grant_of, queue_of, KeepsOthers}
use Rattle.lu_lockspace.specs.Entries.{at, all_of, place_of, is_place, IsIndexed}
use Rattle.lu_lockspace.proofs.Resources.{queue_at}
use Rattle.lu_lockspace.proofs.Laws.{keeps_others, no_place, lawful, indexed_with, indexed_same, indexed_changed, in_restored, not_restored}
use Rattle.lu_lockspace.proofs.Laws.{put_back}
use Rattle.lu_lockspace.proofs.space.Lockspace.put_back.Goals as goal

pub returns-in_err-insert-clause-lawful : goal.returns-in_err-insert-clause-lawful
returns-in_err-insert-clause-lawful c = lawful c.self.inside.queues c.self.inside.places.entries c.self.invariant

pub restore-requires-clause-ask : goal.restore-requires-clause-ask
restore-requires-clause-ask c = c.requires.ask

pub restore-requires-clause-quiet : goal.restore-requires-clause-quiet
restore-requires-clause-quiet c =
    let lock = c.args.lock in
    let here : at lock.resource c.self.inside.queues ≡ queue_of lock.resource c.args.self.now =
    sym (subst (λ s. queue_of lock.resource s ≡ at lock.resource c.self.inside.queues) c.self.view_is
    (queue_at lock.resource c.self.inside.queues c.self.invariant.rising)) in
    ap (λ (q : QueueState). q.waiting) here ∙ c.requires.quiet

pub invariant_of-self-in-Ok-true : goal.invariant_of-self-in-Ok-true
invariant_of-self-in-Ok-true c =
    let lock = c.args.lock in
    let none : place_of lock.cookie.0 c.self.inside.places.entries ≡ None =
    no_place c.self.inside.queues c.self.inside.places.entries c.self.invariant lock.cookie.0
    (subst (λ s. is_in lock.cookie.0 s ≡ false) (sym c.self.view_is) c.requires.new) in
    let may : true ≡ may_restore (grant_of lock) (at lock.resource c.self.inside.queues) = search rules in
    indexed_with lock.cookie.0 lock.resource c.self.inside.queues c.restore.new.self c.self.inside.places.entries c.insert.new.self.entries
    c.self.invariant
    c.restore.ensures.rising c.restore.ensures.others c.in-Ok-true.ensures.lawful c.insert.ensures.ordered none
    (λ n. ap (queue.is_in n) c.in-Ok-true.ensures.added ∙ in_restored n (grant_of lock) (at lock.resource c.self.inside.queues) may)
    (λ q. c.in_ok-insert.ensures.updates.0 q)

pub invariant_of-self-in-Ok-false : goal.invariant_of-self-in-Ok-false
invariant_of-self-in-Ok-false c =
    let lock = c.args.lock in
    let resource = lock.resource in
    let entries = c.self.inside.queues in
    let places = c.self.inside.places.entries in
    let none : place_of lock.cookie.0 places ≡ None = no_place entries places c.self.invariant lock.cookie.0
    (subst (λ s. is_in lock.cookie.0 s ≡ false) (sym c.self.view_is) c.requires.new) in
    let back = put_back lock.cookie.0 resource places c.insert.new.self.entries c.remove.new.self.entries none
    (λ q. c.in_ok-insert.ensures.updates.0 q) (λ q. c.remove.ensures.updates.0 q) in
    let may : false ≡ may_restore (grant_of lock) (at resource entries) = search rules in
    let same : at resource c.restore.new.self ≡ at resource entries = c.in-Ok-false.ensures.added
    ∙ not_restored (grant_of lock) (at resource entries) may in
    indexed_changed resource entries c.restore.new.self places c.remove.new.self.entries c.self.invariant c.restore.ensures.rising
    c.restore.ensures.others c.in-Ok-false.ensures.lawful c.remove.ensures.ordered
    (λ n. ap (queue.is_in n) same ∙ c.self.invariant.placed n resource ∙ ap (is_place resource) (sym (back n)))
    (λ n s differ. ap (is_place s) (back n))

pub invariant_of-self-in-Err : goal.invariant_of-self-in-Err
invariant_of-self-in-Err c =
    let lock = c.args.lock in
    let none : place_of lock.cookie.0 c.self.inside.places.entries ≡ None =
    no_place c.self.inside.queues c.self.inside.places.entries c.self.invariant lock.cookie.0
    (subst (λ s. is_in lock.cookie.0 s ≡ false) (sym c.self.view_is) c.requires.new) in
    subst (λ es. IsIndexed es c.remove-in-Err.new.self.entries) (sym c.in-Err.ensures.kept)
    (indexed_same c.self.inside.queues c.self.inside.places.entries c.remove-in-Err.new.self.entries c.self.invariant
    c.remove-in-Err.ensures.ordered
    (put_back lock.cookie.0 lock.resource c.self.inside.places.entries c.insert.new.self.entries c.remove-in-Err.new.self.entries none
    (λ q. c.in_ok-insert.ensures.updates.0 q) (λ q. c.remove-in-Err.ensures.updates.0 q)))

pub returns-in-Ok-true-clause-restored : goal.returns-in-Ok-true-clause-restored
returns-in-Ok-true-clause-restored c =
    let lock = c.args.lock in
    let here : queue_of lock.resource c.args.self.now ≡ at lock.resource c.self.inside.queues =
    subst (λ s. queue_of lock.resource s ≡ at lock.resource c.self.inside.queues) c.self.view_is
    (queue_at lock.resource c.self.inside.queues c.self.invariant.rising) in
    (let may : true ≡ may_restore (grant_of lock) (at lock.resource c.self.inside.queues) = search rules in may)
    ∙ ap (may_restore (grant_of lock)) (sym here)

pub returns-in-Ok-true-clause-added : goal.returns-in-Ok-true-clause-added
returns-in-Ok-true-clause-added c =
    let lock = c.args.lock in
    let here : queue_of lock.resource c.args.self.now ≡ at lock.resource c.self.inside.queues =
    subst (λ s. queue_of lock.resource s ≡ at lock.resource c.self.inside.queues) c.self.view_is
    (queue_at lock.resource c.self.inside.queues c.self.invariant.rising) in
    queue_at lock.resource c.restore.new.self c.restore.ensures.rising ∙ c.in-Ok-true.ensures.added
    ∙ ap (restored (grant_of lock)) (sym here)

pub returns-in-Ok-true-clause-others : goal.returns-in-Ok-true-clause-others
returns-in-Ok-true-clause-others c =
    subst (λ s. KeepsOthers c.args.lock.resource s (all_of c.restore.new.self)) c.self.view_is
    (keeps_others c.args.lock.resource c.self.inside.queues c.restore.new.self c.self.invariant.rising c.restore.ensures.rising
    c.restore.ensures.others)

pub returns-in-Ok-true-clause-lawful : goal.returns-in-Ok-true-clause-lawful
returns-in-Ok-true-clause-lawful c = lawful c.restore.new.self c.insert.new.self.entries (invariant_of-self-in-Ok-true c)

pub returns-in-Ok-false-clause-restored : goal.returns-in-Ok-false-clause-restored
returns-in-Ok-false-clause-restored c =
    let lock = c.args.lock in
    let here : queue_of lock.resource c.args.self.now ≡ at lock.resource c.self.inside.queues =
    subst (λ s. queue_of lock.resource s ≡ at lock.resource c.self.inside.queues) c.self.view_is
    (queue_at lock.resource c.self.inside.queues c.self.invariant.rising) in
    (let may : false ≡ may_restore (grant_of lock) (at lock.resource c.self.inside.queues) = search rules in may)
    ∙ ap (may_restore (grant_of lock)) (sym here)

pub returns-in-Ok-false-clause-added : goal.returns-in-Ok-false-clause-added
returns-in-Ok-false-clause-added c =
    let lock = c.args.lock in
    let here : queue_of lock.resource c.args.self.now ≡ at lock.resource c.self.inside.queues =
    subst (λ s. queue_of lock.resource s ≡ at lock.resource c.self.inside.queues) c.self.view_is
    (queue_at lock.resource c.self.inside.queues c.self.invariant.rising) in
    queue_at lock.resource c.restore.new.self c.restore.ensures.rising ∙ c.in-Ok-false.ensures.added
    ∙ ap (restored (grant_of lock)) (sym here)

pub returns-in-Ok-false-clause-others : goal.returns-in-Ok-false-clause-others
returns-in-Ok-false-clause-others c =
    subst (λ s. KeepsOthers c.args.lock.resource s (all_of c.restore.new.self)) c.self.view_is
    (keeps_others c.args.lock.resource c.self.inside.queues c.restore.new.self c.self.invariant.rising c.restore.ensures.rising
    c.restore.ensures.others)

pub returns-in-Ok-false-clause-lawful : goal.returns-in-Ok-false-clause-lawful
returns-in-Ok-false-clause-lawful c = lawful c.restore.new.self c.remove.new.self.entries (invariant_of-self-in-Ok-false c)

pub returns-in-Err-clause-lawful : goal.returns-in-Err-clause-lawful
returns-in-Err-clause-lawful c = lawful c.restore.new.self c.remove-in-Err.new.self.entries (invariant_of-self-in-Err c)
