-- The granted locks of the resource's queue in rising cookie.
use Rattle.std.proofs.Common.{◌≡◌, Some, None, sym, subst, rules}
use Rattle.lu_queue.specs.Queues as queue
use Rattle.lu_lockspace.specs.Spaces.{IsSpace, IsAt, lock_on}
use Rattle.lu_lockspace.proofs.Laws.{lawful, granted_on, none_at, at_some, at_none}
use Rattle.lu_lockspace.specs.Entries.{entry_of}
use Rattle.lu_lockspace.proofs.space.Lockspace.granted.Goals as goal

pub returns-in_default-clause-lock : goal.returns-in_default-clause-lock
returns-in_default-clause-lock c =
    let none : entry_of c.args.resource c.self.inside.queues ≡ None = search rules in
    subst (λ s. IsAt c.args.resource c.args.at s.granted None) c.self.view_is
    (granted_on c.args.resource c.self.inside.queues c.args.at None c.self.invariant.rising
    (subst (λ q. queue.IsAt c.args.at q.granted None) (sym (at_none c.args.resource c.self.inside.queues none)) (none_at c.args.at)))

pub returns-in_default-rising-clause-lock : goal.returns-in_default-rising-clause-lock
returns-in_default-rising-clause-lock c =
    let there : entry_of c.args.resource c.self.inside.queues ≡ Some c.in-Some.queue.now = search rules in
    let last : queue.IsAt c.args.at c.in-Some.queue.now.granted None = search rules in
    subst (λ s. IsAt c.args.resource c.args.at s.granted None) c.self.view_is
    (granted_on c.args.resource c.self.inside.queues c.args.at None c.self.invariant.rising
    (subst (λ q. queue.IsAt c.args.at q.granted None) (sym (at_some c.args.resource c.self.inside.queues c.in-Some.queue.now there))
    last))

pub returns-clause-lock : goal.returns-clause-lock
returns-clause-lock c =
    let there : entry_of c.args.resource c.self.inside.queues ≡ Some c.in-Some.queue.now = search rules in
    let found : queue.IsAt c.args.at c.in-Some.queue.now.granted (Some c.in-Some-rising.grant.now) = search rules in
    subst (λ l. IsAt c.args.resource c.args.at c.args.self.now.granted (Some l)) (sym c.lock_on.ensures)
    (subst (λ s. IsAt c.args.resource c.args.at s.granted (Some (lock_on c.args.resource c.in-Some-rising.grant.now))) c.self.view_is
    (granted_on c.args.resource c.self.inside.queues c.args.at (Some c.in-Some-rising.grant.now) c.self.invariant.rising
    (subst (λ q. queue.IsAt c.args.at q.granted (Some c.in-Some-rising.grant.now))
    (sym (at_some c.args.resource c.self.inside.queues c.in-Some.queue.now there)) found)))

pub returns-in_default-clause-lawful : goal.returns-in_default-clause-lawful
returns-in_default-clause-lawful c = subst IsSpace c.self.view_is
    (lawful c.self.inside.queues c.self.inside.places.entries c.self.invariant)

pub returns-in_default-rising-clause-lawful : goal.returns-in_default-rising-clause-lawful
returns-in_default-rising-clause-lawful c = subst IsSpace c.self.view_is
    (lawful c.self.inside.queues c.self.inside.places.entries c.self.invariant)

pub returns-clause-lawful : goal.returns-clause-lawful
returns-clause-lawful c = subst IsSpace c.self.view_is (lawful c.self.inside.queues c.self.inside.places.entries c.self.invariant)
