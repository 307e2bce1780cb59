-- The place of a cookie has a queue.
use Rattle.std.proofs.Common.{◌≡◌, ◌∙◌, Some, None, sym, subst, rules}
use Rattle.lu_lockspace.specs.Spaces.{IsSpace, queue_of}
use Rattle.lu_lockspace.proofs.Laws.{lawful, placed_at, not_there, at_some}
use Rattle.lu_lockspace.specs.Entries.{entry_of, all_of, place_of, IsPlaced}
use Rattle.lu_lockspace.proofs.Resources.{queue_at}
use Rattle.lu_lockspace.proofs.space.Lockspace.queue_with.Goals as goal

pub returns-in_default-clause-placed : goal.returns-in_default-clause-placed
returns-in_default-clause-placed c =
    let none : place_of c.args.cookie.0 c.self.inside.places.entries ≡ None = search rules in
    subst (λ s. IsPlaced c.args.cookie.0 s None) c.self.view_is
    (subst (IsPlaced c.args.cookie.0 (all_of c.self.inside.queues)) none
    (placed_at c.self.inside.queues c.self.inside.places.entries c.self.invariant c.args.cookie.0))

pub returns-in_default-of-clause-placed : goal.returns-in_default-of-clause-placed
returns-in_default-of-clause-placed c =
    let found : place_of c.args.cookie.0 c.self.inside.places.entries ≡ Some c.in-Some.resource.now = search rules in
    let none : entry_of c.in-Some.resource.now c.self.inside.queues ≡ None = search rules in
    absurd (not_there c.self.inside.queues c.self.inside.places.entries c.self.invariant c.args.cookie.0 c.in-Some.resource.now found none)

pub returns-clause-placed : goal.returns-clause-placed
returns-clause-placed c =
    let found : place_of c.args.cookie.0 c.self.inside.places.entries ≡ Some c.in-Some.resource.now = search rules in
    subst (λ s. IsPlaced c.args.cookie.0 s (Some c.in-Some.resource.now)) c.self.view_is
    (subst (IsPlaced c.args.cookie.0 (all_of c.self.inside.queues)) found
    (placed_at c.self.inside.queues c.self.inside.places.entries c.self.invariant c.args.cookie.0))

pub returns-clause-queue : goal.returns-clause-queue
returns-clause-queue c =
    let there : entry_of c.in-Some.resource.now c.self.inside.queues ≡ Some c.in-Some-of.queue.now = search rules in
    subst (λ s. c.in-Some-of.queue.now ≡ queue_of c.in-Some.resource.now s) c.self.view_is
    (sym (queue_at c.in-Some.resource.now c.self.inside.queues c.self.invariant.rising
    ∙ at_some c.in-Some.resource.now c.self.inside.queues c.in-Some-of.queue.now there))

pub returns-in_default-clause-lawful : goal.returns-in_default-clause-lawful
returns-in_default-clause-lawful c = subst IsSpace c.self.view_is
    (lawful c.self.inside.queues c.self.inside.places.entries c.self.invariant)

pub returns-in_default-of-clause-lawful : goal.returns-in_default-of-clause-lawful
returns-in_default-of-clause-lawful c = subst IsSpace c.self.view_is
    (lawful c.self.inside.queues c.self.inside.places.entries c.self.invariant)

pub returns-clause-lawful : goal.returns-clause-lawful
returns-clause-lawful c = subst IsSpace c.self.view_is (lawful c.self.inside.queues c.self.inside.places.entries c.self.invariant)
