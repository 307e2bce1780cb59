-- One lock less, in its queue and among the places.
use Rattle.std.proofs.Common.{◌≡◌, ◌∙◌, Some, sym, subst}
use Rattle.lu_queue.specs.Queues.{without, AreGranted}
use Rattle.lu_lockspace.specs.Spaces.{IsSpace, queue_of, KeepsOthers}
use Rattle.lu_lockspace.proofs.Laws.{lawful, keeps_others, place_is, indexed_without, granted_in, in_without}
use Rattle.lu_lockspace.specs.Entries.{at, all_of, place_of, IsPlaced}
use Rattle.lu_lockspace.proofs.Resources.{queue_at}
use Rattle.lu_lockspace.proofs.space.Lockspace.take_away.Goals as goal

pub invariant_of-self : goal.invariant_of-self
invariant_of-self c =
    let cookie = c.args.cookie.0 in
    let resource = c.args.resource in
    let entries = c.self.inside.queues in
    let places = c.self.inside.places.entries in
    let new = c.cancel.new.self in
    let found : place_of cookie places ≡ Some resource = place_is entries places c.self.invariant cookie resource
    (subst (λ s. IsPlaced cookie s (Some resource)) (sym c.self.view_is) c.requires) in
    indexed_without cookie resource entries new places c.remove.new.self.entries c.self.invariant c.cancel.ensures.rising
    c.cancel.ensures.others c.in-Ok.ensures.lawful c.remove.ensures.ordered found
    (λ n. granted_in n (without cookie (at resource entries)) c.in-Ok.grants (at resource new) c.in-Ok.ensures.granted
    ∙ in_without n cookie (at resource entries))
    (λ q. c.remove.ensures.updates.0 q)

pub returns-in-Ok-clause-granted : goal.returns-in-Ok-clause-granted
returns-in-Ok-clause-granted c =
    let resource = c.args.resource in
    let start : at resource c.self.inside.queues ≡ queue_of resource c.args.self.now =
    sym (subst (λ s. queue_of resource s ≡ at resource c.self.inside.queues) c.self.view_is
    (queue_at resource c.self.inside.queues c.self.invariant.rising)) in
    let end : at resource c.cancel.new.self ≡ queue_of resource (all_of c.cancel.new.self) =
    sym (queue_at resource c.cancel.new.self c.cancel.ensures.rising) in
    subst (λ q. AreGranted (without c.args.cookie.0 q) c.in-Ok.grants (queue_of resource (all_of c.cancel.new.self))) start
    (subst (AreGranted (without c.args.cookie.0 (at resource c.self.inside.queues)) c.in-Ok.grants) end c.in-Ok.ensures.granted)

pub returns-in-Ok-clause-others : goal.returns-in-Ok-clause-others
returns-in-Ok-clause-others c =
    subst (λ s. KeepsOthers c.args.resource s (all_of c.cancel.new.self)) c.self.view_is
    (keeps_others c.args.resource c.self.inside.queues c.cancel.new.self c.self.invariant.rising c.cancel.ensures.rising
    c.cancel.ensures.others)

pub returns-in-Ok-clause-lawful : goal.returns-in-Ok-clause-lawful
returns-in-Ok-clause-lawful c = lawful c.cancel.new.self c.remove.new.self.entries (invariant_of-self c)

pub returns-in-Err-clause-lawful : goal.returns-in-Err-clause-lawful
returns-in-Err-clause-lawful c =
    subst (λ es. IsSpace (all_of es)) (sym c.in-Err.ensures.kept)
    (lawful c.self.inside.queues c.self.inside.places.entries c.self.invariant)
