-- The queues with a waiting lock.
use Rattle.std.proofs.Common.{◌≡◌, sym, ◌∙◌, subst}
use Rattle.lu_lockspace.specs.Spaces.{IsSpace, AreWaitedOn}
use Rattle.lu_lockspace.specs.Entries.{all_of, waited_on}
use Rattle.lu_lockspace.proofs.Laws.{lawful}
use Rattle.lu_lockspace.proofs.Waited.{are_waited_on}
use Rattle.lu_lockspace.proofs.space.Lockspace.waited_on.Goals as goal

pub returns-clause-resources : goal.returns-clause-resources
returns-clause-resources c =
    let told : c.from.result ≡ waited_on c.self.inside.queues = c.from.ensures ∙ c.in_ok-resources.ensures.resources in
    subst (λ s. AreWaitedOn s c.from.result) c.self.view_is
    (subst (AreWaitedOn (all_of c.self.inside.queues)) (sym told) (are_waited_on c.self.inside.queues c.self.invariant.rising))

pub returns-in_err-resources-clause-lawful : goal.returns-in_err-resources-clause-lawful
returns-in_err-resources-clause-lawful c = subst IsSpace c.self.view_is
    (lawful c.self.inside.queues c.self.inside.places.entries c.self.invariant)

pub returns-clause-lawful : goal.returns-clause-lawful
returns-clause-lawful c = subst IsSpace c.self.view_is (lawful c.self.inside.queues c.self.inside.places.entries c.self.invariant)
