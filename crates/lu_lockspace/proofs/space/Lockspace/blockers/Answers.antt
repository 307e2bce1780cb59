-- What blocks the locks of the resource's queue.
use Rattle.std.proofs.Common.{◌≡◌, [], sym, subst}
use Rattle.lu_lockspace.specs.Spaces.{IsSpace, queue_of, AreBlocking}
use Rattle.lu_lockspace.proofs.Laws.{lawful}
use Rattle.lu_lockspace.specs.Entries.{at}
use Rattle.lu_lockspace.proofs.Resources.{queue_at}
use Rattle.lu_lockspace.proofs.space.Lockspace.blockers.Goals as goal

pub returns-clause-cookies : goal.returns-clause-cookies
returns-clause-cookies c =
    let here : at c.args.resource c.self.inside.queues ≡ queue_of c.args.resource c.args.self.now =
    sym (subst (λ s. queue_of c.args.resource s ≡ at c.args.resource c.self.inside.queues) c.self.view_is
    (queue_at c.args.resource c.self.inside.queues c.self.invariant.rising)) in
    subst (λ q. AreBlocking q.granted q.waiting [] c.in_ok-cookies.cookies) here c.in_ok-cookies.ensures

pub returns-in_err-cookies-clause-lawful : goal.returns-in_err-cookies-clause-lawful
returns-in_err-cookies-clause-lawful c = subst IsSpace c.self.view_is
    (lawful c.self.inside.queues c.self.inside.places.entries c.self.invariant)

pub returns-clause-lawful : goal.returns-clause-lawful
returns-clause-lawful c = subst IsSpace c.self.view_is (lawful c.self.inside.queues c.self.inside.places.entries c.self.invariant)
