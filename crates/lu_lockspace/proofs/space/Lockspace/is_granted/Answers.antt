-- A lock is granted where its queue grants it.
use Rattle.std.proofs.Common.{◌∙◌, Some, sym, ap}
use Rattle.lu_queue.specs.Queues as queue
use Rattle.lu_lockspace.proofs.Places.{granted_at, not_granted}
use Rattle.lu_lockspace.proofs.space.Lockspace.is_granted.Goals as goal

pub returns-in-Some-clause-granted : goal.returns-in-Some-clause-granted
returns-in-Some-clause-granted c =
    c.is_granted.ensures.granted ∙ ap (λ q. queue.has c.args.cookie.0 q.granted) c.in-Some.ensures.queue
    ∙ sym (granted_at c.args.cookie.0 c.args.self.now (Some _) c.in-Some.ensures.placed)

pub returns-in-None-clause-granted : goal.returns-in-None-clause-granted
returns-in-None-clause-granted c = sym (not_granted c.args.cookie.0 c.args.self.now c.in-None.ensures.placed)
