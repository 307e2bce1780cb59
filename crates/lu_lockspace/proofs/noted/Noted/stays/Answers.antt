-- What is noted of the lives leads to where they have locks.
use Rattle.std.proofs.Common.{subst}
use Rattle.lu_lockspace.specs.Notes.{AllListed}
use Rattle.lu_lockspace.proofs.NotedLives.{all_listed}
use Rattle.lu_lockspace.proofs.noted.Noted.stays.Goals as goal

pub returns : goal.returns
returns c = subst (λ es. AllListed c.args.lives.now es c.in_ok-stays.stays.items) c.self.view_is
    (all_listed c.args.lives.now c.self.inside.queues c.self.inside.stays.keys c.in_ok-stays.stays.items c.self.inside.waited.keys
    c.self.invariant c.in_ok-stays.ensures)
