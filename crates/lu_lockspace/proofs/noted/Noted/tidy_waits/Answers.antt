-- No lock waits there.
use Rattle.std.proofs.Common.{rules, ◌≡◌, false}
use Rattle.lu_lockspace.specs.Spaces.{some_waits}
use Rattle.lu_lockspace.specs.Entries.{at}
use Rattle.lu_lockspace.proofs.Notes.{waits_forgotten}
use Rattle.lu_lockspace.proofs.noted.Noted.tidy_waits.Goals as goal

pub invariant_of-self : goal.invariant_of-self
invariant_of-self c =
    let gone : some_waits (at c.args.resource c.self.inside.queues) ≡ false = search rules in
    waits_forgotten c.self.inside.queues c.self.inside.stays.keys c.self.inside.waited.keys c.remove.new.self.keys c.args.resource
    c.self.invariant gone (λ r. c.remove.ensures.updates.0 r)
