-- The life has no lock there.
use Rattle.std.proofs.Common.{rules, ◌≡◌, false, [], ◌∷◌}
use Rattle.lu_queue.specs.Queues.{has_of}
use Rattle.lu_lockspace.specs.Entries.{at}
use Rattle.lu_lockspace.proofs.Notes.{noted_without}
use Rattle.lu_lockspace.proofs.noted.Noted.tidy_stay.Goals as goal

pub invariant_of-self : goal.invariant_of-self
invariant_of-self c =
    let gone : has_of (c.args.who ∷ []) (at c.args.resource c.self.inside.queues) ≡ false = search rules in
    noted_without c.self.inside.queues c.self.inside.stays.keys c.remove.new.self.keys c.self.inside.waited.keys c.args.who c.args.resource
    c.self.invariant gone (λ s. c.remove.ensures.updates.0 s)
