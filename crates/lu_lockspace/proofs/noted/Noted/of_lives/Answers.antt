-- Those of the noted resources on which one of the lives has a lock.
use Rattle.std.proofs.Common.{◌∙◌, refl, sym, ap, subst}
use Rattle.lu_queue.specs.Queues.{has_of}
use Rattle.lu_lockspace.specs.Entries.{changed}
use Rattle.lu_lockspace.specs.Notes.{AllListed}
use Rattle.lu_lockspace.proofs.Kept.{kept_is}
use Rattle.lu_lockspace.proofs.noted.Noted.of_lives.Goals as goal

pub returns-clause-resources : goal.returns-clause-resources
returns-clause-resources c =
    let es = c.self.inside.queues in
    let lives = c.args.lives.now in
    let listed : AllListed lives es c.args.stays.now = subst (λ xs. AllListed lives xs c.args.stays.now) (sym c.self.view_is) c.requires in
    c.in_ok-resources.ensures.resources
    ∙ kept_is (has_of lives) refl es c.in_ok-noted.noted.keys c.self.invariant.rising c.held_among.ensures.ordered
    (λ r h. c.in_ok-noted.ensures r (listed r h))
    ∙ ap (changed lives) c.self.view_is
