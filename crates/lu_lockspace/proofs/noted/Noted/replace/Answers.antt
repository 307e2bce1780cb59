-- The new queue has no lock of a life that had none, and none waits where none waited.
use Rattle.std.proofs.Common.{sym, subst}
use Rattle.lu_lockspace.specs.Entries.{at}
use Rattle.lu_lockspace.specs.Notes.{IsFewer}
use Rattle.lu_lockspace.proofs.Notes.{noted_fewer}
use Rattle.lu_lockspace.proofs.noted.Noted.replace.Goals as goal

pub invariant_of-self : goal.invariant_of-self
invariant_of-self c =
    let r = c.args.resource in
    let before = c.self.inside.queues in
    noted_fewer r before c.replace.new.self c.self.inside.stays.keys c.self.inside.waited.keys c.self.invariant c.replace.ensures.rising
    c.replace.ensures.others
    (subst (λ q. IsFewer q (at r before)) (sym c.replace.ensures.here)
    (subst (λ es. IsFewer c.args.queue (at r es)) (sym c.self.view_is) c.requires.fewer))
