-- A lock less, and what is granted then.
use Rattle.lu_lockspace.specs.Entries.{at}
use Rattle.lu_lockspace.proofs.Notes.{noted_fewer, fewer_without}
use Rattle.lu_lockspace.proofs.noted.Noted.cancel.Goals as goal

pub invariant_of-self-2 : goal.invariant_of-self-2
invariant_of-self-2 c =
    let r = c.args.resource in
    let before = c.self.inside.queues in
    noted_fewer r before c.cancel.new.self c.self.inside.stays.keys c.self.inside.waited.keys c.self.invariant c.cancel.ensures.rising
    c.cancel.ensures.others
    (fewer_without c.args.cookie.0 (at r before) c.in_ok-grants.grants (at r c.cancel.new.self) c.in_ok-grants.ensures.granted)
