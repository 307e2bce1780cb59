-- There is nothing to note.
use Rattle.lu_lockspace.proofs.Notes.{none_noted}
use Rattle.lu_lockspace.proofs.noted.Noted.new.Goals as goal

pub invariant_of-result : goal.invariant_of-result
invariant_of-result c = none_noted c.new.result c.new-2.result.keys c.new-3.result.keys c.new.ensures.empty
