-- Other notes stay.
use Rattle.lu_lockspace.proofs.Notes.{kept_more}
use Rattle.lu_lockspace.proofs.stays.note_waits.Goals as goal

pub returns-clause-others : goal.returns-clause-others
returns-clause-others c = λ r h. kept_more _ _ _ (c.in_ok-insert.ensures.updates.0 r) h
