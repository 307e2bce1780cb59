use Rattle.lu_judge_glimpse.proofs.sightings.Sightings.note.Goals as goal

pub returns : goal.returns
returns c = record { last = λ f s n. c.in_ok-insert.ensures.updates.0 ((f.0, s), n) }
