use Rattle.lu_judge_acts.proofs.Flown.{list_none}
use Rattle.lu_judge_acts.proofs.flights.Flights.take.Goals as goal

pub returns-in-Some-clause-rest : goal.returns-in-Some-clause-rest
returns-in-Some-clause-rest c = λ t w. list_none _ _ _ _ (c.remove.ensures.updates.0 (t, (w.client, w.life)))
