use Rattle.lu_judge_acts.specs.Tables.{is_at}
use Rattle.lu_judge_acts.proofs.Flown.{list_some}
use Rattle.lu_judge_acts.proofs.flights.Flights.put.Goals as goal

pub returns-clause-put : goal.returns-clause-put
returns-clause-put c = λ t w. list_some _ (is_at c.args.target c.args.who t w) c.args.flight _ _
    (c.in_ok-insert.ensures.updates.0 (t, (w.client, w.life)))
