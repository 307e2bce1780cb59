use Rattle.lu_patch.proofs.Changes.{untouched_lands, unsent_stays, written_stays}
use Rattle.lu_patch.proofs.laws.landing.Goals as goal

pub returns-clause-untouched : goal.returns-clause-untouched
returns-clause-untouched c = untouched_lands

pub returns-clause-written : goal.returns-clause-written
returns-clause-written c = written_stays

pub returns-clause-unsent : goal.returns-clause-unsent
returns-clause-unsent c = unsent_stays
