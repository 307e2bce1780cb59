use Rattle.lu_held.proofs.Choices.{serving_held, serving_serves, serving_none, serving_best}
use Rattle.lu_held.proofs.laws.choice.Goals as goal

pub returns-clause-held : goal.returns-clause-held
returns-clause-held c = serving_held

pub returns-clause-serves : goal.returns-clause-serves
returns-clause-serves c = serving_serves

pub returns-clause-none : goal.returns-clause-none
returns-clause-none c = serving_none

pub returns-clause-best : goal.returns-clause-best
returns-clause-best c = serving_best
