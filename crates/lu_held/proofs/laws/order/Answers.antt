use Rattle.lu_held.proofs.Choices.{rising_order, all_there, only_there}
use Rattle.lu_held.proofs.laws.order.Goals as goal

pub returns-clause-rising : goal.returns-clause-rising
returns-clause-rising c = rising_order

pub returns-clause-all : goal.returns-clause-all
returns-clause-all c = all_there

pub returns-clause-only : goal.returns-clause-only
returns-clause-only c = only_there
