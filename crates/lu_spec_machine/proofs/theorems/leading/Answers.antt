use Rattle.lu_spec_machine.proofs.Leads.{leads_stay}
use Rattle.lu_spec_machine.proofs.theorems.leading.Goals as goal

pub returns : goal.returns
returns c = leads_stay
