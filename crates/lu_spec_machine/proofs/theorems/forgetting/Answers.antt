use Rattle.lu_spec_machine.proofs.Stated.{forget_drops_opens}
use Rattle.lu_spec_machine.proofs.theorems.forgetting.Goals as goal

pub returns : goal.returns
returns c = forget_drops_opens
