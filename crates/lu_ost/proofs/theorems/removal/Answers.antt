use Rattle.lu_ost.proofs.Removal.{objects_removal}
use Rattle.lu_ost.proofs.theorems.removal.Goals as goal

pub returns : goal.returns
returns c = record { removes = objects_removal }
