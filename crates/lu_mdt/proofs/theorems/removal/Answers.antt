-- The law stands proved over trees.
use Rattle.lu_mdt.proofs.Removal.{names_removal}
use Rattle.lu_mdt.proofs.theorems.removal.Goals as goal

pub returns : goal.returns
returns c = record { removes = names_removal }
