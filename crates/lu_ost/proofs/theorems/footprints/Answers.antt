use Rattle.lu_ost.proofs.Footprints.{others_stay, new_from_old, forget_leaves_all}
use Rattle.lu_ost.proofs.theorems.footprints.Goals as goal

pub returns : goal.returns
returns c = record { others = others_stay; written = new_from_old; forgetting = forget_leaves_all }
