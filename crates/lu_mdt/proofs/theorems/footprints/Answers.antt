-- The laws stand proved over trees.
use Rattle.lu_mdt.proofs.Footprints.{others_stay, new_from_old, forget_drops_opens}
use Rattle.lu_mdt.proofs.theorems.footprints.Goals as goal

pub returns : goal.returns
returns c = record { others = others_stay; written = new_from_old; forgetting = forget_drops_opens }
