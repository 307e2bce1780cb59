use Rattle.lu_core.proofs.Stated.{all_foreseen}
use Rattle.lu_core.proofs.theorems.quiet_scenes_are_foreseen.Goals as goal

pub returns : goal.returns
returns c = record { foreseen = all_foreseen }
