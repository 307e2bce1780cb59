use Rattle.lu_spec_machine.proofs.Paths.{lookups_tell, paths_follow}
use Rattle.lu_spec_machine.proofs.theorems.paths.Goals as goal

pub returns : goal.returns
returns c = record { lookup = lookups_tell; done = paths_follow }
