use Rattle.lu_spec_machine.proofs.Covered.{locks_cover, above_is_new}
use Rattle.lu_spec_machine.proofs.theorems.coverage.Goals as goal

pub returns : goal.returns
returns c = record { locks = locks_cover; new = above_is_new }
