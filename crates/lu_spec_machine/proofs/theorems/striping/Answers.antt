use Rattle.lu_spec_machine.proofs.Layouts.{new_layouts}
use Rattle.lu_spec_machine.proofs.theorems.striping.Goals as goal

pub returns : goal.returns
returns c = new_layouts
