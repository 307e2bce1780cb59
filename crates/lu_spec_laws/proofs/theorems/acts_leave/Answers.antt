use Rattle.lu_spec_laws.proofs.Leaves.{acts_leave}
use Rattle.lu_spec_laws.proofs.theorems.acts_leave.Goals as goal

pub returns : goal.returns
returns c = acts_leave
