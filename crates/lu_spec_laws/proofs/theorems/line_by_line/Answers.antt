use Rattle.lu_spec_laws.proofs.SoFar.{so_far_is_whole}
use Rattle.lu_spec_laws.proofs.theorems.line_by_line.Goals as goal

pub returns : goal.returns
returns c = record { acts = so_far_is_whole }
