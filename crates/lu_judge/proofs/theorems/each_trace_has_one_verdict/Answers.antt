use Rattle.lu_judge.proofs.Found.{has_one}
use Rattle.lu_judge.proofs.theorems.each_trace_has_one_verdict.Goals as goal

pub returns : goal.returns
returns c = has_one
