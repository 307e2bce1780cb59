use Rattle.lu_proof_lawful.proofs.Laws.OrderlyWhole.{orderly}
use Rattle.lu_proof_lawful.proofs.theorems.covered_runs_are_orderly.Goals as goal

pub returns : goal.returns
returns c = record { orderly = orderly }
