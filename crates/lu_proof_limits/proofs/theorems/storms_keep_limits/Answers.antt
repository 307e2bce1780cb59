use Rattle.lu_proof_limits.proofs.Storms.{keeps_limits}
use Rattle.lu_proof_limits.proofs.theorems.storms_keep_limits.Goals as goal

pub returns : goal.returns
returns c = record { limits = keeps_limits }
