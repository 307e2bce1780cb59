use Rattle.lu_proof_limits.proofs.Read.{keeps_limits}
use Rattle.lu_proof_limits.proofs.theorems.read_scenes_keep_limits.Goals as goal

pub returns : goal.returns
returns c = record { limits = keeps_limits }
