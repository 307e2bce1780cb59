use Rattle.lu_proof_bytes.proofs.Objects.Only.{projection}
use Rattle.lu_proof_bytes.proofs.Objects.Laws.{whole_locks, whole_right, whole_puts}
use Rattle.lu_proof_bytes.proofs.objects_theorems.pasts_are_lawful.Goals as goal

pub returns-clause-projection : goal.returns-clause-projection
returns-clause-projection c = projection

pub returns-clause-locks : goal.returns-clause-locks
returns-clause-locks c = whole_locks

pub returns-clause-history : goal.returns-clause-history
returns-clause-history c = whole_right

pub returns-clause-puts : goal.returns-clause-puts
returns-clause-puts c = whole_puts
