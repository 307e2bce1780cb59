use Rattle.lu_proof_bytes.proofs.Objects.Laws.{whole_free, whole_above, whole_peek}
use Rattle.lu_proof_bytes.proofs.objects_theorems.glimpses.Goals as goal

pub returns-clause-free : goal.returns-clause-free
returns-clause-free c = whole_free

pub returns-clause-above : goal.returns-clause-above
returns-clause-above c = whole_above

pub returns-clause-peek : goal.returns-clause-peek
returns-clause-peek c = whole_peek
