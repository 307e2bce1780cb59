-- The three clauses of `glimpses`, each by its lemma.
use Rattle.lu_proof_bytes.proofs.Object.Glimpse.{glimpse_free, glimpse_above, glimpse_peek}
use Rattle.lu_proof_bytes.proofs.object_theorems.glimpses.Goals as goal

pub returns-clause-free : goal.returns-clause-free
returns-clause-free c = glimpse_free

pub returns-clause-above : goal.returns-clause-above
returns-clause-above c = glimpse_above

pub returns-clause-peek : goal.returns-clause-peek
returns-clause-peek c = glimpse_peek
