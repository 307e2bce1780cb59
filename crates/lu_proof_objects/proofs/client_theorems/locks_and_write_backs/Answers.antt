use Rattle.lu_proof_objects.proofs.client_theorems.locks_and_write_backs.Goals as goal
use Rattle.lu_proof_objects.proofs.Walks.{trims_go, locks_go_on, flush_goes, flushing_goes}

pub returns-clause-trims : goal.returns-clause-trims
returns-clause-trims c = trims_go

pub returns-clause-locks : goal.returns-clause-locks
returns-clause-locks c = locks_go_on

pub returns-clause-flush : goal.returns-clause-flush
returns-clause-flush c = flush_goes

pub returns-clause-flushing : goal.returns-clause-flushing
returns-clause-flushing c = flushing_goes
