use Rattle.lu_proof_objects.proofs.client_theorems.calls_on_bytes.Goals as goal
use Rattle.lu_proof_objects.proofs.Calls.{looks_at_go, comes_at_go, starts_go, stats_go}

pub returns-clause-looks : goal.returns-clause-looks
returns-clause-looks c = looks_at_go

pub returns-clause-comes : goal.returns-clause-comes
returns-clause-comes c = comes_at_go

pub returns-clause-starts : goal.returns-clause-starts
returns-clause-starts c = starts_go

pub returns-clause-stats : goal.returns-clause-stats
returns-clause-stats c = stats_go
