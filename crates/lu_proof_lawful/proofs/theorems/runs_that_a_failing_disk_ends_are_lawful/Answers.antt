use Rattle.lu_proof_lawful.proofs.Failing.Turns.{lawful_failed, lawful_start}
use Rattle.lu_proof_lawful.proofs.theorems.runs_that_a_failing_disk_ends_are_lawful.Goals as goal

pub returns : goal.returns
returns c = record { failed = lawful_failed; start = lawful_start }
