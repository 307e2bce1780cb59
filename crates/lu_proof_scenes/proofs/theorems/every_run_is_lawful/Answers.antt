use Rattle.lu_proof_scenes.proofs.AnyFailed.{run_failed}
use Rattle.lu_proof_scenes.proofs.AnyRun.{run_covered}
use Rattle.lu_proof_scenes.proofs.AnyLeft.{goes_on}
use Rattle.lu_proof_scenes.proofs.AnyStated.{run_lawful, run_orderly, run_acts_of, run_history_of}
use Rattle.lu_proof_scenes.proofs.theorems.every_run_is_lawful.Goals as goal

pub returns : goal.returns
returns c = record {
  covered = run_covered;
  lawful = run_lawful;
  failed = run_failed;
  orderly = run_orderly;
  acts_of = run_acts_of;
  history_of = run_history_of;
  goes_on = goes_on;
}
