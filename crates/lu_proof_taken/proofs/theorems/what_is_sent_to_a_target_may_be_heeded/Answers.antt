use Rattle.lu_proof_taken.proofs.Heeded.{all_may_be_heeded}
use Rattle.lu_proof_taken.proofs.theorems.what_is_sent_to_a_target_may_be_heeded.Goals as goal

pub returns : goal.returns
returns c = record { heeded = all_may_be_heeded }
