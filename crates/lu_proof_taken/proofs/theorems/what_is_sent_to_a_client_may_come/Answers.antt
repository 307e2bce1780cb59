use Rattle.lu_proof_taken.proofs.Stated.{all_may_come}
use Rattle.lu_proof_taken.proofs.theorems.what_is_sent_to_a_client_may_come.Goals as goal

pub returns : goal.returns
returns c = record { comes = all_may_come }
