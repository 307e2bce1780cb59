use Rattle.lu_proof_taken.proofs.Stated.{all_may_be_kept, all_may_be_restored}
use Rattle.lu_proof_taken.proofs.theorems.what_is_sent_again_may_be_kept.Goals as goal

pub returns : goal.returns
returns c = record { kept = all_may_be_kept; restored = all_may_be_restored }
