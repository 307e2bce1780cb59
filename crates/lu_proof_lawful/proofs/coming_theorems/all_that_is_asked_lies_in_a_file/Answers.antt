use Rattle.lu_proof_lawful.proofs.Coming.Lines.{all_in_files}
use Rattle.lu_proof_lawful.proofs.coming_theorems.all_that_is_asked_lies_in_a_file.Goals as goal

pub returns : goal.returns
returns c = record { lines = all_in_files }
