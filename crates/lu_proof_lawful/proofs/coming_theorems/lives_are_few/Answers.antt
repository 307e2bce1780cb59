use Rattle.lu_proof_lawful.proofs.Coming.Lives.{lives_are_few}
use Rattle.lu_proof_lawful.proofs.coming_theorems.lives_are_few.Goals as goal

pub returns : goal.returns
returns c = record { few = lives_are_few }
