use Rattle.lu_spec_machine.proofs.Fits.{answers_fit}
use Rattle.lu_spec_machine.proofs.theorems.answering.Goals as goal

pub returns : goal.returns
returns c = record { fits = answers_fit }
