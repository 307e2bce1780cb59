use Rattle.lu_spec_machine.proofs.Removal.{removal_law, removal_agrees, earlier_are_older}
use Rattle.lu_spec_machine.proofs.Seen.{removal_by_seen}
use Rattle.lu_spec_machine.proofs.theorems.removal.Goals as goal

pub returns : goal.returns
returns c = record { answers = removal_law; contents = removal_agrees; earlier = earlier_are_older; seen = removal_by_seen }
