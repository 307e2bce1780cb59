use Rattle.lu_spec_machine.proofs.Stated.{touched_decide, others_stay, made_has_number, new_from_old}
use Rattle.lu_spec_machine.proofs.Numbers.{number_is_free}
use Rattle.lu_spec_machine.proofs.theorems.footprints.Goals as goal

pub returns : goal.returns
returns c = record { touched = touched_decide; others = others_stay; made = made_has_number; written = new_from_old; free = number_is_free }
