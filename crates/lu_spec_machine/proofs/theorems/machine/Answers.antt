use Rattle.lu_spec_machine.proofs.Transactions.{machine_is_table, passed_is_refused, flushes_stay, pieces_reach}
use Rattle.lu_spec_machine.proofs.theorems.machine.Goals as goal

pub returns : goal.returns
returns c = record { table = machine_is_table; passed = passed_is_refused; flush = flushes_stay; pieces = pieces_reach }
