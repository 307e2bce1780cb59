use Rattle.lu_proof_objects.proofs.client_theorems.pins_are_counted.Goals as goal
use Rattle.lu_proof_objects.proofs.Pins.{calls_balanced, locks_balanced, counts_stay, counted_pinned}

pub returns-clause-calls : goal.returns-clause-calls
returns-clause-calls c = calls_balanced

pub returns-clause-locks : goal.returns-clause-locks
returns-clause-locks c = locks_balanced

pub returns-clause-stay : goal.returns-clause-stay
returns-clause-stay c = counts_stay

pub returns-clause-pinned : goal.returns-clause-pinned
returns-clause-pinned c = counted_pinned
