-- The queues stay.
use Rattle.std.proofs.Common.{◌≡◌}
use Rattle.lu_lockspace.proofs.noted.Noted.tidy_all.Given as goal

abbrev pub invariant-loop-stay : goal.invariant-loop-stay
invariant-loop-stay l = l.self ≡ l.initial.self
