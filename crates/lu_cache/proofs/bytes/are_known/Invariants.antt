-- All so far are known.
use Rattle.std.proofs.Common.{ℕ, ◌+◌, ◌<◌}
use Rattle.std.specs.Prelude.{IsSome}
use Rattle.lu_spec_machine.specs.Places.{found_at}
use Rattle.lu_cache.proofs.bytes.are_known.Given as goal

abbrev pub invariant-loop-k : goal.invariant-loop-k
invariant-loop-k l = (j : ℕ) → j < l.k → IsSome (found_at l.places (l.at + j))
