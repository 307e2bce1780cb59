-- The bytes so far have such an origin.
use Rattle.std.proofs.Common.{◌≡◌, ◌+◌, ◌-◌, ◌≤◌, length, drop}
use Rattle.lu_judge_calls.specs.PieceTables.{have_sources}
use Rattle.lu_judge_calls.proofs.origins.Done.have_sources.Given as goal

abbrev pub invariant-loop-count : goal.invariant-loop-count
invariant-loop-count l = record {
  within : l.count ≤ length l.bytes;
  rest : have_sources l.self l.of l.offset l.bytes ≡ have_sources l.self l.of (l.offset + l.count) (drop l.count l.bytes);
}

abbrev pub decreases-loop-count : goal.decreases-loop-count
decreases-loop-count l = length l.bytes - l.count
