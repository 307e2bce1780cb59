use Rattle.std.proofs.Common.{◌≡◌, ◌≤◌, ◌-◌, ◌++◌, length, take, drop}
use Rattle.lu_judge_pass.specs.Places.{turn_of}
use Rattle.lu_judge_pass.proofs.turns.rest_of_turn.Given as goal

abbrev pub invariant-loop-count : goal.invariant-loop-count
invariant-loop-count l = record {
  within : l.count ≤ length l.later;
  passed : turn_of l.at l.later ≡ take l.count l.later ++ turn_of l.at (drop l.count l.later);
}

abbrev pub decreases-loop-count : goal.decreases-loop-count
decreases-loop-count l = length l.later - l.count
