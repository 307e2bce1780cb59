use Rattle.std.proofs.Common.{◌≡◌, ◌≤◌, ◌-◌, length, drop}
use Rattle.lu_spec_laws.specs.Laws.Silent.{is_told_silently}
use Rattle.lu_judge_pass.specs.Places.{turn_of}
use Rattle.lu_judge_silent.proofs.silent.is_told_silently.Given as goal

abbrev pub invariant-loop-place : goal.invariant-loop-place
invariant-loop-place l = record {
  within : l.place ≤ length l.later;
  rest : is_told_silently l.slot l.at (turn_of l.at l.later) ≡ is_told_silently l.slot l.at (turn_of l.at (drop l.place l.later));
}

abbrev pub decreases-loop-place : goal.decreases-loop-place
decreases-loop-place l = length l.later - l.place
