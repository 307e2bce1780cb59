use Rattle.std.proofs.Common.{◌≡◌, ◌≤◌, ◌-◌, length, drop}
use Rattle.lu_spec_laws.specs.Words.Later.{told_later}
use Rattle.lu_judge_pass.specs.Places.{InOrder}
use Rattle.lu_judge_acts.proofs.answers.told_later.Given as goal

abbrev pub invariant-loop-place : goal.invariant-loop-place
invariant-loop-place l = record {
  within : l.place ≤ length l.later;
  order : InOrder l.at l.later → InOrder l.at (drop l.place l.later);
  passed : told_later l.slot l.at l.later ≡ told_later l.slot l.at (drop l.place l.later);
}

abbrev pub decreases-loop-place : goal.decreases-loop-place
decreases-loop-place l = length l.later - l.place
