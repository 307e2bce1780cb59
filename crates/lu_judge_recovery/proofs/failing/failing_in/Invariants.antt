use Rattle.std.proofs.Common.{◌≤◌, ◌-◌, length}
use Rattle.lu_judge_pass.specs.Firsts.{before}
use Rattle.lu_judge_recovery.specs.Failing.{ShowsFailing}
use Rattle.lu_judge_recovery.proofs.failing.failing_in.Given as goal

abbrev pub invariant-loop-place : goal.invariant-loop-place
invariant-loop-place l = record {
  within : l.place ≤ length l.lines;
  shows : ShowsFailing l.failing (before l.lines l.place);
}

abbrev pub decreases-loop-place : goal.decreases-loop-place
decreases-loop-place l = length l.lines - l.place
