use Rattle.std.proofs.Common.{◌≤◌, length, drop}
use Rattle.lu_judge_recovery.specs.Rest.{ShowsRest}
use Rattle.lu_judge_recovery.proofs.rest.rest_in.Given as goal

abbrev pub invariant-loop-place : goal.invariant-loop-place
invariant-loop-place l = record {
  within : l.place ≤ length l.lines;
  shows : ShowsRest l.rest l.fn.at (drop l.place l.lines);
}

abbrev pub decreases-loop-place : goal.decreases-loop-place
decreases-loop-place l = l.place
