use Rattle.std.proofs.Common.{◌≤◌, ◌-◌, length}
use Rattle.lu_judge_pass.specs.Firsts.{before}
use Rattle.lu_judge_pass.specs.Ledgers.{ShowsGone}
use Rattle.lu_judge_pass.proofs.evictions.gone_in.Given as goal

abbrev pub invariant-loop-place : goal.invariant-loop-place
invariant-loop-place l = record {
  within : l.place ≤ length l.lines;
  shows : ShowsGone l.gone (before l.lines l.place);
}

abbrev pub decreases-loop-place : goal.decreases-loop-place
decreases-loop-place l = length l.lines - l.place
