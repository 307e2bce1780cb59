use Rattle.std.proofs.Common.{◌≤◌, ◌-◌, length}
use Rattle.lu_spec_laws.specs.Words.Pasts.{Past}
use Rattle.lu_judge_pass.specs.Firsts.{before}
use Rattle.lu_judge_windows.specs.Lost.{ShowsLost}
use Rattle.lu_judge_acts.specs.Tables.{ShowsStanding}
use Rattle.lu_judge_acts.proofs.standing.standing_in.Given as goal

abbrev pub invariant-loop-place : goal.invariant-loop-place
invariant-loop-place l = record {
  within : l.place ≤ length l.lines;
  shows : (whole : Past) → ShowsLost l.lost whole → ShowsStanding l.standing whole (before l.lines l.place);
}

abbrev pub decreases-loop-place : goal.decreases-loop-place
decreases-loop-place l = length l.lines - l.place
