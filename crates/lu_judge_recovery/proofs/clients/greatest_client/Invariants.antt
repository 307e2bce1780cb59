use Rattle.std.proofs.Common.{◌≡◌, ◌≤◌, ◌-◌, length}
use Rattle.lu_spec_laws.specs.Words.Clients.{clients}
use Rattle.lu_judge_pass.specs.Firsts.{before}
use Rattle.lu_judge_recovery.specs.Clients.{count_of}
use Rattle.lu_judge_recovery.proofs.clients.greatest_client.Given as goal

abbrev pub invariant-loop-place : goal.invariant-loop-place
invariant-loop-place l = record {
  within : l.place ≤ length l.lines;
  count : count_of l.known ≡ clients (before l.lines l.place);
}

abbrev pub decreases-loop-place : goal.decreases-loop-place
decreases-loop-place l = length l.lines - l.place
