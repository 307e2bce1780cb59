use Rattle.std.proofs.Common.{◌≤◌, ◌-◌, length}
use Rattle.std.specs.Prelude.{reverse}
use Rattle.lu_spec_laws.specs.Laws.Messages.{Messages}
use Rattle.lu_spec_laws.specs.Holds.{Holds}
use Rattle.lu_judge_pass.specs.Firsts.{before}
use Rattle.lu_judge_pass.specs.Ledgers.{ShowsLedger}
use Rattle.lu_judge_windows.specs.Windows.{ShowsWindows}
use Rattle.lu_judge_windows.proofs.wholes.lost_in.Given as goal

abbrev pub invariant-loop-place : goal.invariant-loop-place
invariant-loop-place l = record {
  messages : Holds Messages (reverse l.lines);
  within : l.place ≤ length l.lines;
  ledger : ShowsLedger l.ledger (before l.lines l.place);
  windows : ShowsWindows l.windows (before l.lines l.place);
}

abbrev pub decreases-loop-place : goal.decreases-loop-place
decreases-loop-place l = length l.lines - l.place
