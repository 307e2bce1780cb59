use Rattle.std.proofs.Common.{◌≡◌, ◌≤◌, ◌++◌, length, take}
use Rattle.std.specs.Prelude.{filter, reverse}
use Rattle.lu_spec_laws.specs.Words.Pasts.{Past}
use Rattle.lu_spec_laws.specs.Words.Slots.{has_slot}
use Rattle.lu_judge_pass.specs.Ledgers.{ShowsLedger}
use Rattle.lu_judge_windows.specs.Windows.{ShowsWindows}
use Rattle.lu_judge_recovery.proofs.slots.add_joined.Given as goal

abbrev pub invariant-loop-place : goal.invariant-loop-place
invariant-loop-place l = record {
  within : l.place ≤ length l.joined;
  lives : (past : Past) → ShowsLedger l.ledger past → ShowsWindows l.windows past
      → l.lives ++ filter (has_slot l.target past) (reverse (take l.place l.joined)) ≡ l.initial.lives
      ++ filter (has_slot l.target past) (reverse l.joined);
}

abbrev pub decreases-loop-place : goal.decreases-loop-place
decreases-loop-place l = l.place
