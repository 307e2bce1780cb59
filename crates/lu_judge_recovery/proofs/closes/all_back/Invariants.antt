use Rattle.std.proofs.Common.{◌≡◌, ◌≤◌, ◌-◌, true, length, take}
use Rattle.std.specs.Prelude.{◌||◌}
use Rattle.lu_base.specs.declared.ids.Who.{Who}
use Rattle.lu_spec_machine.specs.Footprint.{Every}
use Rattle.lu_spec_laws.specs.Words.Pasts.{Past}
use Rattle.lu_spec_laws.specs.Words.Handed.{is_back, has_newer}
use Rattle.lu_judge_pass.specs.Ledgers.{ShowsLedger}
use Rattle.lu_judge_windows.specs.Windows.{ShowsWindows}
use Rattle.lu_judge_recovery.proofs.closes.all_back.Given as goal

abbrev pub invariant-loop-place : goal.invariant-loop-place
invariant-loop-place l = record {
  within : l.place ≤ length l.lives;
  back : (past : Past) → ShowsLedger l.ledger past → ShowsWindows l.windows past
      → Every (λ (who : Who). (is_back l.target past who || has_newer l.target past who) ≡ true) (take l.place l.lives);
}

abbrev pub decreases-loop-place : goal.decreases-loop-place
decreases-loop-place l = length l.lives - l.place
