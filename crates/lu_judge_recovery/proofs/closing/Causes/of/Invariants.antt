use Rattle.std.proofs.Common.{◌≡◌, ℕ, ◌≤◌, ◌-◌, length, take}
use Rattle.std.specs.Prelude.{if◌then◌else◌, Some, None}
use Rattle.lu_base.specs.declared.ids.Who.{Who}
use Rattle.lu_spec_laws.specs.Words.Pasts.{Past}
use Rattle.lu_spec_laws.specs.Words.Closes.{cause_at}
use Rattle.lu_judge_recovery.specs.Closings.{KnowsClose, AreCauses}
use Rattle.lu_judge_recovery.proofs.closing.Causes.of.Given as goal

abbrev pub invariant-loop-place : goal.invariant-loop-place
invariant-loop-place l = record {
  within : l.place ≤ length l.lives;
  causes : (t : ℕ) (past : Past) → KnowsClose l.close t past → AreCauses (record { by_life = l.by_life }) (take l.place l.lives) t past;
}

abbrev pub decreases-loop-place : goal.decreases-loop-place
decreases-loop-place l = length l.lives - l.place
