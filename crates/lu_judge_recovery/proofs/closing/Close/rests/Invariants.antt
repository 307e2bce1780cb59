use Rattle.std.proofs.Common.{◌≡◌, ℕ, ◌≤◌, ◌-◌, false, length, take}
use Rattle.std.specs.Prelude.{◌||◌}
use Rattle.std.specs.List.{list_any}
use Rattle.lu_spec_laws.specs.Words.Pasts.{Past}
use Rattle.lu_spec_laws.specs.Words.Learned.{heard_number, saw}
use Rattle.lu_judge_recovery.specs.Closings.{KnowsClose}
use Rattle.lu_judge_recovery.proofs.closing.Close.rests.Given as goal

abbrev pub invariant-loop-place : goal.invariant-loop-place
invariant-loop-place l = record {
  within : l.place ≤ length l.lost;
  none : (t : ℕ) (past : Past) → KnowsClose l.self t past → list_any (λ n. heard_number t l.who n past || saw t l.who n past)
      (take l.place l.lost) ≡ false;
}

abbrev pub decreases-loop-place : goal.decreases-loop-place
decreases-loop-place l = length l.lost - l.place
