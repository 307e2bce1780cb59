use Rattle.std.proofs.Common.{◌≡◌, ℕ, Some, take}
use Rattle.std.specs.Prelude.{◌==◌, ◌&&◌, if◌then◌else◌}
use Rattle.lu_spec_laws.specs.Words.Lost.{is_among}
use Rattle.lu_judge_windows.specs.Losses.{lost_turn}
use Rattle.lu_judge_windows.proofs.losses.Losses.lose.Given as goal

abbrev pub invariant-loop-number : goal.invariant-loop-number
invariant-loop-number l = record {
  lost : (t n : ℕ) → lost_turn l.self t n ≡ (if l.target == t && is_among (take l.number-index l.number-items) n then Some l.stamp.0
      else lost_turn l.initial.self t n);
  failed : l.self.failed ≡ l.initial.self.failed;
}
