use Rattle.std.proofs.Common.{◌≡◌, ℕ, ◌≤◌, ◌-◌, length, take}
use Rattle.std.specs.Prelude.{◌==◌}
use Rattle.std.specs.HashSet.{contains_by}
use Rattle.lu_spec_laws.specs.Words.Lost.{is_among}
use Rattle.lu_judge_recovery.proofs.closing.set_of.Given as goal

abbrev pub invariant-loop-place : goal.invariant-loop-place
invariant-loop-place l = record {
  within : l.place ≤ length l.numbers;
  set : (n : ℕ) → contains_by (λ k. n == k) l.set ≡ is_among (take l.place l.numbers) n;
}

abbrev pub decreases-loop-place : goal.decreases-loop-place
decreases-loop-place l = length l.numbers - l.place
