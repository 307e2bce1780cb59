use Rattle.std.proofs.Common.{◌≡◌, ℕ, ◌≤◌, ◌-◌, length, take}
use Rattle.std.specs.Prelude.{◌==◌, ◌&&◌, ◌||◌, not}
use Rattle.std.specs.List.{list_any}
use Rattle.lu_base.specs.declared.ids.Who.{Who}
use Rattle.lu_spec_machine.specs.Tree.{same_life}
use Rattle.lu_judge_recovery.specs.Callbacks.{was_called}
use Rattle.lu_judge_recovery.proofs.callbacks.Called.call_all.Given as goal

abbrev pub invariant-loop-place : goal.invariant-loop-place
invariant-loop-place l = record {
  within : l.place ≤ length l.lives;
  called : (w : Who) (s : ℕ) → was_called l.self w s
      ≡ ((list_any (λ (who : Who). same_life who w) (take l.place l.lives) && not (l.stamp == s)) || was_called l.initial.self w s);
}

abbrev pub decreases-loop-place : goal.decreases-loop-place
decreases-loop-place l = length l.lives - l.place
