use Rattle.std.proofs.Common.{◌≡◌, ℕ, List, false, take}
use Rattle.std.specs.List.{list_any}
use Rattle.lu_spec_laws.specs.Words.Lost.{is_among}
use Rattle.lu_judge_windows.specs.Fates.{IsFate}
use Rattle.lu_judge_windows.proofs.fates.Fate.has_any.Given as goal

abbrev pub invariant-loop-number : goal.invariant-loop-number
invariant-loop-number l = (lost : List ℕ) → IsFate l.self lost → list_any (is_among lost) (take l.number-index l.number-items) ≡ false
