use Rattle.std.proofs.Common.{◌≡◌, ℕ, ◌<◌, get_or}
use Rattle.lu_layout.proofs.layout.has_repeat.Given as goal

-- no two of the targets that were looked at are equal
abbrev pub invariant-loop-i : goal.invariant-loop-i
invariant-loop-i l = (j k : ℕ) → j < k → k < l.i → get_or l.stripes j 0 ≡ get_or l.stripes k 0 → ⊥
