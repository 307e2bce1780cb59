use Rattle.std.proofs.Common.{◌≡◌, ℕ, ◌<◌, ◌≤◌, ◌-◌, ◌+◌, ◌^◌, get_or}
use Rattle.std.specs.Prelude.{◌⊎◌}
use Rattle.lu_layout.specs.Raid0.{position_of}
use Rattle.lu_layout.proofs.layout.Layout.file_size.Given as goal

-- the size that the objects of the stripes so far give
abbrev pub invariant-loop-stripe : goal.invariant-loop-stripe
invariant-loop-stripe l = record {
  covers : (i : ℕ) → i < l.stripe → 0 < get_or l.sizes i 0 → position_of l.self i (get_or l.sizes i 0 - 1) < l.end;
  reached : (l.end ≡ 0) ⊎ ((i : ℕ) × (i < l.stripe) × (0 < get_or l.sizes i 0)
      × (l.end ≡ position_of l.self i (get_or l.sizes i 0 - 1) + 1));
  fits : l.end ≤ 2 ^ 44;
}
