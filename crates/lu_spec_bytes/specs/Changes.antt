-- What a change leaves of what stands at positions: what lies outside a range, what isn't marked, and bytes that become 0.
use Rattle.std.specs.Prelude.{ℕ, not, nat_lt, if◌then◌else◌, Bool, List, filter, map}
use Rattle.lu_base.specs.declared.locks.Extent.{Extent}
use Rattle.lu_spec_machine.specs.Places.{Places, is_in}

-- what doesn't stand in the range
abbrev pub outside : {A : Type 0} → Extent → Places A → Places A
outside {A} extent m = filter (λ (e : ℕ × A). not (is_in extent e.0)) m

-- what isn't marked, where it stands
abbrev pub unmarked : {A : Type 0} → (A → Bool) → Places A → Places A
unmarked {A} marked m = filter (λ (e : ℕ × A). not (marked e.1)) m

-- ---- bytes

abbrev pub Bytes : Type 0
Bytes = Places ℕ

-- from n on each byte that is there is 0
abbrev pub zeroed : ℕ → Bytes → Bytes
zeroed n m = map {A = ℕ × ℕ} {B = ℕ × ℕ} (λ e. (e.0, if nat_lt e.0 n then e.1 else 0)) m
