-- How a patch's dirty bytes are counted. This is the code's own, and no part of what a caller sees.
use Rattle.std.specs.Prelude.{◌≡◌, ℕ, nat_le, nat_lt, ◌&&◌, length, filter}
use Rattle.lu_spec_entries.specs.declared.changes.Dirty.{Dirty}
use Rattle.lu_spec_machine.specs.Places.{Places}
use Rattle.lu_spec_bytes.specs.Maps.{IsMap}

-- what stands from the first on and below the end
abbrev pub between : {A : Type 0} → ℕ → ℕ → Places A → Places A
between {A} first end m = filter (λ (e : ℕ × A). nat_le first e.0 && nat_lt e.0 end) m

-- they are so many, and a map
pub record IsCounted (count : ℕ) (m : Places Dirty) : Type 0 where
  pub map : IsMap m
  pub all : count ≡ length m
