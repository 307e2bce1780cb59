-- What stands at places, as a finite map: pairs in rising place, so that one map has one list. What is said of it is said
-- at one place, by `found_at`; the list is there to be walked and counted.
use Rattle.std.specs.Prelude.{ℕ, ◌≤◌, ◌+◌, max, nat_eq, nat_lt, nat_le, ◌&&◌, Bool, List, [], ◌∷◌, ◌++◌, length, filter, Option}
use Rattle.std.specs.Map.{lookup}
use Rattle.lu_base.specs.declared.locks.Extent.{Extent}

abbrev pub Places : Type 0 → Type 0
Places A = List (ℕ × A)

module _ {A : Type 0} where
  abbrev pub found_at : Places A → ℕ → Option A
  found_at m p = lookup (nat_eq p) m

  -- the places rise, from n on
  abbrev pub RisingFrom : ℕ → Places A → Type 0
  RisingFrom n [] = Unit {0}
  RisingFrom n (e ∷ m) = (n ≤ e.0) × RisingFrom (e.0 + 1) m

  -- what stands below n, and from n on
  abbrev pub below : ℕ → Places A → Places A
  below n m = filter (λ (e : ℕ × A). nat_lt e.0 n) m

  abbrev pub from : ℕ → Places A → Places A
  from n m = filter (λ (e : ℕ × A). nat_le n e.0) m

  -- these from a place on
  abbrev pub placed : ℕ → List A → Places A
  placed at [] = []
  placed at (x ∷ xs) = (at, x) ∷ placed (at + 1) xs

  -- the map once they were put there
  abbrev pub laid : ℕ → List A → Places A → Places A
  laid at xs m = below at m ++ (placed at xs ++ from (at + length xs) m)

  -- one past the last place, or 0
  abbrev pub end_of : Places A → ℕ
  end_of [] = 0
  end_of (e ∷ m) = max (e.0 + 1) (end_of m)

-- the places of an extent
abbrev pub is_in : Extent → ℕ → Bool
is_in extent p = nat_le extent.first p && nat_le p extent.last

-- what stands there
abbrev pub inside : {A : Type 0} → Extent → Places A → Places A
inside {A} extent m = filter (λ (e : ℕ × A). is_in extent e.0) m
