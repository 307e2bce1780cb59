-- Items under numbers, the newest first: one that comes later has a lesser number.
use Rattle.std.specs.Prelude.{ℕ, ◌≡◌, ◌<◌, if◌then◌else◌, Bool, List, [], ◌∷◌, map, Option, Some, None}

abbrev pub Numbered : Type 0 → Type 0
Numbered X = List (ℕ × X)

module _ {X : Type 0} where
  -- the number of the newest item that passes a test
  abbrev pub first_number : (X → Bool) → Numbered X → Option ℕ
  first_number test [] = None
  first_number test (e ∷ log) = if test e.1 then Some e.0 else first_number test log

  -- a number below all that are there
  abbrev pub IsBefore : ℕ → Numbered X → Type 0
  IsBefore n [] = Unit {0}
  IsBefore n (e ∷ log) = n < e.0

  -- it is the newest, before what was there
  abbrev pub IsAdded : X → Numbered X → Numbered X → Type 0
  IsAdded x old [] = ⊥
  IsAdded x old (e ∷ log) = (e.1 ≡ x) × (log ≡ old)
