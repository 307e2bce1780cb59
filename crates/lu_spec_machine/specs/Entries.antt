-- Lists of entries under keys. A key is told by a test that it passes.
use Rattle.std.specs.Prelude.{Bool, not, List, [], ◌∷◌, if◌then◌else◌}
use Rattle.std.specs.declared.cmp.Ordering.{Ordering}
use Rattle.std.specs.List.{filter}
use Rattle.std.specs.Ordering.{is_lt}

module _ {K A : Type 0} where
  -- the entries whose keys don't pass
  abbrev pub without : (K → Bool) → List (K × A) → List (K × A)
  without test entries = filter (λ e. not (test e.0)) entries

  -- in order of the keys: the new entry stands before the first whose key is greater
  abbrev pub place : (K → K → Ordering) → K → A → List (K × A) → List (K × A)
  place cmp key a [] = (key, a) ∷ []
  place cmp key a (e ∷ es) = if is_lt (cmp key e.0) then (key, a) ∷ e ∷ es else e ∷ place cmp key a es
