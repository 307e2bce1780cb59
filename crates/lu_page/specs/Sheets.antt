-- What a contract sees of a page: the position from which it starts, and what stands in its 4,096 positions.
use Rattle.std.specs.Prelude.{ℕ, ◌+◌, List, [], ◌∷◌, Option}
use Rattle.lu_spec_machine.specs.Places.{Places, RisingFrom}
use Rattle.lu_spec_bytes.specs.Maps.{AllBelow}
use Rattle.lu_page.specs.Edits.{with_item}

pub record Sheet (A : Type 0) : Type 0 where
  pub first : ℕ
  pub here : Places A

-- nothing stands beside it
pub record IsSheet {A : Type 0} (s : Sheet A) : Type 0 where
  pub rising : RisingFrom s.first s.here
  pub below : AllBelow (s.first + 4096) s.here

-- what slots show, the first at p
abbrev pub shown : {A : Type 0} → ℕ → List (Option A) → Places A
shown p [] = []
shown p (o ∷ slots) = with_item p o (shown (p + 1) slots)
