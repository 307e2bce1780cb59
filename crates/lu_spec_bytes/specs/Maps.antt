-- What holds of every map from position to item: the positions rise, and are far below the end of the numbers.
use Rattle.std.specs.Prelude.{ℕ, ◌<◌, ◌^◌, List, [], ◌∷◌}
use Rattle.lu_spec_machine.specs.Places.{Places, RisingFrom}

abbrev pub AllBelow : {A : Type 0} → ℕ → Places A → Type 0
AllBelow k [] = Unit {0}
AllBelow k (e ∷ m) = (e.0 < k) × AllBelow k m

pub record IsMap {A : Type 0} (m : Places A) : Type 0 where
  pub rising : RisingFrom 0 m
  pub below : AllBelow (2 ^ 62) m
