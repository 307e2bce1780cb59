-- A life that joins, and the life of its client that leaves for it.
use Rattle.std.specs.Prelude.{◌≡◌, ⊤, List, [], ◌∷◌, Option, Some, None}
use Rattle.lu_base.specs.declared.ids.Who.{Who}
use Rattle.lu_spec_target.specs.Lives.{without_lives}
use Rattle.lu_spec_target.specs.Leaving.{life_of}

-- once these have left, no life of its client is there where one comes; at most one does
abbrev pub IsAlone : (gone come lives : List Who) → Type 0
IsAlone gone [] lives = ⊤
IsAlone gone (who ∷ []) lives = life_of who.client (without_lives gone lives) ≡ None
IsAlone gone (who ∷ other ∷ more) lives = ⊥

-- no life of its client was there; or one was, and this is another
abbrev pub TakesPlace : List Who → Who → List Who → Type 0
TakesPlace [] who lives = life_of who.client lives ≡ None
TakesPlace (old ∷ []) who lives = life_of who.client lives ≡ Some old
TakesPlace (old ∷ other ∷ more) who lives = ⊥
