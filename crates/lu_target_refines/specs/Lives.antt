-- Lives in their order, each once: by client and then by life.
use Rattle.std.specs.Prelude.{◌≡◌, ⊤, ◌==◌, true, false, List, [], ◌∷◌}
use Rattle.lu_base.specs.declared.ids.Who.{Who}
use Rattle.lu_spec_target.specs.Lives.{life_before}

abbrev pub IsAhead : Who → List Who → Type 0
IsAhead who [] = ⊤
IsAhead who (w ∷ lives) = (life_before who w ≡ true) × IsAhead who lives

abbrev pub InOrder : List Who → Type 0
InOrder [] = ⊤
InOrder (w ∷ lives) = IsAhead w lives × InOrder lives

-- each client has one life
abbrev pub AreOthers : Who → List Who → Type 0
AreOthers who [] = ⊤
AreOthers who (w ∷ lives) = ((w.client == who.client) ≡ false) × AreOthers who lives

abbrev pub OfClients : List Who → Type 0
OfClients [] = ⊤
OfClients (w ∷ lives) = AreOthers w lives × OfClients lives
