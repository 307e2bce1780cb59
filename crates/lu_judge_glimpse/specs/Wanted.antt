-- Sizes that must be those of objects when the turn ends.
use Rattle.std.specs.Prelude.{◌≡◌, ℕ, suc, ◌<◌, Bool, true, false, not, nat_le, ◌==◌, ◌&&◌, ◌||◌, if◌then◌else◌, Option, Some, None, List}
use Rattle.std.specs.Prelude.{[], ◌∷◌}
use Rattle.lu_base.specs.declared.ids.Fid.{Fid}
use Rattle.lu_spec_machine.specs.Machine.{Machine}
use Rattle.lu_spec_laws.specs.Words.Glimpses.{has_size}
use Rattle.lu_judge_glimpse.specs.declared.wanted.Wanted.{Wanted}

-- the object has this size
abbrev pub meets : Machine → Wanted → Bool
meets m w = has_size w.file w.stripe w.size m

-- of sizes that the line of a place tells, from that of a stripe on, those that aren't known
abbrev pub wanted_of : (ℕ → ℕ → Bool) → ℕ → Option Fid → ℕ → List ℕ → List Wanted
wanted_of known place file stripe [] = []
wanted_of known place file stripe (n ∷ ns) =
    if known stripe n
    then wanted_of known place file (suc stripe) ns
    else record { place = place; file = file; stripe = stripe; size = n } ∷ wanted_of known place file (suc stripe) ns

-- of these, what the line of that place told is met
abbrev pub clears : (Wanted → Bool) → ℕ → List Wanted → Bool
clears met place [] = true
clears met place (w ∷ ws) = (not (w.place == place) || met w) && clears met place ws

abbrev pub lesser : Option ℕ → ℕ → Option ℕ
lesser None place = Some place
lesser (Some other) place = if nat_le other place then Some other else Some place

-- the first place of which something isn't met
abbrev pub IsLeast : (Wanted → Bool) → List Wanted → Option ℕ → Type 0
IsLeast met ws None = (place : ℕ) → clears met place ws ≡ true
IsLeast met ws (Some first) =
    (clears met first ws ≡ false) × ((place : ℕ) → place < first → clears met place ws ≡ true)
