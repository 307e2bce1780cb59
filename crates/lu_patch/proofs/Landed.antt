-- What flies goes with the marked bytes of the range in which all of it lies.
use Rattle.std.proofs.Common.{◌≡◌, ℕ, ◌-◌, ◌<◌, ◌≤◌, Bool, true, false, cond, [], ◌∷◌, refl, ap, ◌∙◌, arith}
use Rattle.std.specs.Prelude.{not, ◌&&◌, filter}
use Rattle.lu_base.specs.declared.locks.Extent.{Extent}
use Rattle.lu_spec_entries.specs.declared.changes.Dirty.{Dirty}
use Rattle.lu_spec_machine.specs.Places.{Places, is_in}
use Rattle.lu_spec_machine.proofs.Places.{in_whole}
use Rattle.lu_spec_client.specs.Patches.{landed}
use Rattle.lu_patch.specs.Flights.{FlyBetween}

abbrev pub landed_in : Extent → Places Dirty → Places Dirty
landed_in extent m = filter (λ (e : ℕ × Dirty). not (is_in extent e.0 && e.1.flies)) m

lands : (extent : Extent) (end : ℕ) (m : Places Dirty) → ((p : ℕ) → p < end → p ≤ extent.last) → FlyBetween extent.first end m
    → landed_in extent m ≡ landed m
lands extent end [] within h = refl
lands extent end (e ∷ m) within h = by (is_in extent e.0) e.1.flies refl refl (lands extent end m within h.1)
  where
    by : (u v : Bool) → is_in extent e.0 ≡ u → e.1.flies ≡ v → landed_in extent m ≡ landed m
        → cond (not (u && v)) (e ∷ landed_in extent m) (landed_in extent m) ≡ cond (not v) (e ∷ landed m) (landed m)
    by true true here flies rest = rest
    by true false here flies rest = ap (λ r. e ∷ r) rest
    by false false here flies rest = ap (λ r. e ∷ r) rest
    by false true here flies rest = let between = h.0 flies in absurd (cc (here, in_whole extent e.0 between.0 (within e.0 between.1)))

-- the range's last position is the one before its end
pub lands_before : (first end last : ℕ) (m new : Places Dirty) → last ≡ end - 1 → FlyBetween first end m → new
    ≡ landed_in (record { first = first; last = last }) m → new ≡ landed m
lands_before first end last m new is fly made = made ∙ lands (record { first = first; last = last }) end m
    (λ p less. omega (arith, is, less)) fly
