-- What is under way, as a patch keeps it: the bytes that fly lie in a range, so that an answer looks at that range alone.
use Rattle.std.specs.Prelude.{◌≡◌, ◌<◌, ◌≤◌, ℕ, true, [], ◌∷◌, Option, Some, None}
use Rattle.lu_spec_entries.specs.declared.changes.Dirty.{Dirty}
use Rattle.lu_spec_machine.specs.Places.{Places}
use Rattle.lu_spec_bytes.specs.Maps.{IsMap}
use Rattle.lu_spec_client.specs.Patches.{Flying, CutFlies, BytesFly}
use Rattle.lu_patch.specs.declared.flight.Flight.{Flight}
use Rattle.lu_patch.specs.declared.flight.Flight.TheVariants.{Cut, Bytes}
use Rattle.lu_patch.specs.Sound.{NoneFlies}

abbrev pub flight_of : Option Flight → Option Flying
flight_of None = None
flight_of (Some (Cut n)) = Some (CutFlies n)
flight_of (Some (Bytes first end)) = Some BytesFly

-- each byte that flies lies from the first on and below the end
abbrev pub FlyBetween : ℕ → ℕ → Places Dirty → Type 0
FlyBetween first end [] = Unit {0}
FlyBetween first end (e ∷ m) = (e.1.flies ≡ true → (first ≤ e.0) × (e.0 < end)) × FlyBetween first end m

abbrev pub FlyUnder : Option Flight → Places Dirty → Type 0
FlyUnder None m = NoneFlies m
FlyUnder (Some (Cut n)) m = NoneFlies m
FlyUnder (Some (Bytes first end)) m = FlyBetween first end m

pub record IsKept (flight : Option Flight) (m : Places Dirty) : Type 0 where
  pub map : IsMap m
  pub flies : FlyUnder flight m
