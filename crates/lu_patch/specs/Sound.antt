-- What every patch keeps: its bytes stand in rising position, and a byte flies only while bytes are under way.
use Rattle.std.specs.Prelude.{◌≡◌, false, [], ◌∷◌, Option, Some, None}
use Rattle.lu_spec_entries.specs.declared.changes.Dirty.{Dirty}
use Rattle.lu_spec_machine.specs.Places.{Places}
use Rattle.lu_spec_bytes.specs.Maps.{IsMap}
use Rattle.lu_spec_client.specs.Patches.{Patch, Flying, CutFlies, BytesFly}

-- no byte was sent that isn't answered
abbrev pub NoneFlies : Places Dirty → Type 0
NoneFlies [] = Unit {0}
NoneFlies (e ∷ m) = (e.1.flies ≡ false) × NoneFlies m

abbrev pub FliesUnder : Option Flying → Places Dirty → Type 0
FliesUnder (Some BytesFly) m = Unit {0}
FliesUnder (Some (CutFlies n)) m = NoneFlies m
FliesUnder None m = NoneFlies m

pub record IsSound (p : Patch) : Type 0 where
  pub map : IsMap p.dirty
  pub flies : FliesUnder p.flight p.dirty

-- and nothing is under way
abbrev pub IsAtRest : Patch → Type 0
IsAtRest p = (p.flight ≡ None) × IsSound p
