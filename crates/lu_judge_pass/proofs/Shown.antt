-- What a line makes of a table is what it makes of the notion that the table shows.
use Rattle.std.proofs.Common.{◌≡◌, refl}
use Rattle.std.specs.Prelude.{Bool, true, false, ◌||◌, if◌then◌else◌, Option, Some, None}
use Rattle.std.specs.Option.{option_map}

-- a value is put at a key
pub put : {A B : Type 0} (now : A → B) (here : Bool) (x : A) (old new : Option A) (notion : Option B) → new ≡ (if here then Some x else old)
    → option_map now old ≡ notion
    → option_map now new ≡ (if here then Some (now x) else notion)
put now true x old new notion is shows = rw is refl
put now false x old new notion is shows = rw is shows

-- a value is taken away at a key
pub taken : {A B : Type 0} (now : A → B) (here : Bool) (old new : Option A) (notion : Option B) → new ≡ (if here then None else old)
    → option_map now old ≡ notion
    → option_map now new ≡ (if here then None else notion)
taken now true old new notion is shows = rw is refl
taken now false old new notion is shows = rw is shows

-- a key is added to a set
pub add : (here old new notion : Bool) → new ≡ (if here then true else old) → old ≡ notion → new ≡ (here || notion)
add true old new notion is shows = is
add false old new notion is shows = rw is shows
