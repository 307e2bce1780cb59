-- How the code keeps what is outstanding: by cookie, and under each cookie what was asked of its lock.
use Rattle.std.specs.Prelude.{◌≡◌, ℕ, ◌+◌, ◌≤◌, ◌==◌, ⊤, if◌then◌else◌, Bool, false, length, List, [], ◌∷◌, ◌++◌, All}
use Rattle.std.specs.List.{flat_map}
use Rattle.std.specs.Option.{option_map_or}
use Rattle.std.specs.Ordering.{nat_cmp, is_eq}
use Rattle.std.specs.Map.{values_of, lookup}
use Rattle.lu_base.specs.declared.ids.Cookie.{Cookie}
use Rattle.lu_callback.specs.declared.callbacks.Asked.{Asked}
use Rattle.lu_callback.specs.declared.callbacks.Kind.{Kind}
use Rattle.lu_callback.specs.Callbacks.{is_block, same_kind, IsSound}

-- It is of this kind.
abbrev pub of_kind : Kind → Asked → Bool
of_kind kind asked = same_kind asked.kind kind

-- What was asked of one lock, once this is asked too.
abbrev pub put_in : Asked → List Asked → List Asked
put_in asked list = if is_block asked.kind then asked ∷ list else list ++ asked ∷ []

-- All that is kept.
abbrev pub all_asked : List (Cookie × List Asked) → List Asked
all_asked entries = flat_map (λ asked. asked) (values_of entries)

-- A cookie as a key is this one.
abbrev pub at : Cookie → Cookie → Bool
at cookie key = is_eq (nat_cmp cookie.0 key.0)

-- The cookie is there, and nothing under it.
abbrev pub is_idle : Cookie → List (Cookie × List Asked) → Bool
is_idle cookie entries = option_map_or (λ asked. length asked == 0) (lookup (at cookie) entries) false

-- The cookies rise from this number on, and under each stands what was asked of its lock.
abbrev pub IsFiled : ℕ → List (Cookie × List Asked) → Type 0
IsFiled from [] = ⊤
IsFiled from (entry ∷ entries) =
    (from ≤ entry.0.0) × All (λ asked. asked.cookie.0 ≡ entry.0.0) entry.1 × IsFiled (entry.0.0 + 1) entries

-- What holds of all that is kept.
pub record IsHeld (entries : List (Cookie × List Asked)) : Type 0 where
  pub filed : IsFiled 0 entries
  pub sound : IsSound (all_asked entries)
