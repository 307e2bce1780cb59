-- The metadata target's locks that a call pins, one after another, and their names.
use Rattle.std.proofs.Common.{◌≡◌, ℕ, ◌+◌, ◌<◌, List, [], ◌∷◌, ◌++◌, length, take, get_or, Bool, true, false, refl, sym, ap, ◌∙◌}
use Rattle.std.specs.Prelude.{map, nat_lt, ◌==◌, if◌then◌else◌}
use Rattle.std.proofs.lemmas.List.{map_more, append_assoc}
use Rattle.lu_base.specs.declared.ids.Cookie.{Cookie}
use Rattle.lu_held.specs.declared.names.LockName.{LockName}
use Rattle.lu_spec_entries.specs.Carried.{Running}
use Rattle.lu_spec_entries.specs.Words.{Entry, Pins}
use Rattle.lu_cache.specs.Tells.{locks_of}
use Rattle.lu_spec_client.specs.Advances.{pinned}
use Rattle.lu_spec_client.specs.Known.{name_of, with_name, names_of}
use Rattle.lu_spec_client.specs.Starts.{pins, with_pins}
use Rattle.lu_client_store.specs.Stored.{StoreState, stored_after, stored_turn}
use Rattle.lu_call.specs.Starting.{names_with}
use Rattle.lu_call.proofs.Going.{stored_more}

-- ---- one more

names_step : (cs : List Cookie) (i : ℕ) (d : Cookie) → i < length cs → names_with (take (i + 1) cs) ≡ names_with (take i cs)
    ++ name_of (get_or cs i d) ∷ []
names_step cs i d below = map_more name_of cs i d below

pub pinned_step : (r now : Running) (cs : List Cookie) (i : ℕ) (d : Cookie) → i < length cs → now ≡ with_pins (names_with (take i cs)) r
    → pinned (name_of (get_or cs i d)) now ≡ with_pins (names_with (take (i + 1) cs)) r
pinned_step r now cs i d below so_far =
    ap (λ (it : Running). pinned (name_of (get_or cs i d)) it) so_far
    ∙ ap (λ (names : List LockName). record r { pins = names })
    (append_assoc r.pins (names_with (take i cs)) (name_of (get_or cs i d) ∷ []))
    ∙ ap (λ (names : List LockName). with_pins names r) (sym (names_step cs i d below))

pins_more : (names more : List LockName) → pins (names ++ more) ≡ pins names ++ pins more
pins_more [] more = refl
pins_more (name ∷ names) more = ap (λ (es : List Entry). Pins name ∷ es) (pins_more names more)

pub stored_step : (s now : StoreState) (cs : List Cookie) (i : ℕ) (d : Cookie) → i < length cs → now
    ≡ stored_turn s (pins (names_with (take i cs))) → stored_after now (Pins (name_of (get_or cs i d)))
    ≡ stored_turn s (pins (names_with (take (i + 1) cs)))
stored_step s now cs i d below so_far =
    ap (λ (it : StoreState). stored_after it (Pins (name_of (get_or cs i d)))) so_far
    ∙ sym (stored_more s (pins (names_with (take i cs))) (Pins (name_of (get_or cs i d)) ∷ []))
    ∙ ap (λ (es : List Entry). stored_turn s es) (sym (pins_more (names_with (take i cs)) (name_of (get_or cs i d) ∷ [])))
    ∙ ap (λ (names : List LockName). stored_turn s (pins names)) (sym (names_step cs i d below))

-- ---- the names again

abbrev cookies_in : List LockName → List Cookie
cookies_in names = map (λ (name : LockName). name.cookie) names

with_again : (c : Cookie) (names : List LockName) → names_with (cookies_in names) ≡ names → names_with (cookies_in (with_name c names))
    ≡ with_name c names
with_again c [] again = refl
with_again c (n ∷ names) again =
    let first : name_of n.cookie ≡ n = cc in
    let rest : names_with (cookies_in names) ≡ names = cc in
    by (nat_lt n.cookie.0 c.0) (n.cookie.0 == c.0) first again (with_again c names rest)
  where
    by : (u v : Bool) → name_of n.cookie ≡ n → name_of n.cookie ∷ names_with (cookies_in names) ≡ n ∷ names
        → names_with (cookies_in (with_name c names)) ≡ with_name c names
        → names_with (cookies_in (if u then n ∷ with_name c names else if v then n ∷ names else name_of c ∷ n ∷ names))
        ≡ (if u then n ∷ with_name c names else if v then n ∷ names else name_of c ∷ n ∷ names)
    by true v first same more = ap (λ (name : LockName). name ∷ names_with (cookies_in (with_name c names))) first
        ∙ ap (λ (them : List LockName). n ∷ them) more
    by false true first same more = same
    by false false first same more = ap (λ (them : List LockName). name_of c ∷ them) same

-- locks are named again by their cookies
pub names_again : (cs : List Cookie) → names_with (locks_of cs) ≡ names_of cs
names_again [] = refl
names_again (c ∷ cs) = with_again c (names_of cs) (names_again cs)
