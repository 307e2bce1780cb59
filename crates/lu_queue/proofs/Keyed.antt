-- A map of locks under their own cookies: what is looked up by a cookie, and what is added.
use Rattle.std.proofs.Common.{◌≡◌, ℕ, zero, suc, ◌==◌, ◌||◌, Bool, true, false, cond, Option, Some, None, List, [], ◌∷◌, map, find, All}
use Rattle.std.proofs.Common.{refl, ◌∙◌, ap, arith, is_some}
use Rattle.std.specs.Map.{lookup}
use Rattle.lu_base.specs.declared.ids.Cookie.{Cookie}
use Rattle.lu_queue.specs.declared.locks.Grant.{Grant}
use Rattle.lu_queue.specs.Queues.{has}

abbrev pub Keyed : List (Cookie × Grant) → Type 0
Keyed entries = All (λ entry. entry.0 ≡ entry.1.cookie) entries

-- the test of keys is the test of this cookie
abbrev pub Tests : (Cookie → Bool) → ℕ → Type 0
Tests test cookie = (key : Cookie) → test key ≡ (key.0 == cookie)

head : (entry : Cookie × Grant) (entries : List (Cookie × Grant)) → Keyed (entry ∷ entries) → entry.0 ≡ entry.1.cookie
head entry entries keyed = keyed zero entry (omega arith)

tail : (entry : Cookie × Grant) (entries : List (Cookie × Grant)) → Keyed (entry ∷ entries) → Keyed entries
tail entry entries keyed = λ place d within. keyed (suc place) d (omega arith)

pub find_keyed : (test : Cookie → Bool) (cookie : ℕ) → Tests test cookie → (entries : List (Cookie × Grant)) → Keyed entries →
    lookup test entries ≡ find (λ lock. lock.cookie.0 == cookie) (map (λ entry. entry.1) entries)
find_keyed test cookie same [] keyed = refl
find_keyed test cookie same (entry ∷ entries) keyed =
    let here : test entry.0 ≡ (entry.1.cookie.0 == cookie) = same entry.0
    ∙ ap (λ (key : Cookie). key.0 == cookie) (head entry entries keyed) in
    let rest = find_keyed test cookie same entries (tail entry entries keyed) in
    rw (here, rest) refl

pub found_has : (cookie : ℕ) (locks : List Grant) → is_some (find (λ lock. lock.cookie.0 == cookie) locks) ≡ has cookie locks
found_has cookie [] = refl
found_has cookie (lock ∷ locks) = by (lock.cookie.0 == cookie) (found_has cookie locks) where
  by : (here : Bool) → is_some (find (λ lock. lock.cookie.0 == cookie) locks) ≡ has cookie locks →
      is_some (cond here (Some lock) (find (λ lock. lock.cookie.0 == cookie) locks)) ≡ (here || has cookie locks)
  by true rest = refl
  by false rest = rest

pub none_from_false : {X : Type 0} (found : Option X) → is_some found ≡ false → found ≡ None
none_from_false None h = refl
none_from_false (Some x) h = cc

pub absent_keyed : (test : Cookie → Bool) (cookie : ℕ) → Tests test cookie → (entries : List (Cookie × Grant)) → Keyed entries →
    has cookie (map (λ entry. entry.1) entries) ≡ false → lookup test entries ≡ None
absent_keyed test cookie same entries keyed absent =
    none_from_false _ (ap is_some (find_keyed test cookie same entries keyed) ∙ found_has cookie (map (λ entry. entry.1) entries) ∙ absent)
