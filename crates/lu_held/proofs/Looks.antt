-- The locks that are looked for, as they are found by their names in order.
use Rattle.std.proofs.Common.{◌≡◌, ℕ, Bool, true, false, cond, List, [], ◌∷◌, filter, map, find, Option, Some, None, refl, ap, subst, sym}
use Rattle.std.proofs.Common.{◌∙◌, arith}
use Rattle.std.specs.Prelude.{All, AllPairs, slice_get, option_map}
use Rattle.std.specs.Option.{option_map_or}
use Rattle.std.specs.Map.{values_of, lookup}
use Rattle.std.specs.List.{filter_map}
use Rattle.std.proofs.lemmas.List.Elements.{All-cons, All-filter}
use Rattle.std.proofs.lemmas.Option.{slice_get-map, slice_get_within, get_or_from_slice_get}
use Rattle.lu_held.specs.declared.names.LockName.{LockName}
use Rattle.lu_held.specs.declared.locks.HeldLock.{HeldLock}
use Rattle.lu_held.specs.declared.locks.Wanted.{Wanted}
use Rattle.lu_held.specs.Names.{same_name, is_before, with_name, sorted}
use Rattle.lu_held.specs.Locks.{name_of, is_named, matches}
use Rattle.lu_held.specs.Held.{put_in, in_order, those}
use Rattle.lu_held.specs.Kept.{IsKept, is_asked, asked, where_it_is}
use Rattle.lu_held.proofs.Lists.{some_is, rest_all, rest_pairs, first_pairs}
use Rattle.lu_held.proofs.NameLaws.{same_self, same_turned}
use Rattle.lu_held.proofs.Entries.{keys_values, lookup_find}

abbrev pub Once : List HeldLock → Type 0
Once locks = AllPairs (λ one other. is_named (name_of one) other ≡ false) locks

-- the lock of this name is one of those that are looked for
abbrev pub asks : Wanted → List HeldLock → LockName → Bool
asks wanted locks name = option_map_or (matches wanted) (find (is_named name) locks) false

-- each lock is found under its name
abbrev pub IsFound : List HeldLock → HeldLock → Type 0
IsFound locks held = find (is_named (name_of held)) locks ≡ Some held

found_behind : (first : HeldLock) (locks some : List HeldLock) → All (λ other. is_named (name_of first) other ≡ false) some
    → All (IsFound locks) some → All (IsFound (first ∷ locks)) some
found_behind first locks [] apart found = λ k d within. absurd (omega arith)
found_behind first locks (held ∷ some) apart found =
    let off : is_named (name_of held) first ≡ false = same_turned (name_of first) (name_of held) (apart 0 held (omega arith)) in
    All-cons (IsFound (first ∷ locks)) held some (rw off (found 0 held (omega arith)))
    (found_behind first locks some (rest_all (λ other. is_named (name_of first) other ≡ false) held some apart)
    (rest_all (IsFound locks) held some found))

pub all_found : (locks : List HeldLock) → Once locks → All (IsFound locks) locks
all_found [] once = λ k d within. absurd (omega arith)
all_found (first ∷ locks) once =
    let here : is_named (name_of first) first ≡ true = same_self (name_of first) in
    All-cons (IsFound (first ∷ locks)) first locks (rw here refl)
    (found_behind first locks locks (first_pairs (λ one other. is_named (name_of one) other ≡ false) first locks once)
    (all_found locks (rest_pairs (λ one other. is_named (name_of one) other ≡ false) first locks once)))

-- the locks in order are the same locks
pub all_put : (P : HeldLock → Type 0) (held : HeldLock) (locks : List HeldLock) → P held → All P locks → All P (put_in held locks)
all_put P held [] here all = All-cons P held [] here all
all_put P held (first ∷ locks) here all = by (is_before (name_of first) (name_of held))
    (all_put P held locks here (rest_all P first locks all)) where
      by : (before : Bool) → All P (put_in held locks) → All P (cond before (first ∷ put_in held locks) (held ∷ first ∷ locks))
      by true rest = All-cons P first (put_in held locks) (all 0 first (omega arith)) rest
      by false rest = All-cons P held (first ∷ locks) here all

pub all_in_order : (P : HeldLock → Type 0) (locks : List HeldLock) → All P locks → All P (in_order locks)
all_in_order P [] all = all
all_in_order P (held ∷ locks) all = all_put P held (in_order locks) (all 0 held (omega arith))
    (all_in_order P locks (rest_all P held locks all))

names_put : (held : HeldLock) (locks : List HeldLock) → map name_of (put_in held locks) ≡ with_name (name_of held) (map name_of locks)
names_put held [] = refl
names_put held (first ∷ locks) = by (is_before (name_of first) (name_of held)) (names_put held locks) where
  by : (before : Bool) → map name_of (put_in held locks) ≡ with_name (name_of held) (map name_of locks)
      → map name_of (cond before (first ∷ put_in held locks) (held ∷ first ∷ locks))
      ≡ cond before (name_of first ∷ with_name (name_of held) (map name_of locks)) (name_of held ∷ name_of first ∷ map name_of locks)
  by true rest = ap (λ more. name_of first ∷ more) rest
  by false rest = refl

pub names_in_order : (locks : List HeldLock) → map name_of (in_order locks) ≡ sorted (map name_of locks)
names_in_order [] = refl
names_in_order (held ∷ locks) = names_put held (in_order locks) ∙ ap (with_name (name_of held)) (names_in_order locks)

pub filter_names : (wanted : Wanted) (locks some : List HeldLock) → All (IsFound locks) some → filter (asks wanted locks) (map name_of some)
    ≡ map name_of (filter (matches wanted) some)
filter_names wanted locks [] found = refl
filter_names wanted locks (held ∷ some) found = by (matches wanted held) refl
    (filter_names wanted locks some (rest_all (IsFound locks) held some found)) where
      by : (here : Bool) → matches wanted held ≡ here → filter (asks wanted locks) (map name_of some)
          ≡ map name_of (filter (matches wanted) some) → filter (asks wanted locks) (name_of held ∷ map name_of some)
          ≡ map name_of (cond here (held ∷ filter (matches wanted) some) (filter (matches wanted) some))
      by true e rest =
          let there : asks wanted locks (name_of held) ≡ true = rw (found 0 held (omega arith)) e in
          rw there (ap (λ more. name_of held ∷ more) rest)
      by false e rest =
          let there : asks wanted locks (name_of held) ≡ false = rw (found 0 held (omega arith)) e in
          rw there rest

pub filter_alike : (one other : LockName → Bool) → ((name : LockName) → one name ≡ other name) → (names : List LockName) → filter one names
    ≡ filter other names
filter_alike one other alike [] = refl
filter_alike one other alike (name ∷ names) = rw (alike name, filter_alike one other alike names) refl

-- the names in order lead to those that are looked for
pub looked : (wanted : Wanted) (names : List LockName) (entries : List (LockName × HeldLock)) → IsKept names entries
    → filter (is_asked wanted entries) names ≡ map name_of (those wanted (values_of entries))
looked wanted names entries kept =
    let locks = values_of entries in
    let in_names : names ≡ map name_of (in_order locks) = kept.index ∙ ap sorted (keys_values entries kept.keyed)
    ∙ sym (names_in_order locks) in
    filter_alike (is_asked wanted entries) (asks wanted locks) (λ name. ap (λ found. option_map_or (matches wanted) found false)
    (lookup_find name entries kept.keyed)) names
    ∙ ap (filter (asks wanted locks)) in_names
    ∙ filter_names wanted locks (in_order locks) (all_in_order (IsFound locks) locks (all_found locks kept.sound))

-- the lock that is found under the name of one of those
pub found_at : (wanted : Wanted) (locks : List HeldLock) (at : ℕ) (name : LockName) → Once locks
    → option_map name_of (slice_get (those wanted locks) at) ≡ Some name → find (is_named name) locks ≡ slice_get (those wanted locks) at
found_at wanted locks at name once = by (slice_get (those wanted locks) at) refl where
  all : All (IsFound locks) (those wanted locks)
  all = All-filter (matches wanted) (IsFound locks) (in_order locks) (all_in_order (IsFound locks) locks (all_found locks once))

  by : (found : Option HeldLock) → slice_get (those wanted locks) at ≡ found → option_map name_of found ≡ Some name
      → find (is_named name) locks ≡ found
  by None e h = absurd (cc)
  by (Some held) e h =
      let here : find (is_named (name_of held)) locks ≡ Some held =
      subst (IsFound locks) (get_or_from_slice_get (those wanted locks) at held held e)
      (all at held (slice_get_within (those wanted locks) at held e)) in
      subst (λ n. find (is_named n) locks ≡ Some held) (some_is (name_of held) name h) here

pub looked_at : (wanted : Wanted) (names : List LockName) (entries : List (LockName × HeldLock)) (at : ℕ) → IsKept names entries
    → slice_get (filter (is_asked wanted entries) names) at ≡ option_map name_of (slice_get (those wanted (values_of entries)) at)
looked_at wanted names entries at kept = ap (λ some. slice_get some at) (looked wanted names entries kept)
    ∙ slice_get-map name_of (those wanted (values_of entries)) at

pub cookies_of : (some : List HeldLock) → map (λ name. name.cookie) (map name_of some) ≡ map (λ held. held.lock.cookie) some
cookies_of [] = refl
cookies_of (held ∷ some) = ap (λ more. held.lock.cookie ∷ more) (cookies_of some)

-- the locks of these names, those that are looked for or all
abbrev pub chosen : Wanted → List HeldLock → LockName → Option HeldLock
chosen wanted locks name = where_it_is (matches wanted) (find (is_named name) locks)

pub chosen_names : (wanted : Wanted) (locks some : List HeldLock) → All (IsFound locks) some
    → filter_map (chosen wanted locks) (map name_of some) ≡ filter (matches wanted) some
chosen_names wanted locks [] found = refl
chosen_names wanted locks (held ∷ some) found = by (matches wanted held) refl
    (chosen_names wanted locks some (rest_all (IsFound locks) held some found)) where
      by : (here : Bool) → matches wanted held ≡ here → filter_map (chosen wanted locks) (map name_of some) ≡ filter (matches wanted) some
          → filter_map (chosen wanted locks) (name_of held ∷ map name_of some)
          ≡ cond here (held ∷ filter (matches wanted) some) (filter (matches wanted) some)
      by true e rest =
          let there : chosen wanted locks (name_of held) ≡ Some held = rw (found 0 held (omega arith), e) refl in
          rw there (ap (λ more. held ∷ more) rest)
      by false e rest =
          let there : chosen wanted locks (name_of held) ≡ None = rw (found 0 held (omega arith), e) refl in
          rw there rest

found_names : (locks some : List HeldLock) → All (IsFound locks) some → filter_map (λ name. find (is_named name) locks) (map name_of some)
    ≡ some
found_names locks [] found = refl
found_names locks (held ∷ some) found = rw (found 0 held (omega arith))
    (ap (λ more. held ∷ more) (found_names locks some (rest_all (IsFound locks) held some found)))

pub map_alike : (one other : LockName → Option HeldLock) → ((name : LockName) → one name ≡ other name) → (names : List LockName)
    → filter_map one names ≡ filter_map other names
map_alike one other alike [] = refl
map_alike one other alike (name ∷ names) = rw (alike name, map_alike one other alike names) refl

in_names : (names : List LockName) (entries : List (LockName × HeldLock)) → IsKept names entries → names
    ≡ map name_of (in_order (values_of entries))
in_names names entries kept = kept.index ∙ ap sorted (keys_values entries kept.keyed) ∙ sym (names_in_order (values_of entries))

pub found_in_order : (names : List LockName) (entries : List (LockName × HeldLock)) → IsKept names entries
    → All (IsFound (values_of entries)) (in_order (values_of entries))
found_in_order names entries kept = all_in_order (IsFound (values_of entries)) (values_of entries)
    (all_found (values_of entries) kept.sound)

pub listed : (wanted : Wanted) (names : List LockName) (entries : List (LockName × HeldLock)) → IsKept names entries
    → filter_map (asked wanted entries) names ≡ those wanted (values_of entries)
listed wanted names entries kept =
    let locks = values_of entries in
    map_alike (asked wanted entries) (chosen wanted locks) (λ name. ap (where_it_is (matches wanted)) (lookup_find name entries kept.keyed))
    names
    ∙ ap (filter_map (chosen wanted locks)) (in_names names entries kept)
    ∙ chosen_names wanted locks (in_order locks) (found_in_order names entries kept)

pub map_listed : {A : Type 0} (read : HeldLock → A) (look : LockName → Option HeldLock) (names : List LockName)
    → filter_map (λ name. option_map read (look name)) names ≡ map read (filter_map look names)
map_listed read look [] = refl
map_listed read look (name ∷ names) = by (look name) refl (map_listed read look names) where
  by : (found : Option HeldLock) → look name ≡ found → filter_map (λ other. option_map read (look other)) names
      ≡ map read (filter_map look names) → filter_map (λ other. option_map read (look other)) (name ∷ names)
      ≡ map read (filter_map look (name ∷ names))
  by None e rest = rw e rest
  by (Some held) e rest = rw e (ap (λ more. read held ∷ more) rest)

pub all_listed : (names : List LockName) (entries : List (LockName × HeldLock)) → IsKept names entries
    → filter_map (λ name. lookup (same_name name) entries) names ≡ in_order (values_of entries)
all_listed names entries kept =
    let locks = values_of entries in
    map_alike (λ name. lookup (same_name name) entries) (λ name. find (is_named name) locks) (λ name. lookup_find name entries kept.keyed)
    names
    ∙ ap (filter_map (λ name. find (is_named name) locks)) (in_names names entries kept)
    ∙ found_names locks (in_order locks) (found_in_order names entries kept)

-- and the other way round: the locks are those in order
from_put : (P : HeldLock → Type 0) (held : HeldLock) (locks : List HeldLock) → All P (put_in held locks) → P held × All P locks
from_put P held [] all = (all 0 held (omega arith), λ k d within. absurd (omega arith))
from_put P held (first ∷ locks) all = by (is_before (name_of first) (name_of held)) (λ on. from_put P held locks on) all where
  by : (before : Bool) → (All P (put_in held locks) → P held × All P locks)
      → All P (cond before (first ∷ put_in held locks) (held ∷ first ∷ locks)) → P held × All P (first ∷ locks)
  by true behind all = let on = behind (rest_all P first (put_in held locks) all)
      in (on.0, All-cons P first locks (all 0 first (omega arith)) on.1)
  by false behind all = (all 0 held (omega arith), rest_all P held (first ∷ locks) all)

pub from_order : (P : HeldLock → Type 0) (locks : List HeldLock) → All P (in_order locks) → All P locks
from_order P [] all = all
from_order P (held ∷ locks) all = let on = from_put P held (in_order locks) all in All-cons P held locks on.0 (from_order P locks on.1)
