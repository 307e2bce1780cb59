-- Names in order: a set of them is in this order, and it doesn't matter in which order they came.
use Rattle.std.proofs.Common.{Ordering, ◌≡◌, ◌||◌, Bool, true, false, not, cond, List, [], ◌∷◌, filter, refl, ap, subst, sym, ◌∙◌, arith}
use Rattle.std.specs.Prelude.{All, AllPairs}
use Rattle.std.specs.List.{list_any}
use Rattle.std.specs.Ordering.{nat_cmp, ordering_then, match_ordering, is_eq}
use Rattle.std.specs.Set.{remove_key}
use Rattle.std.specs.BTreeSet.{insert_key}
use Rattle.std.proofs.lemmas.List.Elements.{All-cons}
use Rattle.std.proofs.lemmas.List.Kept.{AllPairs-cons}
use Rattle.std.proofs.lemmas.Bool.Decides.{nat_tests}
use Rattle.lu_held.specs.declared.names.LockName.{LockName}
use Rattle.lu_held.specs.Locks.{named}
use Rattle.lu_held.specs.Names.{same_name, is_before, with_name, sorted}
use Rattle.lu_held.proofs.Lists.{rest_all, rest_pairs, first_pairs, filter_all, filter_passes, none_pass, turned}

abbrev pub Apart : LockName → LockName → Type 0
Apart one other = same_name one other ≡ false

abbrev pub others : LockName → LockName → Bool
others name other = not (same_name name other)

pub same_self : (name : LockName) → same_name name name ≡ true
same_self name = grind (arith, nat_tests)

pub same_turned : (one other : LockName) → same_name one other ≡ false → same_name other one ≡ false
same_turned one other = grind (arith, nat_tests)

pub same_is : (one other : LockName) → same_name one other ≡ true → one ≡ other
same_is one other same =
    let target : one.target.0 ≡ other.target.0 = grind (arith, nat_tests) in
    let cookie : one.cookie.0 ≡ other.cookie.0 = grind (arith, nat_tests) in
    ap (λ n. named (record { 0 = n }) one.cookie) target ∙ ap (λ n. named other.target (record { 0 = n })) cookie

behind : (a b x : LockName) → is_before x a ≡ true → is_before x b ≡ false → is_before b a ≡ true
behind a b x = grind (arith, nat_tests)

both_behind : (a b x : LockName) (names : List LockName) → is_before x a ≡ false → is_before x b ≡ false → Apart a b → (v w : Bool)
    → is_before a b ≡ v → is_before b a ≡ w → with_name a (with_name b (x ∷ names)) ≡ with_name b (with_name a (x ∷ names))
both_behind a b x names e f apart true false g h = rw (f, h, e, g, f) refl
both_behind a b x names e f apart false true g h = rw (f, h, e, g) refl
both_behind a b x names e f apart true true g h = absurd (grind (arith, nat_tests))
both_behind a b x names e f apart false false g h = absurd (grind (arith, nat_tests))

commute_two : (a b : LockName) → Apart a b → (v w : Bool) → is_before a b ≡ v → is_before b a ≡ w → with_name a (b ∷ [])
    ≡ with_name b (a ∷ [])
commute_two a b apart true false g h = rw (h, g) refl
commute_two a b apart false true g h = rw (h, g) refl
commute_two a b apart true true g h = absurd (grind (arith, nat_tests))
commute_two a b apart false false g h = absurd (grind (arith, nat_tests))

pub commute : (a b : LockName) → Apart a b → (names : List LockName) → with_name a (with_name b names) ≡ with_name b (with_name a names)
commute a b apart [] = commute_two a b apart (is_before a b) (is_before b a) refl refl
commute a b apart (x ∷ names) = by (is_before x a) (is_before x b) refl refl (commute a b apart names) where
  by : (v w : Bool) → is_before x a ≡ v → is_before x b ≡ w → with_name a (with_name b names) ≡ with_name b (with_name a names)
      → with_name a (with_name b (x ∷ names)) ≡ with_name b (with_name a (x ∷ names))
  by true true e f rest = rw (f, e, f) (ap (λ more. x ∷ more) rest)
  by true false e f rest = let g : is_before b a ≡ true = behind a b x e f in rw (f, g, e, f) refl
  by false true e f rest = let g : is_before a b ≡ true = behind b a x f e in rw (f, e, g, f) refl
  by false false e f rest = both_behind a b x names e f apart (is_before a b) (is_before b a) refl refl

pub all_with : (P : LockName → Type 0) (name : LockName) (names : List LockName) → P name → All P names → All P (with_name name names)
all_with P name [] here all = All-cons P name [] here all
all_with P name (first ∷ names) here all = by (is_before first name) (all_with P name names here (rest_all P first names all)) where
  by : (before : Bool) → All P (with_name name names) → All P (cond before (first ∷ with_name name names) (name ∷ first ∷ names))
  by true rest = All-cons P first (with_name name names) (all 0 first (omega arith)) rest
  by false rest = All-cons P name (first ∷ names) here all

pub all_sorted : (P : LockName → Type 0) (names : List LockName) → All P names → All P (sorted names)
all_sorted P [] all = all
all_sorted P (name ∷ names) all = all_with P name (sorted names) (all 0 name (omega arith)) (all_sorted P names (rest_all P name names all))

-- what was put in and is taken out again
pub filter_with : (name : LockName) (names : List LockName) → filter (others name) (with_name name names) ≡ filter (others name) names
filter_with name [] = rw (same_self name) refl
filter_with name (first ∷ names) = by (is_before first name) refl (filter_with name names) where
  by : (before : Bool) → is_before first name ≡ before → filter (others name) (with_name name names) ≡ filter (others name) names
      → filter (others name) (with_name name (first ∷ names)) ≡ filter (others name) (first ∷ names)
  by true e rest = rw (e, rest) refl
  by false e rest = rw (e, same_self name) refl

pub all_others : (name : LockName) (names : List LockName) → All (Apart name) names → filter (others name) names ≡ names
all_others name names apart = filter_all (others name) names (turned (same_name name) names apart)

-- a name among others that are apart, put in last
pub sorted_used : (name : LockName) (names : List LockName) → AllPairs Apart names → list_any (same_name name) names ≡ true
    → with_name name (sorted (filter (others name) names)) ≡ sorted names
sorted_used name [] apart there = absurd (cc)
sorted_used name (first ∷ names) apart there = by (same_name name first) refl there
    (sorted_used name names (rest_pairs Apart first names apart)) where
      by : (here : Bool) → same_name name first ≡ here → (here || list_any (same_name name) names) ≡ true
          → (list_any (same_name name) names ≡ true → with_name name (sorted (filter (others name) names)) ≡ sorted names)
          → with_name name (sorted (cond (not here) (first ∷ filter (others name) names) (filter (others name) names))) ≡ sorted (first ∷ names)
      by true e h rest =
          let same : name ≡ first = same_is name first e in
          let apart_here : All (Apart name) names = subst (λ n. All (Apart n) names) (sym same) (first_pairs Apart first names apart) in
          rw (all_others name names apart_here) (ap (λ n. with_name n (sorted names)) same)
      by false e h rest = commute name first e (sorted (filter (others name) names)) ∙ ap (with_name first) (rest h)

pub sorted_without : (name : LockName) (names : List LockName) → AllPairs Apart names → filter (others name) (sorted names)
    ≡ sorted (filter (others name) names)
sorted_without name names apart = by (list_any (same_name name) names) refl where
  by : (there : Bool) → list_any (same_name name) names ≡ there → filter (others name) (sorted names) ≡ sorted (filter (others name) names)
  by true e =
      let rest : All (λ other. others name other ≡ true) (filter (others name) names) = filter_passes (others name) names in
      ap (filter (others name)) (sym (sorted_used name names apart e))
      ∙ filter_with name (sorted (filter (others name) names))
      ∙ filter_all (others name) (sorted (filter (others name) names))
      (all_sorted (λ other. others name other ≡ true) (filter (others name) names) rest)
  by false e =
      let none : All (Apart name) names = none_pass (same_name name) names e in
      all_others name (sorted names) (all_sorted (Apart name) names none) ∙ ap sorted (sym (all_others name names none))

-- a set keeps its names in this order
abbrev pub by_name : LockName → LockName → Ordering
by_name one other = ordering_then (nat_cmp one.target.0 other.target.0) (nat_cmp one.cookie.0 other.cookie.0)

is_equal : (one other : LockName) → is_eq (by_name one other) ≡ same_name one other
is_equal one other = grind (arith, nat_tests)

step : (name first : LockName) (here there more : List LockName) → Apart name first → match_ordering (by_name name first) here there more
    ≡ cond (is_before first name) more here
step name first here there more apart = grind (arith, nat_tests)

pub key_put : (name : LockName) (names : List LockName) → All (Apart name) names → insert_key by_name names name ≡ with_name name names
key_put name [] apart = refl
key_put name (first ∷ names) apart =
    let rest : insert_key by_name names name ≡ with_name name names = key_put name names (rest_all (Apart name) first names apart) in
    step name first (name ∷ first ∷ names) (first ∷ names) (first ∷ insert_key by_name names name) (apart 0 first (omega arith))
    ∙ ap (λ more. cond (is_before first name) (first ∷ more) (name ∷ first ∷ names)) rest

pub key_removed : (name : LockName) (names : List LockName) → AllPairs Apart names → remove_key (λ other. is_eq (by_name name other)) names
    ≡ filter (others name) names
key_removed name [] apart = refl
key_removed name (first ∷ names) apart = by (same_name name first) refl (key_removed name names (rest_pairs Apart first names apart)) where
  by : (same : Bool) → same_name name first ≡ same → remove_key (λ other. is_eq (by_name name other)) names ≡ filter (others name) names
      → cond (is_eq (by_name name first)) names (first ∷ remove_key (λ other. is_eq (by_name name other)) names)
      ≡ cond (not same) (first ∷ filter (others name) names) (filter (others name) names)
  by true e rest =
      let same : name ≡ first = same_is name first e in
      let apart_here : All (Apart name) names = subst (λ n. All (Apart n) names) (sym same) (first_pairs Apart first names apart) in
      rw (is_equal name first, e) (sym (all_others name names apart_here))
  by false e rest = rw (is_equal name first, e) (ap (λ more. first ∷ more) rest)

apart_with : (name : LockName) (names : List LockName) → AllPairs Apart names → All (Apart name) names
    → AllPairs Apart (with_name name names)
apart_with name [] pairs apart = λ i j d less within. absurd (omega arith)
apart_with name (first ∷ names) pairs apart = by (is_before first name)
    (apart_with name names (rest_pairs Apart first names pairs) (rest_all (Apart name) first names apart)) where
      by : (before : Bool) → AllPairs Apart (with_name name names) → AllPairs Apart
          (cond before (first ∷ with_name name names) (name ∷ first ∷ names))
      by true rest = AllPairs-cons Apart first (with_name name names)
          (all_with (Apart first) name names (same_turned name first (apart 0 first (omega arith))) (first_pairs Apart first names pairs)) rest
      by false rest = AllPairs-cons Apart name (first ∷ names) apart pairs

pub apart_sorted : (names : List LockName) → AllPairs Apart names → AllPairs Apart (sorted names)
apart_sorted [] apart = apart
apart_sorted (name ∷ names) apart =
    apart_with name (sorted names) (apart_sorted names (rest_pairs Apart name names apart))
    (all_sorted (Apart name) names (first_pairs Apart name names apart))
