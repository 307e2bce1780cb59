-- Items under falling numbers: what is found, put in front and taken out.
use Rattle.std.proofs.Common.{◌≡◌, ℕ, suc, ◌+◌, ◌<◌, ◌≤◌, Bool, true, false, cond, List, [], ◌∷◌, Option, Some, None, refl, sym, ap, subst}
use Rattle.std.proofs.Common.{◌∙◌, arith}
use Rattle.std.specs.Prelude.{nat_eq, nat_lt, not, filter, map, ◌&&◌, ◌==◌}
use Rattle.std.specs.Map.{lookup, remove_entry}
use Rattle.std.specs.Ordering.{nat_cmp}
use Rattle.std.specs.BTreeMap.{insert_entry, is_at}
use Rattle.std.proofs.lemmas.Bool.Decides.{nat_tests}
use Rattle.lu_spec_machine.specs.Places.{RisingFrom, found_at}
use Rattle.lu_spec_bytes.proofs.Rising.{none_before, rising_filter, found_filter}
use Rattle.lu_cache.specs.Numbered.{Numbered, first_number, IsBefore}

pub not_both : {A : Type 0} (x : A) (P : Type 0) → None ≡ Some x → P
not_both x P e = absurd (cc)

pub some_is : {A : Type 0} (x y : A) → Some x ≡ Some y → x ≡ y
some_is x y e = cc

pub rising_on : {X : Type 0} (n k : ℕ) (log : Numbered X) → k ≤ n → RisingFrom n log → RisingFrom k log
rising_on n k [] less h = h
rising_on n k (e ∷ log) less h = (omega arith, h.1)

pub found_here : {X : Type 0} (e : ℕ × X) (log : Numbered X) → found_at (e ∷ log) e.0 ≡ Some e.1
found_here e log = let here : nat_eq e.0 e.0 ≡ true = grind (arith, nat_tests) in rw here refl

-- a number that is found below the first is another
pub found_past : {X : Type 0} (e : ℕ × X) (log : Numbered X) (n : ℕ) (x : X) → RisingFrom (e.0 + 1) log → found_at log n ≡ Some x
    → found_at (e ∷ log) n ≡ Some x
found_past e log n x rising found = by (nat_eq n e.0) refl where
  by : (same : Bool) → nat_eq n e.0 ≡ same → cond same (Some e.1) (found_at log n) ≡ Some x
  by true s = not_both x _ (sym (none_before (e.0 + 1) n log rising (grind (arith, nat_tests))) ∙ found)
  by false s = found

-- ---- in front

pub insert_first : {X : Type 0} (n : ℕ) (x : X) (log : Numbered X) → IsBefore n log → insert_entry nat_cmp log n x ≡ (n, x) ∷ log
insert_first n x [] before = refl
insert_first n x (e ∷ log) before = let less : nat_lt n e.0 ≡ true = grind (arith, nat_tests) in rw less refl

pub rising_first : {X : Type 0} (n : ℕ) (x : X) (log : Numbered X) → RisingFrom 0 log → IsBefore n log → RisingFrom 0 ((n, x) ∷ log)
rising_first n x [] h before = (omega arith, tt)
rising_first n x (e ∷ log) h before = (omega arith, (omega arith, h.1))

pub remove_first : {X : Type 0} (n : ℕ) (x : X) (log : Numbered X) → remove_entry (nat_eq n) ((n, x) ∷ log) ≡ log
remove_first n x log = let here : nat_eq n n ≡ true = grind (arith, nat_tests) in rw here refl

-- ---- taken out

abbrev pub is_not : {X : Type 0} → ℕ → ℕ × X → Bool
is_not n e = not (nat_eq n e.0)

all_not : {X : Type 0} (n k : ℕ) (log : Numbered X) → n < k → RisingFrom k log → filter (is_not n) log ≡ log
all_not n k [] less h = refl
all_not n k (e ∷ log) less h = let off : nat_eq n e.0 ≡ false = grind (arith, nat_tests)
    in rw off (ap (λ more. e ∷ more) (all_not n (e.0 + 1) log (omega (arith, h.0)) h.1))

pub remove_filter : {X : Type 0} (n k : ℕ) (log : Numbered X) → RisingFrom k log → remove_entry (nat_eq n) log ≡ filter (is_not n) log
remove_filter n k [] h = refl
remove_filter n k (e ∷ log) h = by (nat_eq n e.0) refl (remove_filter n (e.0 + 1) log h.1) where
  by : (same : Bool) → nat_eq n e.0 ≡ same → remove_entry (nat_eq n) log ≡ filter (is_not n) log
      → cond same log (e ∷ remove_entry (nat_eq n) log) ≡ cond (not same) (e ∷ filter (is_not n) log) (filter (is_not n) log)
  by true s rest = sym (all_not n (e.0 + 1) log (grind (arith, nat_tests)) h.1)
  by false s rest = ap (λ more. e ∷ more) rest

pub remove_rising : {X : Type 0} (n k : ℕ) (log : Numbered X) → RisingFrom k log → RisingFrom k (remove_entry (nat_eq n) log)
remove_rising n k log h = subst (RisingFrom k) (sym (remove_filter n k log h)) (rising_filter k (is_not n) log h)

pub found_removed : {X : Type 0} (n k m : ℕ) (log : Numbered X) → RisingFrom k log → found_at (remove_entry (nat_eq n) log) m
    ≡ cond (not (nat_eq n m)) (found_at log m) None
found_removed n k m log h = ap (λ l. found_at l m) (remove_filter n k log h) ∙ found_filter (λ p. not (nat_eq n p)) log m

pub there_removed : {X : Type 0} (n k m : ℕ) (log : Numbered X) (x : X) → RisingFrom k log → found_at (remove_entry (nat_eq n) log) m
    ≡ Some x → found_at log m ≡ Some x
there_removed n k m log x h found = by (nat_eq n m) (sym (found_removed n k m log h) ∙ found) where
  by : (same : Bool) → cond (not same) (found_at log m) None ≡ Some x → found_at log m ≡ Some x
  by true e = not_both x _ e
  by false e = e

pub gone_removed : {X : Type 0} (n k m : ℕ) (log : Numbered X) (x : X) → RisingFrom k log → found_at (remove_entry (nat_eq n) log) m
    ≡ Some x → nat_eq n m ≡ false
gone_removed n k m log x h found = by (nat_eq n m) (sym (found_removed n k m log h) ∙ found) where
  by : (same : Bool) → cond (not same) (found_at log m) None ≡ Some x → same ≡ false
  by true e = not_both x _ e
  by false e = refl

-- ---- the newest that passes a test

-- it stands under its number, and passes
pub number_found : {X : Type 0} (test : X → Bool) (k n : ℕ) (log : Numbered X) → RisingFrom k log → first_number test log ≡ Some n → (x : X)
    × (found_at log n ≡ Some x) × (test x ≡ true)
number_found test k n [] h first = not_both n _ first
number_found {X} test k n (e ∷ log) h first = by (test e.1) refl first (number_found test (e.0 + 1) n log h.1) where
  by : (here : Bool) → test e.1 ≡ here → cond here (Some e.0) (first_number test log) ≡ Some n
      → (first_number test log ≡ Some n → (x : X) × (found_at log n ≡ Some x) × (test x ≡ true)) → (x : X) × (found_at (e ∷ log) n ≡ Some x)
      × (test x ≡ true)
  by true t f rest = (e.1, subst (λ m. found_at (e ∷ log) m ≡ Some e.1) (some_is e.0 n f) (found_here e log), t)
  by false t f rest = let (x, found, passes) = rest f in (x, found_past e log n x h.1 found, passes)

-- where there is none, none passes
pub number_none : {X : Type 0} (test : X → Bool) (log : Numbered X) (n : ℕ) (x : X) → first_number test log ≡ None → found_at log n ≡ Some x
    → test x ≡ false
number_none test [] n x none found = not_both x _ found
number_none {X} test (e ∷ log) n x none found = by (test e.1) refl none (number_none test log n x) where
  by : (here : Bool) → test e.1 ≡ here → cond here (Some e.0) (first_number test log) ≡ None
      → (first_number test log ≡ None → found_at log n ≡ Some x → test x ≡ false) → test x ≡ false
  by true t f rest = not_both e.0 _ (sym f)
  by false t f rest = or (nat_eq n e.0) found where
    or : (same : Bool) → cond same (Some e.1) (found_at log n) ≡ Some x → test x ≡ false
    or true g = subst (λ y. test y ≡ false) (some_is e.1 x g) t
    or false g = rest f g

-- where none that is found passes, there is none
pub none_number : {X : Type 0} (test : X → Bool) (k : ℕ) (log : Numbered X) → RisingFrom k log
    → ((n : ℕ) (x : X) → found_at log n ≡ Some x → test x ≡ false) → first_number test log ≡ None
none_number test k [] h none = refl
none_number test k (e ∷ log) h none =
    let off : test e.1 ≡ false = none e.0 e.1 (found_here e log) in
    rw off (none_number test (e.0 + 1) log h.1 (λ n x found. none n x (found_past e log n x h.1 found)))

-- another than the one that was taken out
pub first_removed : {X : Type 0} (test : X → Bool) (n k : ℕ) (log : Numbered X) (x : X) → RisingFrom k log → found_at log n ≡ Some x
    → test x ≡ false → first_number test (remove_entry (nat_eq n) log) ≡ first_number test log
first_removed test n k [] x h found off = refl
first_removed test n k (e ∷ log) x h found off = by (nat_eq n e.0) found (first_removed test n (e.0 + 1) log x h.1) where
  by : (same : Bool) → cond same (Some e.1) (found_at log n) ≡ Some x
      → (found_at log n ≡ Some x → test x ≡ false → first_number test (remove_entry (nat_eq n) log) ≡ first_number test log)
      → first_number test (cond same log (e ∷ remove_entry (nat_eq n) log)) ≡ cond (test e.1) (Some e.0) (first_number test log)
  by true f rest = let here : test e.1 ≡ false = subst (λ y. test y ≡ false) (sym (some_is e.1 x f)) off in rw here refl
  by false f rest = ap (cond (test e.1) (Some e.0)) (rest f off)

-- the rest of a list without one that a test refuses
pub filter_removed : {X : Type 0} (test : X → Bool) (n k : ℕ) (log : Numbered X) (x : X) → RisingFrom k log → found_at log n ≡ Some x
    → test x ≡ false → filter (λ (e : ℕ × X). test e.1) (remove_entry (nat_eq n) log) ≡ filter (λ (e : ℕ × X). test e.1) log
filter_removed test n k [] x h found off = refl
filter_removed {X} test n k (e ∷ log) x h found off = by (nat_eq n e.0) found (filter_removed test n (e.0 + 1) log x h.1) where
  by : (same : Bool) → cond same (Some e.1) (found_at log n) ≡ Some x
      → (found_at log n ≡ Some x → test x ≡ false → filter (λ (d : ℕ × X). test d.1) (remove_entry (nat_eq n) log)
      ≡ filter (λ (d : ℕ × X). test d.1) log) → filter (λ (d : ℕ × X). test d.1) (cond same log (e ∷ remove_entry (nat_eq n) log))
      ≡ cond (test e.1) (e ∷ filter (λ (d : ℕ × X). test d.1) log) (filter (λ (d : ℕ × X). test d.1) log)
  by true f rest = let here : test e.1 ≡ false = subst (λ y. test y ≡ false) (sym (some_is e.1 x f)) off in rw here refl
  by false f rest = ap (λ more. cond (test e.1) (e ∷ more) more) (rest f off)

-- all that is found passes
pub filter_found : {X : Type 0} (test : X → Bool) (k : ℕ) (log : Numbered X) → RisingFrom k log
    → ((n : ℕ) (x : X) → found_at log n ≡ Some x → test x ≡ true) → filter (λ (e : ℕ × X). test e.1) log ≡ log
filter_found test k [] h all = refl
filter_found test k (e ∷ log) h all =
    let here : test e.1 ≡ true = all e.0 e.1 (found_here e log) in
    rw here (ap (λ more. e ∷ more) (filter_found test (e.0 + 1) log h.1 (λ n x found. all n x (found_past e log n x h.1 found))))

-- ---- as maps of std look

pub at_number : (n k : ℕ) → is_at (nat_cmp n) k ≡ nat_eq n k
at_number n k = by (nat_lt n k) (nat_eq n k) refl refl where
  by : (v w : Bool) → nat_lt n k ≡ v → nat_eq n k ≡ w → is_at (nat_cmp n) k ≡ w
  by true true e f = absurd (grind (arith, nat_tests))
  by true false e f = rw e refl
  by false true e f = rw (e, f) refl
  by false false e f = rw (e, f) refl

pub looked_up : {X : Type 0} (n : ℕ) (log : Numbered X) → lookup (is_at (nat_cmp n)) log ≡ found_at log n
looked_up n [] = refl
looked_up n (e ∷ log) = rw (at_number n e.0, looked_up n log) refl

pub took_out : {X : Type 0} (n : ℕ) (log : Numbered X) → remove_entry (is_at (nat_cmp n)) log ≡ remove_entry (nat_eq n) log
took_out n [] = refl
took_out n (e ∷ log) = rw (at_number n e.0, took_out n log) refl
