-- Maps by rising position: bounds of what is edited and laid, and what stands nowhere.
use Rattle.std.proofs.Common.{◌≡◌, ℕ, zero, suc, ◌+◌, ◌<◌, ◌≤◌, Bool, true, false, cond, List, [], ◌∷◌, ◌++◌, length, Option, Some, None}
use Rattle.std.proofs.Common.{refl, sym, ap, ◌∙◌, subst, arith, append_assoc, length-append}
use Rattle.std.specs.Prelude.{nat_eq, nat_lt, nat_le, filter, ◌==◌, if◌then◌else◌, is_some}
use Rattle.std.proofs.lemmas.Bool.Decides.{nat_tests}
use Rattle.lu_base.specs.declared.locks.Extent.{Extent}
use Rattle.lu_spec_machine.specs.Places.{Places, RisingFrom, found_at, below, from, placed, laid, is_in, inside, end_of}
use Rattle.lu_spec_machine.proofs.Places.{in_parts, found_inside}
use Rattle.lu_spec_bytes.specs.Maps.{AllBelow}
use Rattle.lu_spec_bytes.specs.Runs.{first_position}
use Rattle.std.proofs.lemmas.List.{append-nil}
use Rattle.lu_spec_bytes.proofs.Rising.{none_before, rising_filter, end_snoc}
use Rattle.lu_page.specs.Edits.{with_item, edited}

pub rises_from : {A : Type 0} (n k : ℕ) (m : Places A) → k ≤ n → RisingFrom n m → RisingFrom k m
rises_from n k [] less h = h
rises_from n k (e ∷ m) less h = (omega (arith, less, h.0), h.1)

pub all_up_to : {A : Type 0} (n k : ℕ) (m : Places A) → n ≤ k → AllBelow n m → AllBelow k m
all_up_to n k [] less h = h
all_up_to n k (e ∷ m) less h = (omega (arith, less, h.0), all_up_to n k m less h.1)

pub none_past : {A : Type 0} (k p : ℕ) (m : Places A) → AllBelow k m → k ≤ p → found_at m p ≡ None
none_past k p [] h less = refl
none_past k p (e ∷ m) h less = let here : nat_eq p e.0 ≡ false = grind (arith, nat_tests, h.0) in rw here (none_past k p m h.1 less)

-- ---- edits

pub rising_edited : {A : Type 0} (f : ℕ → A → Option A) (n : ℕ) (m : Places A) → RisingFrom n m → RisingFrom n (edited f m)
rising_edited f n [] h = h
rising_edited {A} f n (e ∷ m) h = by (f e.0 e.1) (rising_edited f (e.0 + 1) m h.1)
  where
    by : (o : Option A) → RisingFrom (e.0 + 1) (edited f m) → RisingFrom n (with_item e.0 o (edited f m))
    by None rest = rises_from (e.0 + 1) n (edited f m) (omega (arith, h.0)) rest
    by (Some x) rest = (h.0, rest)

pub all_edited : {A : Type 0} (f : ℕ → A → Option A) (k : ℕ) (m : Places A) → AllBelow k m → AllBelow k (edited f m)
all_edited f k [] h = h
all_edited {A} f k (e ∷ m) h = by (f e.0 e.1) (all_edited f k m h.1)
  where
    by : (o : Option A) → AllBelow k (edited f m) → AllBelow k (with_item e.0 o (edited f m))
    by None rest = rest
    by (Some x) rest = (h.0, rest)

-- ---- the first, and what stands below a position

not_there : {A : Type 0} (x : A) → None ≡ Some x → ⊥
not_there x e = cc

found_here : {A : Type 0} (e : ℕ × A) (m : Places A) → found_at (e ∷ m) e.0 ≡ Some e.1
found_here e m = let here : nat_eq e.0 e.0 ≡ true = grind (arith, nat_tests) in rw here refl

some_of : {A : Type 0} (o : Option A) → is_some o ≡ true → (x : A) × (o ≡ Some x)
some_of None is = absurd (cc)
some_of (Some x) is = (x, refl)

none_of : {A : Type 0} (o : Option A) → is_some o ≡ false → o ≡ None
none_of None is = refl
none_of (Some x) is = absurd (cc)

first_found : {A : Type 0} (n p : ℕ) (x : A) (m : Places A) → RisingFrom n m → ((q : ℕ) → q < p → found_at m q ≡ None) → found_at m p
    ≡ Some x → first_position m ≡ Some p
first_found n p x [] h none found = absurd (not_there x found)
first_found {A} n p x (e ∷ m) h none found = by (nat_lt e.0 p) (nat_lt p e.0) refl refl
  where
    by : (v w : Bool) → nat_lt e.0 p ≡ v → nat_lt p e.0 ≡ w → Some e.0 ≡ Some p
    by true w less other = absurd (not_there e.1 (sym (none e.0 (grind (arith, nat_tests))) ∙ found_here e m))
    by false true less other = absurd (not_there x (sym (none_before e.0 p (e ∷ m) (omega arith, h.1) (grind (arith, nat_tests))) ∙ found))
    by false false less other = ap (λ q. Some q) (grind (arith, nat_tests))

pub first_none : {A : Type 0} (k : ℕ) (m : Places A) → ((q : ℕ) → q < k → found_at m q ≡ None) → AllBelow k m → first_position m ≡ None
first_none k [] none h = refl
first_none k (e ∷ m) none h = absurd (not_there e.1 (sym (none e.0 h.0) ∙ found_here e m))

pub below_none : {A : Type 0} (k n : ℕ) (m : Places A) → RisingFrom n m → k ≤ n → below k m ≡ []
below_none k n [] h less = refl
below_none k n (e ∷ m) h less = let here : nat_lt e.0 k ≡ false = grind (arith, nat_tests, h.0)
    in rw here (below_none k (e.0 + 1) m h.1 (omega (arith, h.0, less)))

pub below_same : {A : Type 0} (k n : ℕ) (m : Places A) → AllBelow k m → k ≤ n → below n m ≡ m
below_same k n [] h less = refl
below_same k n (e ∷ m) h less = let here : nat_lt e.0 n ≡ true = grind (arith, nat_tests, h.0)
    in rw here (ap (λ more. e ∷ more) (below_same k n m h.1 less))

-- one position more
pub below_more : {A : Type 0} (n p : ℕ) (m : Places A) → RisingFrom n m → below (p + 1) m ≡ below p m ++ with_item p (found_at m p) []
below_more n p [] h = refl
below_more {A} n p (e ∷ m) h = by (nat_lt e.0 p) (nat_lt p e.0) refl refl (below_more (e.0 + 1) p m h.1)
  where
    by : (v w : Bool) → nat_lt e.0 p ≡ v → nat_lt p e.0 ≡ w → below (p + 1) m ≡ below p m ++ with_item p (found_at m p) []
        → below (p + 1) (e ∷ m) ≡ below p (e ∷ m) ++ with_item p (found_at (e ∷ m) p) []
    by true w less other rest =
        let one : nat_lt e.0 (p + 1) ≡ true = grind (arith, nat_tests) in
        let two : nat_eq p e.0 ≡ false = grind (arith, nat_tests) in
        rw (one, less, two) (ap (λ more. e ∷ more) rest)
    by false true less other rest =
        let one : nat_lt e.0 (p + 1) ≡ false = grind (arith, nat_tests) in
        let none : found_at (e ∷ m) p ≡ None = none_before e.0 p (e ∷ m) (omega arith, h.1) (grind (arith, nat_tests)) in
        rw (
          one,
          less,
          none,
          below_none (p + 1) (e.0 + 1) m h.1 (grind (arith, nat_tests)),
          below_none p (e.0 + 1) m h.1 (grind (arith, nat_tests)),
        ) refl
    by false false less other rest =
        let same : e.0 ≡ p = grind (arith, nat_tests) in
        let one : nat_lt e.0 (p + 1) ≡ true = grind (arith, nat_tests) in
        let two : nat_eq p e.0 ≡ true = grind (arith, nat_tests) in
        rw (one, less, two, below_none (p + 1) (e.0 + 1) m h.1 (omega (arith, same)), below_none p (e.0 + 1) m h.1 (omega (arith, same)))
        (ap (λ (q : ℕ). (q, e.1) ∷ []) same)

count_found : {A : Type 0} (n p : ℕ) (x : A) (m : Places A) → RisingFrom n m → found_at m p ≡ Some x → length (below (p + 1) m)
    ≡ length (below p m) + 1
count_found n p x m h found = ap length (below_more n p m h ∙ ap (λ o. below p m ++ with_item p o []) found)
    ∙ length-append (below p m) ((p, x) ∷ [])

below_still : {A : Type 0} (n p : ℕ) (m : Places A) → RisingFrom n m → found_at m p ≡ None → below (p + 1) m ≡ below p m
below_still n p m h none = below_more n p m h ∙ ap (λ o. below p m ++ with_item p o []) none ∙ append-nil (below p m)

end_found : {A : Type 0} (n p : ℕ) (x : A) (m : Places A) → RisingFrom n m → found_at m p ≡ Some x → end_of (below (p + 1) m) ≡ p + 1
end_found {A} n p x m h found =
    let is : below (p + 1) m ≡ below p m ++ (p, x) ∷ [] = below_more n p m h ∙ ap (λ o. below p m ++ with_item p o []) found in
    ap end_of is ∙ (end_snoc 0 (below p m) (p, x) (subst (λ m. RisingFrom 0 m) is
    (rising_filter 0 (λ (e : ℕ × A). nat_lt e.0 (p + 1)) m (rises_from n 0 m (omega arith) h)))).1

pub first_at : {A : Type 0} (n p : ℕ) (m : Places A) → RisingFrom n m → ((q : ℕ) → q < p → found_at m q ≡ None) → is_some (found_at m p)
    ≡ true → first_position m ≡ Some p
first_at n p m h none is = let o = some_of (found_at m p) is in first_found n p o.0 m h none o.1

pub not_at : {A : Type 0} (p q r : ℕ) (m : Places A) → ((s : ℕ) → s < p → found_at m s ≡ None) → is_some (found_at m p) ≡ false → q ≡ p + 1
    → r < q → found_at m r ≡ None
not_at {A} p q r m none is e less = by (nat_lt r p) refl
  where
    by : (v : Bool) → nat_lt r p ≡ v → found_at m r ≡ None
    by true before = none r (grind (arith, nat_tests))
    by false before = let same : r ≡ p = grind (arith, nat_tests) in ap (found_at m) same ∙ none_of (found_at m p) is

pub count_at : {A : Type 0} (n p q : ℕ) (m : Places A) → RisingFrom n m → is_some (found_at m p) ≡ true → q ≡ p + 1 → length (below q m)
    ≡ length (below p m) + 1
count_at n p q m h is e = let o = some_of (found_at m p) is in ap (λ r. length (below r m)) e ∙ count_found n p o.0 m h o.1

pub same_below : {A : Type 0} (n p q : ℕ) (m : Places A) → RisingFrom n m → is_some (found_at m p) ≡ false → q ≡ p + 1 → below q m
    ≡ below p m
same_below n p q m h is e = ap (λ r. below r m) e ∙ below_still n p m h (none_of (found_at m p) is)

pub end_at : {A : Type 0} (n p q : ℕ) (m : Places A) → RisingFrom n m → is_some (found_at m p) ≡ true → q ≡ p + 1 → end_of (below q m) ≡ q
end_at n p q m h is e = let o = some_of (found_at m p) is in ap (λ r. end_of (below r m)) e ∙ end_found n p o.0 m h o.1 ∙ sym e

-- ---- a range

-- all before the range
pub bare_before : {A : Type 0} (extent : Extent) (k n p : ℕ) (m : Places A) → RisingFrom k m → (k ≤ p → extent.first ≤ p → p < n → ⊥)
    → p < n → found_at (inside extent m) p ≡ None
bare_before {A} extent k n p m h apart less = found_inside extent m p ∙ by (is_in extent p) refl (nat_lt p k) refl
  where
    by : (v : Bool) → is_in extent p ≡ v → (w : Bool) → nat_lt p k ≡ w → (if v then found_at m p else None) ≡ None
    by false out w low = refl
    by true here true low = none_before k p m h (grind (arith, nat_tests))
    by true here false low = let first = (in_parts extent p here).0 in absurd (apart (grind (arith, nat_tests)) first less)

-- none past the range
pub all_inside : {A : Type 0} (extent : Extent) (k high n : ℕ) (m : Places A) → RisingFrom k m → AllBelow high m
    → ((p : ℕ) → k ≤ p → p < high → p ≤ extent.last → p < n) → AllBelow n (inside extent m)
all_inside extent k high n [] h all within = tt
all_inside {A} extent k high n (e ∷ m) h all within = by (is_in extent e.0) refl
    (all_inside extent (e.0 + 1) high n m h.1 all.1 (λ p low. within p (omega (arith, low, h.0))))
  where
    by : (v : Bool) → is_in extent e.0 ≡ v → AllBelow n (inside extent m) → AllBelow n (cond v (e ∷ inside extent m) (inside extent m))
    by true here rest = (within e.0 h.0 all.0 (in_parts extent e.0 here).1, rest)
    by false here rest = rest

-- ---- the end

pub all_less : {A : Type 0} (p : ℕ) (m : Places A) → AllBelow (p + 1) m → is_some (found_at m p) ≡ false → AllBelow p m
all_less p [] h none = tt
all_less {A} p (e ∷ m) h none = by (nat_eq p e.0) refl none (all_less p m h.1)
  where
    by : (v : Bool) → nat_eq p e.0 ≡ v → is_some (if v then Some e.1 else found_at m p) ≡ false
        → (is_some (found_at m p) ≡ false → AllBelow p m) → AllBelow p (e ∷ m)
    by true here none rest = absurd (cc (none))
    by false here none rest = (grind (arith, nat_tests, h.0), rest none)

pub end_there : {A : Type 0} (n p : ℕ) (m : Places A) → RisingFrom n m → AllBelow (p + 1) m → is_some (found_at m p) ≡ true → end_of m
    ≡ p + 1
end_there n p m h all is = ap end_of (sym (below_same (p + 1) (p + 1) m all (omega arith))) ∙ end_at n p (p + 1) m h is refl

pub end_nowhere : {A : Type 0} (n : ℕ) (m : Places A) → RisingFrom n m → AllBelow n m → end_of m ≡ 0
end_nowhere n m h all = ap end_of (sym (below_same n n m all (omega arith)) ∙ below_none n n m h (omega arith))
