-- A map at one place, and that its places rise.
use Rattle.std.proofs.Common.{◌≡◌, ◌≢◌, ℕ, zero, suc, ◌+◌, ◌-◌, ◌<◌, ◌≤◌, Bool, true, false, cond, List, [], ◌∷◌, ◌++◌, length, Option}
use Rattle.std.proofs.Common.{Some, None, refl, sym, ap, ◌∙◌, arith}
use Rattle.std.specs.Prelude.{nat_eq, nat_lt, nat_le, ◌&&◌, filter, slice_index, if◌then◌else◌}
use Rattle.std.proofs.lemmas.Bool.{eq-eqb}
use Rattle.std.proofs.lemmas.Bool.Decides.{nat_tests}
use Rattle.lu_base.specs.declared.locks.Extent.{Extent}
use Rattle.lu_spec_machine.specs.Places.{found_at, RisingFrom, below, from, placed, laid, end_of, is_in, inside}

-- a run over what stands at a place
abbrev pub overlay : {A : Type 0} → ℕ → List A → ℕ → Option A → Option A
overlay at [] p x = x
overlay at (b ∷ bs) p x = if nat_eq p at then Some b else overlay (at + 1) bs p x

abbrev pub or_else : {A : Type 0} → Option A → Option A → Option A
or_else None y = y
or_else (Some x) y = Some x

else_none : {A : Type 0} (x : Option A) → or_else x None ≡ x
else_none None = refl
else_none (Some x) = refl

-- ---- what is found

-- a test of the place
pub found_filter : {A : Type 0} (test : ℕ → Bool) (m : List (ℕ × A)) (p : ℕ) → found_at (filter (λ (e : ℕ × A). test e.0) m) p
    ≡ (if test p then found_at m p else None)
found_filter {A} test [] p = by (test p)
  where
    by : (v : Bool) → ◌≡◌ {A = Option A} None (if v then None else None)
    by true = refl
    by false = refl
found_filter {A} test (e ∷ m) p = by (nat_eq p e.0) (test e.0) refl refl (found_filter test m p)
  where
    by : (v w : Bool) → nat_eq p e.0 ≡ v → test e.0 ≡ w → found_at (filter (λ (e : ℕ × A). test e.0) m) p
        ≡ (if test p then found_at m p else None)
        → found_at (cond (test e.0) (e ∷ filter (λ (e : ℕ × A). test e.0) m) (filter (λ (e : ℕ × A). test e.0) m)) p
        ≡ (if test p then (if nat_eq p e.0 then Some e.1 else found_at m p) else None)
    by true true here kept rest = let same : p ≡ e.0 = grind (arith, nat_tests) in let at_p : test p ≡ true = ap test same ∙ kept
        in rw (kept, at_p, here) refl
    by true false here kept rest = let same : p ≡ e.0 = grind (arith, nat_tests) in let at_p : test p ≡ false = ap test same ∙ kept
        in rw (kept, at_p) (rest ∙ rw at_p refl)
    by false true here kept rest = rw (kept, here) rest
    by false false here kept rest = rw (kept, here) rest

pub found_on : {A : Type 0} (a b : List (ℕ × A)) (p : ℕ) → found_at (a ++ b) p ≡ or_else (found_at a p) (found_at b p)
found_on [] b p = refl
found_on {A} (e ∷ a) b p = by (nat_eq p e.0) (found_on a b p)
  where
    by : (v : Bool) → found_at (a ++ b) p ≡ or_else (found_at a p) (found_at b p) → (if v then Some e.1 else found_at (a ++ b) p)
        ≡ or_else (if v then Some e.1 else found_at a p) (found_at b p)
    by true ih = refl
    by false ih = ih

found_placed : {A : Type 0} (at : ℕ) (xs : List A) (p : ℕ) → found_at (placed at xs) p ≡ overlay at xs p None
found_placed at [] p = refl
found_placed {A} at (x ∷ xs) p = by (nat_eq p at) (found_placed (at + 1) xs p)
  where
    by : (v : Bool) → found_at (placed (at + 1) xs) p ≡ overlay (at + 1) xs p None → (if v then Some x else found_at (placed (at + 1) xs) p)
        ≡ (if v then Some x else overlay (at + 1) xs p None)
    by true ih = refl
    by false ih = ih

pub before_run : {A : Type 0} (at : ℕ) (xs : List A) (p : ℕ) (x : Option A) → p < at → overlay at xs p x ≡ x
before_run at [] p x less = refl
before_run at (b ∷ xs) p x less = let test : nat_eq p at ≡ false = grind (arith, nat_tests)
    in rw test (before_run (at + 1) xs p x (omega (arith, less)))

pub past_run : {A : Type 0} (at : ℕ) (xs : List A) (p : ℕ) (x : Option A) → at + length xs ≤ p → overlay at xs p x ≡ x
past_run at [] p x less = refl
past_run at (b ∷ xs) p x less = let test : nat_eq p at ≡ false = grind (arith, nat_tests)
    in rw test (past_run (at + 1) xs p x (omega (arith, less)))

-- in the run its own item stands
pub at_run : (at : ℕ) (xs : List ℕ) (k : ℕ) (x : Option ℕ) → k < length xs → overlay at xs (at + k) x ≡ Some (slice_index xs k)
at_run at [] k x less = absurd (omega (arith, less))
at_run at (b ∷ xs) zero x less = let test : nat_eq (at + 0) at ≡ true = eq-eqb (at + 0) at (omega arith) in rw test refl
at_run at (b ∷ xs) (suc k) x less =
    let test : nat_eq (at + suc k) at ≡ false = grind (arith, nat_tests) in
    let moved : at + suc k ≡ at + 1 + k = omega arith in
    rw test (ap (λ q. overlay (at + 1) xs q x) moved ∙ at_run (at + 1) xs k x (omega (arith, less)))

in_run : {A : Type 0} (at : ℕ) (xs : List A) (p : ℕ) (y : Option A) → at ≤ p → p < at + length xs → or_else (overlay at xs p None) None
    ≡ overlay at xs p y
in_run at [] p y low high = absurd (omega (arith, low, high))
in_run {A} at (b ∷ xs) p y low high = by (nat_eq p at) refl (λ more. in_run (at + 1) xs p y more (omega (arith, high)))
  where
    by : (v : Bool) → nat_eq p at ≡ v → (at + 1 ≤ p → or_else (overlay (at + 1) xs p None) None ≡ overlay (at + 1) xs p y)
        → or_else (if v then Some b else overlay (at + 1) xs p None) None ≡ (if v then Some b else overlay (at + 1) xs p y)
    by true same ih = refl
    by false same ih = ih (grind (arith, nat_tests))

-- what is laid
pub found_laid : {A : Type 0} (at : ℕ) (xs : List A) (m : List (ℕ × A)) (p : ℕ) → found_at (laid at xs m) p ≡ overlay at xs p (found_at m p)
found_laid {A} at xs m p =
    found_on (below at m) (placed at xs ++ from (at + length xs) m) p
    ∙ ap (λ y. or_else (found_at (below at m) p) y) (found_on (placed at xs) (from (at + length xs) m) p
    ∙ ap (λ y. or_else y (found_at (from (at + length xs) m) p)) (found_placed at xs p))
    ∙ ap (λ y. or_else y (or_else (overlay at xs p None) (found_at (from (at + length xs) m) p))) (found_filter (λ q. nat_lt q at) m p)
    ∙ ap (λ y. or_else (if nat_lt p at then found_at m p else None) (or_else (overlay at xs p None) y))
    (found_filter (λ q. nat_le (at + length xs) q) m p)
    ∙ by (nat_lt p at) (nat_le (at + length xs) p) refl refl
  where
    by : (u v : Bool) → nat_lt p at ≡ u → nat_le (at + length xs) p ≡ v
        → or_else (if u then found_at m p else None) (or_else (overlay at xs p None) (if v then found_at m p else None))
        ≡ overlay at xs p (found_at m p)
    by true true low high = absurd (grind (arith, nat_tests))
    by true false low high = ap (λ y. or_else (found_at m p) (or_else y None)) (before_run at xs p None (grind (arith, nat_tests)))
        ∙ else_none (found_at m p) ∙ sym (before_run at xs p (found_at m p) (grind (arith, nat_tests)))
    by false true low high = ap (λ y. or_else y (found_at m p)) (past_run at xs p None (grind (arith, nat_tests)))
        ∙ sym (past_run at xs p (found_at m p) (grind (arith, nat_tests)))
    by false false low high = in_run at xs p (found_at m p) (grind (arith, nat_tests)) (grind (arith, nat_tests))

-- ---- the end

pub end_past : {A : Type 0} (m : List (ℕ × A)) (p : ℕ) → end_of m ≤ p → found_at m p ≡ None
end_past [] p h = refl
end_past (e ∷ m) p h = let here : nat_eq p e.0 ≡ false = grind (arith, nat_tests) in rw here (end_past m p (omega (arith, h)))

pub end_last : {A : Type 0} (m : List (ℕ × A)) → 0 < end_of m → found_at m (end_of m - 1) ≢ None
end_last [] h = absurd (omega (arith, h))
end_last {A} (e ∷ m) h = by (nat_eq (end_of (e ∷ m) - 1) e.0) refl (end_last m)
  where
    by : (v : Bool) → nat_eq (end_of (e ∷ m) - 1) e.0 ≡ v → (0 < end_of m → found_at m (end_of m - 1) ≢ None)
        → (if v then Some e.1 else found_at m (end_of (e ∷ m) - 1)) ≢ None
    by true same ih = λ q. absurd (cc)
    by false same ih =
        let other : end_of (e ∷ m) - 1 ≡ e.0 → ⊥ = λ q. absurd (cc (same, eq-eqb (end_of (e ∷ m) - 1) e.0 q)) in
        let is : end_of (e ∷ m) ≡ end_of m = grind (arith, other) in
        let some : 0 < end_of m = omega (arith, h, is) in
        λ q. ih some (ap (λ n. found_at m (n - 1)) (sym is) ∙ q)

-- ---- rising places

abbrev pub AllBelow : {A : Type 0} → ℕ → List (ℕ × A) → Type 0
AllBelow k [] = Unit {0}
AllBelow k (e ∷ m) = (e.0 < k) × AllBelow k m

rising_on : {A : Type 0} (n k : ℕ) (m : List (ℕ × A)) → k ≤ n → RisingFrom n m → RisingFrom k m
rising_on n k [] less h = h
rising_on n k (e ∷ m) less h = (omega (arith, less, h.0), h.1)

rising_filter : {A : Type 0} (n : ℕ) (test : ℕ × A → Bool) (m : List (ℕ × A)) → RisingFrom n m → RisingFrom n (filter test m)
rising_filter n test [] h = tt
rising_filter n test (e ∷ m) h = by (test e) (rising_filter (e.0 + 1) test m h.1)
  where
    by : (v : Bool) → RisingFrom (e.0 + 1) (filter test m) → RisingFrom n (cond v (e ∷ filter test m) (filter test m))
    by true rest = (h.0, rest)
    by false rest = rising_on (e.0 + 1) n (filter test m) (omega (arith, h.0)) rest

pub rising_below : {A : Type 0} (n k : ℕ) (m : List (ℕ × A)) → RisingFrom n m → RisingFrom n (below k m)
rising_below {A} n k m h = rising_filter n (λ (e : ℕ × A). nat_lt e.0 k) m h

rising_from : {A : Type 0} (n k : ℕ) (m : List (ℕ × A)) → RisingFrom n m → RisingFrom k (from k m)
rising_from n k [] h = tt
rising_from {A} n k (e ∷ m) h = by (nat_le k e.0) refl (rising_from (e.0 + 1) k m h.1)
  where
    by : (v : Bool) → nat_le k e.0 ≡ v → RisingFrom k (from k m) → RisingFrom k (cond v (e ∷ from k m) (from k m))
    by true less ih = (grind (arith, nat_tests), rising_filter (e.0 + 1) (λ (e : ℕ × A). nat_le k e.0) m h.1)
    by false less ih = ih

rising_placed : {A : Type 0} (at : ℕ) (xs : List A) → RisingFrom at (placed at xs)
rising_placed at [] = tt
rising_placed at (x ∷ xs) = (omega arith, rising_placed (at + 1) xs)

pub below_all : {A : Type 0} (k : ℕ) (m : List (ℕ × A)) → AllBelow k (below k m)
below_all k [] = tt
below_all k (e ∷ m) = by (nat_lt e.0 k) refl (below_all k m)
  where
    by : (v : Bool) → nat_lt e.0 k ≡ v → AllBelow k (below k m) → AllBelow k (cond v (e ∷ below k m) (below k m))
    by true less rest = (grind (arith, nat_tests), rest)
    by false less rest = rest

placed_all : {A : Type 0} (at : ℕ) (xs : List A) (k : ℕ) → at + length xs ≤ k → AllBelow k (placed at xs)
placed_all at [] k h = tt
placed_all at (x ∷ xs) k h = (omega (arith, h), placed_all (at + 1) xs k (omega (arith, h)))

-- the second after the first
pub rising_joined : {A : Type 0} (n k : ℕ) (a b : List (ℕ × A)) → n ≤ k → RisingFrom n a → AllBelow k a → RisingFrom k b
    → RisingFrom n (a ++ b)
rising_joined n k [] b less h all g = rising_on k n b less g
rising_joined n k (e ∷ a) b less h all g = (h.0, rising_joined (e.0 + 1) k a b (omega (arith, all.0)) h.1 all.1 g)

pub rising_laid : {A : Type 0} (at : ℕ) (xs : List A) (m : List (ℕ × A)) → RisingFrom 0 m → RisingFrom 0 (laid at xs m)
rising_laid at xs m h =
    rising_joined 0 at (below at m) (placed at xs ++ from (at + length xs) m) (omega arith) (rising_below 0 at m h) (below_all at m)
    (rising_joined at (at + length xs) (placed at xs) (from (at + length xs) m) (omega arith) (rising_placed at xs)
    (placed_all at xs (at + length xs) (omega arith)) (rising_from 0 (at + length xs) m h))

-- ---- what is inside an extent

pub in_parts : (extent : Extent) (p : ℕ) → is_in extent p ≡ true → (extent.first ≤ p) × (p ≤ extent.last)
in_parts extent p h = by (nat_le extent.first p) (nat_le p extent.last) refl refl h
  where
    by : (v w : Bool) → nat_le extent.first p ≡ v → nat_le p extent.last ≡ w → (v && w) ≡ true → (extent.first ≤ p) × (p ≤ extent.last)
    by true true low high h = (grind (arith, nat_tests), grind (arith, nat_tests))
    by true false low high h = absurd (cc (h))
    by false w low high h = absurd (cc (h))

pub in_whole : (extent : Extent) (p : ℕ) → extent.first ≤ p → p ≤ extent.last → is_in extent p ≡ true
in_whole extent p low high =
    let one : nat_le extent.first p ≡ true = grind (arith, nat_tests) in
    let two : nat_le p extent.last ≡ true = grind (arith, nat_tests) in
    rw (one, two) refl

pub found_inside : {A : Type 0} (extent : Extent) (m : List (ℕ × A)) (p : ℕ) → found_at (inside extent m) p
    ≡ (if is_in extent p then found_at m p else None)
found_inside extent m p = found_filter (is_in extent) m p

pub rising_inside : {A : Type 0} (n : ℕ) (extent : Extent) (m : List (ℕ × A)) → RisingFrom n m → RisingFrom extent.first (inside extent m)
rising_inside n extent [] h = tt
rising_inside {A} n extent (e ∷ m) h = by (is_in extent e.0) refl (rising_inside (e.0 + 1) extent m h.1)
  where
    by : (v : Bool) → is_in extent e.0 ≡ v → RisingFrom extent.first (inside extent m)
        → RisingFrom extent.first (cond v (e ∷ inside extent m) (inside extent m))
    by true is ih = ((in_parts extent e.0 is).0, rising_filter (e.0 + 1) (λ (e : ℕ × A). is_in extent e.0) m h.1)
    by false is ih = ih

pub end_inside : {A : Type 0} (extent : Extent) (m : List (ℕ × A)) → end_of (inside extent m) ≤ extent.last + 1
end_inside extent [] = omega arith
end_inside extent (e ∷ m) = by (is_in extent e.0) refl (end_inside extent m)
  where
    by : (v : Bool) → is_in extent e.0 ≡ v → end_of (inside extent m) ≤ extent.last + 1
        → end_of (cond v (e ∷ inside extent m) (inside extent m)) ≤ extent.last + 1
    by true is ih = let h = (in_parts extent e.0 is).1 in omega (arith, ih, h)
    by false is ih = ih

pub none_before : {A : Type 0} (n p : ℕ) (m : List (ℕ × A)) → RisingFrom n m → p < n → found_at m p ≡ None
none_before n p [] h less = refl
none_before n p (e ∷ m) h less = let here : nat_eq p e.0 ≡ false = grind (arith, nat_tests, h.0)
    in rw here (none_before (e.0 + 1) p m h.1 (omega (arith, h.0, less)))
