-- Maps by rising position: a map is what is found in it, and what its changes leave is found as they say.
use Rattle.std.proofs.Common.{get_or, take, length-append, ◌≡◌, ℕ, zero, suc, ◌+◌, ◌-◌, ◌%◌, ◌^◌, ◌<◌, ◌≤◌, ◌⊎◌, inl, inr, ⊎_elim, List, []}
use Rattle.std.proofs.Common.{◌∷◌, ◌++◌, length, Option, Some, None, Bool, true, false, cond, refl, sym, ap, ◌∙◌, subst, arith}
use Rattle.std.proofs.Common.{append_assoc}
use Rattle.std.specs.Prelude.{nat_eq, nat_lt, nat_le, filter, map, ◌==◌, if◌then◌else◌, not, ◌&&◌, slice_get}
use Rattle.std.specs.Map.{lookup, keys_of}
use Rattle.std.specs.Ordering.{nat_cmp, match_ordering}
use Rattle.std.specs.BTreeMap.{insert_entry}
use Rattle.std.specs.BTreeMap.Range.{entries_between, range_contains}
use Rattle.std.specs.declared.ops.Bound.TheVariants.{Included}
use Rattle.std.specs.Ordering.{is_le, is_lt}
use Rattle.std.specs.List.Sorted.{IsStrictlySortedBy}
use Rattle.std.specs.List.{AllByRecursion}
use Rattle.std.specs.declared.cmp.Ordering.{Ordering}
use Rattle.std.specs.declared.cmp.Ordering.TheVariants.{Less, Equal, Greater}
use Rattle.std.proofs.lemmas.List.{take_more, length-take-le, append-nil}
use Rattle.std.proofs.lemmas.Bool.{eqb-true, eqb-false, eq-eqb, both_ways, and_parts, ltb-true, ltb-false}
use Rattle.std.proofs.lemmas.Bool.Decides.{nat_tests}
use Rattle.std.proofs.lemmas.Map.Keys.{sorted_tail, sorted_head}
use Rattle.lu_base.specs.declared.locks.Extent.{Extent}
use Rattle.lu_spec_machine.specs.Places.{Places, RisingFrom, found_at, below, from, placed, laid, is_in, inside, end_of}
use Rattle.lu_spec_bytes.specs.Maps.{AllBelow, IsMap}
use Rattle.lu_spec_bytes.specs.Runs.{run_from, run_with, run_at, found_run, first_run, first_position, page_size}
use Rattle.lu_spec_bytes.specs.Changes.{outside}

-- ---- one map, one list

pub none_before : {A : Type 0} (n p : ℕ) (m : Places A) → RisingFrom n m → p < n → found_at m p ≡ None
none_before n p [] h less = refl
none_before n p (e ∷ m) h less = let here : nat_eq p e.0 ≡ false = grind (arith, nat_tests)
    in rw here (none_before (e.0 + 1) p m h.1 (omega arith))

rising_on : {A : Type 0} (n k : ℕ) (m : Places A) → k ≤ n → RisingFrom n m → RisingFrom k m
rising_on n k [] less h = h
rising_on n k (e ∷ m) less h = (omega arith, h.1)

found_here : {A : Type 0} (e : ℕ × A) (m : Places A) → found_at (e ∷ m) e.0 ≡ Some e.1
found_here e m = let here : nat_eq e.0 e.0 ≡ true = grind (arith, nat_tests) in rw here refl

found_past : {A : Type 0} (e : ℕ × A) (m : Places A) (p : ℕ) → e.0 + 1 ≤ p → found_at (e ∷ m) p ≡ found_at m p
found_past e m p less = let here : nat_eq p e.0 ≡ false = grind (arith, nat_tests) in rw here refl

not_both : {A : Type 0} (x : A) → None ≡ Some x → ⊥
not_both x e = cc

some_same : {A : Type 0} (x y : A) → Some x ≡ Some y → x ≡ y
some_same x y e = cc

same_entry : {A : Type 0} (d e : ℕ × A) (a b : Places A) → d.0 ≡ e.0 → d.1 ≡ e.1 → a ≡ b → d ∷ a ≡ e ∷ b
same_entry d e a b p q r = λ i. (p i, q i) ∷ r i

-- what is found in both is the same everywhere
pub same_map : {A : Type 0} (n : ℕ) (a b : Places A) → RisingFrom n a → RisingFrom n b → ((p : ℕ) → n ≤ p → found_at a p ≡ found_at b p) → a
    ≡ b
same_map n [] [] g h f = refl
same_map n [] (e ∷ b) g h f = absurd (not_both e.1 (f e.0 h.0 ∙ found_here e b))
same_map n (d ∷ a) [] g h f = absurd (not_both d.1 (sym (f d.0 g.0) ∙ found_here d a))
same_map {A} n (d ∷ a) (e ∷ b) g h f = by (nat_lt d.0 e.0) (nat_lt e.0 d.0) refl refl
    (λ same. same_map (d.0 + 1) a b g.1 (rising_on (e.0 + 1) (d.0 + 1) b (omega arith) h.1) (rest same))
  where
    rest : (d.0 ≡ e.0) → (p : ℕ) → d.0 + 1 ≤ p → found_at a p ≡ found_at b p
    rest same p less = sym (found_past d a p less) ∙ f p (omega (arith, g.0)) ∙ found_past e b p (omega arith)

    by : (v w : Bool) → nat_lt d.0 e.0 ≡ v → nat_lt e.0 d.0 ≡ w → (d.0 ≡ e.0 → a ≡ b) → d ∷ a ≡ e ∷ b
    by true w less other tails = absurd (not_both d.1 (sym (none_before e.0 d.0 (e ∷ b) (omega arith, h.1) (grind (arith, nat_tests)))
        ∙ sym (f d.0 g.0) ∙ found_here d a))
    by false true less other tails = absurd (not_both e.1 (sym (none_before d.0 e.0 (d ∷ a) (omega arith, g.1) (grind (arith, nat_tests)))
        ∙ f e.0 h.0 ∙ found_here e b))
    by false false less other tails =
        let same : d.0 ≡ e.0 = grind (arith, nat_tests) in
        let value : d.1 ≡ e.1 = some_same d.1 e.1 (sym (found_here d a) ∙ f d.0 g.0
        ∙ subst (λ (q : ℕ). found_at (e ∷ b) q ≡ Some e.1) (sym same) (found_here e b)) in
        same_entry d e a b same value (tails same)

-- ---- parts of a map

pub rising_filter : {A : Type 0} (n : ℕ) (test : ℕ × A → Bool) (m : Places A) → RisingFrom n m → RisingFrom n (filter test m)
rising_filter n test [] h = tt
rising_filter n test (e ∷ m) h = by (test e) (rising_filter (e.0 + 1) test m h.1)
  where
    by : (v : Bool) → RisingFrom (e.0 + 1) (filter test m) → RisingFrom n (cond v (e ∷ filter test m) (filter test m))
    by true rest = (h.0, rest)
    by false rest = rising_on (e.0 + 1) n (filter test m) (omega (arith, h.0)) rest

-- a test of the position
pub found_filter : {A : Type 0} (test : ℕ → Bool) (m : Places A) (p : ℕ) → found_at (filter (λ (e : ℕ × A). test e.0) m) p
    ≡ (if test p then found_at m p else None)
found_filter {A} test [] p = by (test p)
  where
    by : (v : Bool) → ◌≡◌ {A = Option A} None (if v then None else None)
    by true = refl
    by false = refl
found_filter {A} test (e ∷ m) p = by (nat_eq p e.0) (test e.0) refl refl (found_filter test m p)
  where
    by : (v w : Bool) → nat_eq p e.0 ≡ v → test e.0 ≡ w → found_at (filter (λ (e : ℕ × A). test e.0) m) p
        ≡ (if test p then found_at m p else None) → found_at (cond (test e.0) (e ∷ filter (λ (e : ℕ × A). test e.0) m)
        (filter (λ (e : ℕ × A). test e.0) m)) p ≡ (if test p then (if nat_eq p e.0 then Some e.1 else found_at m p) else None)
    by true true here kept rest = let same : p ≡ e.0 = grind (arith, nat_tests) in let at_p : test p ≡ true = ap test same ∙ kept
        in rw (kept, at_p, here) refl
    by true false here kept rest = let same : p ≡ e.0 = grind (arith, nat_tests) in let at_p : test p ≡ false = ap test same ∙ kept
        in rw (kept, at_p) (rest ∙ rw at_p refl)
    by false true here kept rest = rw (kept, here) rest
    by false false here kept rest = rw (kept, here) rest

pub rising_placed : {A : Type 0} (n at : ℕ) (xs : List A) → n ≤ at → RisingFrom n (placed at xs)
rising_placed n at [] h = tt
rising_placed n at (x ∷ xs) h = (h, rising_placed (at + 1) (at + 1) xs (omega arith))

pub below_all : {A : Type 0} (k n : ℕ) (m : Places A) → n ≤ k → AllBelow k (below n m)
below_all k n [] h = tt
below_all k n (e ∷ m) h = by (nat_lt e.0 n) refl (below_all k n m h)
  where
    by : (v : Bool) → nat_lt e.0 n ≡ v → AllBelow k (below n m) → AllBelow k (cond v (e ∷ below n m) (below n m))
    by true less rest = (grind (arith, nat_tests), rest)
    by false less rest = rest

pub placed_all : {A : Type 0} (at : ℕ) (xs : List A) (k : ℕ) → at + length xs ≤ k → AllBelow k (placed at xs)
placed_all at [] k h = tt
placed_all at (x ∷ xs) k h = (omega (arith, h), placed_all (at + 1) xs k (omega (arith, h)))

pub all_filter : {A : Type 0} (k : ℕ) (test : ℕ × A → Bool) (m : Places A) → AllBelow k m → AllBelow k (filter test m)
all_filter k test [] h = tt
all_filter k test (e ∷ m) h = by (test e) (all_filter k test m h.1)
  where
    by : (v : Bool) → AllBelow k (filter test m) → AllBelow k (cond v (e ∷ filter test m) (filter test m))
    by true rest = (h.0, rest)
    by false rest = rest

pub kept_filter : {A : Type 0} (test : ℕ × A → Bool) (m : Places A) → IsMap m → IsMap (filter test m)
kept_filter test m h = record { rising = rising_filter 0 test m h.rising; below = all_filter (2 ^ 62) test m h.below }

pub insert_all : {A : Type 0} (k p : ℕ) (x : A) (m : Places A) → p < k → AllBelow k m → AllBelow k (insert_entry nat_cmp m p x)
insert_all k p x [] less h = (less, tt)
insert_all k p x (e ∷ m) less h = by (nat_cmp p e.0) (insert_all k p x m less h.1)
  where
    by : (o : Ordering) → AllBelow k (insert_entry nat_cmp m p x)
        → AllBelow k (match_ordering o ((p, x) ∷ e ∷ m) ((e.0, x) ∷ m) (e ∷ insert_entry nat_cmp m p x))
    by Less rest = (less, h)
    by Equal rest = (h.0, h.1)
    by Greater rest = (h.0, rest)

-- the same keys
pub map_all : {A : Type 0} (k : ℕ) (g : ℕ × A → A) (m : Places A) → AllBelow k m
    → AllBelow k (map {A = ℕ × A} {B = ℕ × A} (λ e. (e.0, g e)) m)
map_all k g [] h = tt
map_all k g (e ∷ m) h = (h.0, map_all k g m h.1)

pub first_all : {A : Type 0} (k p : ℕ) (m : Places A) → AllBelow k m → first_position m ≡ Some p → p < k
first_all k p [] h e = absurd (cc)
first_all k p (d ∷ m) h e = let same : d.0 ≡ p = cc in subst (λ q. q < k) same h.0

pub run_more : {A : Type 0} (most k p q : ℕ) (m : Places A) → k < most → q ≡ p + 1 → run_at (most - k) m p
    ≡ run_with (found_at m p) (run_at (most - (k + 1)) m q)
run_more most k p q m less e = by (most - (k + 1)) (most - k) (omega (arith, less))
    ∙ ap (λ (r : ℕ). run_with (found_at m p) (run_at (most - (k + 1)) m r)) (sym e)
  where
    by : (j i : ℕ) → i ≡ j + 1 → run_at i m p ≡ run_with (found_at m p) (run_at j m (p + 1))
    by j zero is = absurd (omega (arith, is))
    by j (suc i) is = let same : i ≡ j = omega (arith, is) in ap (λ (r : ℕ). run_with (found_at m p) (run_at r m (p + 1))) same

-- ---- one item more

insert_past : {A : Type 0} (k : ℕ) (v : A) (a b : Places A) → AllBelow k a → insert_entry nat_cmp (a ++ b) k v ≡ a
    ++ insert_entry nat_cmp b k v
insert_past k v [] b h = refl
insert_past k v (e ∷ a) b h =
    let less : nat_lt k e.0 ≡ false = grind (arith, nat_tests, h.0) in
    let same : nat_eq k e.0 ≡ false = grind (arith, nat_tests, h.0) in
    rw (less, same) (ap (λ more. e ∷ more) (insert_past k v a b h.1))

from_all : {A : Type 0} (k n : ℕ) (m : Places A) → RisingFrom n m → k ≤ n → from k m ≡ m
from_all k n [] h less = refl
from_all k n (e ∷ m) h less = let here : nat_le k e.0 ≡ true = grind (arith, nat_tests, h.0)
    in rw here (ap (λ more. e ∷ more) (from_all k (e.0 + 1) m h.1 (omega (arith, h.0))))

insert_from : {A : Type 0} (n k : ℕ) (v : A) (m : Places A) → RisingFrom n m → insert_entry nat_cmp (from k m) k v ≡ (k, v) ∷ from (k + 1) m
insert_from n k v [] h = refl
insert_from {A} n k v (e ∷ m) h = by (nat_lt e.0 k) (nat_lt k e.0) refl refl (insert_from (e.0 + 1) k v m h.1)
  where
    by : (u w : Bool) → nat_lt e.0 k ≡ u → nat_lt k e.0 ≡ w → insert_entry nat_cmp (from k m) k v ≡ (k, v) ∷ from (k + 1) m
        → insert_entry nat_cmp (from k (e ∷ m)) k v ≡ (k, v) ∷ from (k + 1) (e ∷ m)
    by true w less other rest =
        let one : nat_le k e.0 ≡ false = grind (arith, nat_tests) in
        let two : nat_le (k + 1) e.0 ≡ false = grind (arith, nat_tests) in
        rw (one, two) rest
    by false true less other rest =
        let one : nat_le k e.0 ≡ true = grind (arith, nat_tests) in
        let two : nat_le (k + 1) e.0 ≡ true = grind (arith, nat_tests) in
        rw (
          one,
          two,
          other,
          from_all k (e.0 + 1) m h.1 (grind (arith, nat_tests)),
          from_all (k + 1) (e.0 + 1) m h.1 (grind (arith, nat_tests)),
        ) refl
    by false false less other rest =
        let same : k ≡ e.0 = grind (arith, nat_tests) in
        let one : nat_le k e.0 ≡ true = grind (arith, nat_tests) in
        let two : nat_le (k + 1) e.0 ≡ false = grind (arith, nat_tests) in
        let three : nat_eq k e.0 ≡ true = grind (arith, nat_tests) in
        rw (one, two, other, three, from_all k (e.0 + 1) m h.1 (omega arith), from_all (k + 1) (e.0 + 1) m h.1 (omega arith))
        (ap (λ (q : ℕ). (q, v) ∷ m) (sym same))

placed_more : {A : Type 0} (at : ℕ) (xs : List A) (x : A) → placed at (xs ++ x ∷ []) ≡ placed at xs ++ (at + length xs, x) ∷ []
placed_more at [] x = ap (λ (q : ℕ). (q, x) ∷ []) (omega arith)
placed_more at (y ∷ xs) x = ap (λ more. (at, y) ∷ more) (placed_more (at + 1) xs x
    ∙ ap (λ (q : ℕ). placed (at + 1) xs ++ (q, x) ∷ []) (omega arith))

-- a run that grows at its end
pub insert_laid : {A : Type 0} (at k : ℕ) (xs : List A) (x : A) (m : Places A) → RisingFrom 0 m → k ≡ at + length xs
    → insert_entry nat_cmp (laid at xs m) k x ≡ laid at (xs ++ x ∷ []) m
insert_laid {A} at k xs x m h e =
    insert_past k x (below at m) (placed at xs ++ from (at + length xs) m) (below_all k at m (omega (arith, e)))
    ∙ ap (λ more. below at m ++ more) (insert_past k x (placed at xs) (from (at + length xs) m) (placed_all at xs k (omega (arith, e)))
    ∙ ap (λ more. placed at xs ++ more) inner ∙ sym outer)
  where
    inner : insert_entry nat_cmp (from (at + length xs) m) k x ≡ (at + length xs, x) ∷ from (at + length (xs ++ x ∷ [])) m
    inner = subst (λ (q : ℕ). insert_entry nat_cmp (from (at + length xs) m) q x ≡ (at + length xs, x)
        ∷ from (at + length (xs ++ x ∷ [])) m) (sym e) (insert_from 0 (at + length xs) x m h
        ∙ ap (λ (q : ℕ). (at + length xs, x) ∷ from q m) (omega (arith, length-append xs (x ∷ []))))

    outer : placed at (xs ++ x ∷ []) ++ from (at + length (xs ++ x ∷ [])) m ≡ placed at xs
        ++ ((at + length xs, x) ∷ from (at + length (xs ++ x ∷ [])) m)
    outer = ap (λ more. more ++ from (at + length (xs ++ x ∷ [])) m) (placed_more at xs x)
        ∙ append_assoc (placed at xs) ((at + length xs, x) ∷ []) (from (at + length (xs ++ x ∷ [])) m)

-- nothing below and nothing from there on
below_none : {A : Type 0} (k n : ℕ) (m : Places A) → RisingFrom n m → k ≤ n → below k m ≡ []
below_none k n [] h less = refl
below_none k n (e ∷ m) h less = let here : nat_lt e.0 k ≡ false = grind (arith, nat_tests, h.0)
    in rw here (below_none k (e.0 + 1) m h.1 (omega (arith, h.0)))

pub split_map : {A : Type 0} (k n : ℕ) (m : Places A) → RisingFrom n m → below k m ++ from k m ≡ m
split_map k n [] h = refl
split_map {A} k n (e ∷ m) h = by (nat_lt e.0 k) refl (split_map k (e.0 + 1) m h.1)
  where
    by : (v : Bool) → nat_lt e.0 k ≡ v → below k m ++ from k m ≡ m → below k (e ∷ m) ++ from k (e ∷ m) ≡ e ∷ m
    by true less rest = let other : nat_le k e.0 ≡ false = grind (arith, nat_tests) in rw (less, other) (ap (λ more. e ∷ more) rest)
    by false less rest =
        let other : nat_le k e.0 ≡ true = grind (arith, nat_tests) in
        rw (less, other, below_none k (e.0 + 1) m h.1 (grind (arith, nat_tests)), from_all k (e.0 + 1) m h.1 (grind (arith, nat_tests)))
        refl

pub laid_none : {A : Type 0} (at : ℕ) (m : Places A) → RisingFrom 0 m → laid at [] m ≡ m
laid_none at m h = ap (λ (q : ℕ). below at m ++ from q m) (omega arith) ∙ split_map at 0 m h

-- one turn of the loop that lays
pub lay_more : {A : Type 0} (at next i : ℕ) (xs : List A) (x : A) (m : Places A) → RisingFrom 0 m → next ≡ at + i → i < length xs → x
    ≡ get_or xs i x → insert_entry nat_cmp (laid at (take i xs) m) next x ≡ laid at (take (i + 1) xs) m
lay_more at next i xs x m h e less is =
    insert_laid at next (take i xs) x m h (e ∙ ap (λ (n : ℕ). at + n) (sym (length-take-le i xs (omega arith))))
    ∙ ap (λ ys. laid at ys m) (ap (λ y. take i xs ++ y ∷ []) is ∙ sym (take_more xs i x less))

-- ---- a map of std is rising

less_of : (k q : ℕ) → nat_cmp k q ≡ Less → k + 1 ≤ q
less_of k q = by (nat_lt k q) (nat_eq k q) refl
  where
    by : (v w : Bool) → nat_lt k q ≡ v → cond v Less (cond w Equal Greater) ≡ Less → k + 1 ≤ q
    by true w less e = grind (arith, nat_tests)
    by false true less e = absurd (cc)
    by false false less e = absurd (cc)

sorted_above : {A : Type 0} (k : ℕ) (m : Places A) → AllByRecursion (λ q. nat_cmp k q ≡ Less) (keys_of m)
    → IsStrictlySortedBy nat_cmp (keys_of m) → RisingFrom (k + 1) m
sorted_above k [] above h = tt
sorted_above k (e ∷ m) above h = (
  less_of k e.0 above.0,
  sorted_above e.0 m (sorted_head nat_cmp e.0 (keys_of m) h)
      (sorted_tail nat_cmp e.0 (keys_of m) h),
)

pub rising_sorted : {A : Type 0} (n : ℕ) (m : Places A) → IsStrictlySortedBy nat_cmp (keys_of m) → RisingFrom 0 m
rising_sorted n [] h = tt
rising_sorted n (e ∷ m) h = (
  omega arith,
  sorted_above e.0 m (sorted_head nat_cmp e.0 (keys_of m) h)
      (sorted_tail nat_cmp e.0 (keys_of m) h),
)

-- ---- runs

run_skips : {A : Type 0} (k : ℕ) (e : ℕ × A) (m : Places A) (p : ℕ) → e.0 + 1 ≤ p → run_at k (e ∷ m) p ≡ run_at k m p
run_skips zero e m p less = refl
run_skips (suc k) e m p less = ap (λ o. run_with o (run_at k (e ∷ m) (p + 1))) (found_past e m p less)
    ∙ ap (λ more. run_with (found_at m p) more) (run_skips k e m (p + 1) (omega (arith, less)))

-- a run walked is a run looked up
pub run_walks : {A : Type 0} (k p : ℕ) (m : Places A) → RisingFrom p m → take k (run_from p m) ≡ run_at k m p
run_walks zero p [] h = refl
run_walks (suc k) p [] h = refl
run_walks zero p (e ∷ m) h = refl
run_walks {A} (suc k) p (e ∷ m) h = by (nat_eq e.0 p) refl (λ less. run_walks k (p + 1) m (rising_on (e.0 + 1) (p + 1) m less h.1))
  where
    by : (v : Bool) → nat_eq e.0 p ≡ v → (p + 1 ≤ e.0 + 1 → take k (run_from (p + 1) m) ≡ run_at k m (p + 1))
        → take (suc k) (run_from p (e ∷ m)) ≡ run_at (suc k) (e ∷ m) p
    by true here ih =
        let same : p ≡ e.0 = grind (arith, nat_tests) in
        let there : nat_eq p e.0 ≡ true = grind (arith, nat_tests) in
        let found : found_at (e ∷ m) p ≡ Some e.1 = rw there refl in
        let walked : take (suc k) (run_from p (e ∷ m)) ≡ e.1 ∷ take k (run_from (p + 1) m) = rw here refl in
        walked ∙ ap (λ more. e.1 ∷ more) (ih (omega (arith, same)) ∙ sym (run_skips k e m (p + 1) (omega (arith, same))))
        ∙ sym (ap (λ o. run_with o (run_at k (e ∷ m) (p + 1))) found)
    by false here ih =
        let less : p < e.0 = grind (arith, nat_tests, h.0) in
        let there : nat_eq p e.0 ≡ false = grind (arith, nat_tests) in
        let found : found_at (e ∷ m) p ≡ None = rw there (none_before (e.0 + 1) p m h.1 (omega (arith, less))) in
        let walked : take (suc k) (run_from p (e ∷ m)) ≡ [] = rw here refl in
        walked ∙ sym (ap (λ o. run_with o (run_at k (e ∷ m) (p + 1))) found)

-- the first run, looked up
pub first_run_at : {A : Type 0} (m : Places A) → RisingFrom 0 m → first_run m
    ≡ (elim (first_position m) as (λ o. Option (ℕ × List A)) [ None ↦ None | Some p ↦ Some (p, run_at (page_size - p % page_size) m p) ])
first_run_at [] h = refl
first_run_at (e ∷ m) h = ap (λ run. Some (e.0, run)) (run_walks (page_size - e.0 % page_size) e.0 (e ∷ m) (omega arith, h.1))

pub run_stops : {A : Type 0} (j p : ℕ) (m : Places A) → found_at m p ≡ None → run_at j m p ≡ []
run_stops zero p m e = refl
run_stops (suc j) p m e = ap (λ o. run_with o (run_at j m (p + 1))) e

pub run_ends : {A : Type 0} (j p : ℕ) (m : Places A) (xs zs : List A) → found_at m p ≡ None → xs ++ run_at j m p ≡ zs → xs ≡ zs
run_ends j p m xs zs e is = sym (append-nil xs) ∙ sym (ap (λ more. xs ++ more) (run_stops j p m e)) ∙ is

pub run_step : {A : Type 0} (most k p q : ℕ) (m : Places A) (xs : List A) (x : A) (zs : List A) → k < most → q ≡ p + 1 → found_at m p
    ≡ Some x → xs ++ run_at (most - k) m p ≡ zs → (xs ++ x ∷ []) ++ run_at (most - (k + 1)) m q ≡ zs
run_step most k p q m xs x zs less e found is =
    append_assoc xs (x ∷ []) (run_at (most - (k + 1)) m q)
    ∙ ap (λ more. xs ++ more) (sym (run_more most k p q m less e ∙ ap (λ o. run_with o (run_at (most - (k + 1)) m q)) found))
    ∙ is

pub first_run_found : {A : Type 0} (p : ℕ) (m : Places A) → RisingFrom 0 m → first_position m ≡ Some p → first_run m
    ≡ Some (p, run_at (page_size - p % page_size) m p)
first_run_found {A} p m h e = first_run_at m h ∙ ap (λ (o : Option ℕ). elim o as (λ o. Option (ℕ × List A))
    [ None ↦ None | Some q ↦ Some (q, run_at (page_size - q % page_size) m q) ]) e

same_test : (extent : Extent) (p : ℕ) → range_contains nat_cmp (Included extent.first) (Included extent.last) p ≡ is_in extent p
same_test extent p = by (nat_lt extent.first p) (nat_eq extent.first p) (nat_lt extent.last p) (nat_eq extent.last p)
    (nat_le extent.first p) (nat_le p extent.last) refl refl refl refl refl refl
  where
    by : (a b c d u v : Bool) → nat_lt extent.first p ≡ a → nat_eq extent.first p ≡ b → nat_lt extent.last p ≡ c → nat_eq extent.last p ≡ d
        → nat_le extent.first p ≡ u → nat_le p extent.last ≡ v → is_le (cond a Less (cond b Equal Greater))
        && not (is_lt (cond c Less (cond d Equal Greater))) ≡ u && v
    by a b c d u v ea eb ec ed eu ev = grind (arith, nat_tests)

-- by the two tests of a range of std
pub between_inside : {A : Type 0} (extent : Extent) (m : Places A)
    → entries_between nat_cmp (Included extent.first) (Included extent.last) m ≡ inside extent m
between_inside extent [] = refl
between_inside {A} extent (e ∷ m) = by (range_contains nat_cmp (Included extent.first) (Included extent.last) e.0) (is_in extent e.0)
    (same_test extent e.0) (between_inside extent m)
  where
    by : (v w : Bool) → v ≡ w → entries_between nat_cmp (Included extent.first) (Included extent.last) m ≡ inside extent m
        → cond v (e ∷ entries_between nat_cmp (Included extent.first) (Included extent.last) m)
        (entries_between nat_cmp (Included extent.first) (Included extent.last) m) ≡ cond w (e ∷ inside extent m) (inside extent m)
    by true true same rest = ap (λ more. e ∷ more) rest
    by false false same rest = rest
    by true false same rest = absurd (cc)
    by false true same rest = absurd (cc)

pub found_all : {A : Type 0} (k p : ℕ) (x : A) (m : Places A) → AllBelow k m → found_at m p ≡ Some x → p < k
found_all k p x [] h e = absurd (not_both x e)
found_all {A} k p x (d ∷ m) h e = by (nat_eq p d.0) refl e (λ there. found_all k p x m h.1 there)
  where
    by : (v : Bool) → nat_eq p d.0 ≡ v → (if v then Some d.1 else found_at m p) ≡ Some x → (found_at m p ≡ Some x → p < k) → p < k
    by true here e rest = grind (arith, nat_tests, h.0)
    by false here e rest = rest e

pub run_fits : {A : Type 0} (k j p : ℕ) (m : Places A) → AllBelow k m → p ≤ k → p + length (run_at j m p) ≤ k
run_fits k zero p m h less = omega (arith, less)
run_fits {A} k (suc j) p m h less = by (found_at m p) refl (λ more. run_fits k j (p + 1) m h more)
  where
    by : (o : Option A) → found_at m p ≡ o → (p + 1 ≤ k → p + 1 + length (run_at j m (p + 1)) ≤ k)
        → p + length (run_with o (run_at j m (p + 1))) ≤ k
    by None found rest = omega (arith, less)
    by (Some x) found rest = let here : p < k = found_all k p x m h found in omega (arith, rest (omega (arith, here)))

-- one more is looked up
pub found_step : {A : Type 0} (most k p q : ℕ) (m : Places A) (xs zs : List (Option A)) → k < most → q ≡ p + 1 → xs
    ++ found_run (most - k) m p ≡ zs → (xs ++ found_at m p ∷ []) ++ found_run (most - (k + 1)) m q ≡ zs
found_step {A} most k p q m xs zs less e is = append_assoc xs (found_at m p ∷ []) (found_run (most - (k + 1)) m q)
    ∙ ap (λ more. xs ++ more) (sym (by (most - (k + 1)) (most - k) (omega (arith, less))
    ∙ ap (λ r. found_at m p ∷ found_run (most - (k + 1)) m r) (sym e))) ∙ is
  where
    by : (j i : ℕ) → i ≡ j + 1 → found_run i m p ≡ found_at m p ∷ found_run j m (p + 1)
    by j zero is = absurd (omega (arith, is))
    by j (suc i) is = let same : i ≡ j = omega (arith, is) in ap (λ r. found_at m p ∷ found_run r m (p + 1)) same

-- ---- the end

-- the last of a rising map ends it
pub end_snoc : {A : Type 0} (n : ℕ) (m : Places A) (e : ℕ × A) → RisingFrom n (m ++ e ∷ []) → (n ≤ e.0) × (end_of (m ++ e ∷ []) ≡ e.0 + 1)
end_snoc n [] e h = (h.0, omega arith)
end_snoc n (d ∷ m) e h = let rest = end_snoc (d.0 + 1) m e h.1 in (omega (arith, h.0, rest.0), omega (arith, rest.0, rest.1))

pub below_snoc : {A : Type 0} (k : ℕ) (m : Places A) (e : ℕ × A) → AllBelow k (m ++ e ∷ []) → e.0 < k
below_snoc k [] e h = h.0
below_snoc k (d ∷ m) e h = below_snoc k m e h.1
