-- A layout of the product is a layout of the file: it has its stripes, each with all offsets; and the size of a file through it is that by
-- the
-- sizes of its objects.
use Rattle.std.proofs.Common.{◌≡◌, ℕ, zero, suc, ◌<◌, ◌≤◌, ◌+◌, Bool, true, false, length, max, refl, sym, ap, ◌∙◌, arith, add-one}
use Rattle.std.specs.Prelude.{◌↔◌, ◌&&◌, nat_eq, nat_lt, if◌then◌else◌, map}
use Rattle.std.specs.List.{range_with_len}
use Rattle.std.proofs.lemmas.Bool.{eqb-true, ltb-true, ltb-false}
use Rattle.std.proofs.lemmas.Bool.Decides.{nat_tests}
use Rattle.lu_layout.specs.Raid0.{Raid0, stripe_of, offset_of, position_of, below_of, end_of, greatest_end, file_size_of}
use Rattle.lu_layout.specs.Sound.{IsLayout}
use Rattle.lu_layout.proofs.Places.{position_of-place, stripe_of-lt, position_of-lt}
use Rattle.lu_layout.proofs.Below.{IsCount-below_of}
use Rattle.lu_proof_bytes.specs.Files.Layouts.{Layout, top, tops}

pub is_below : (a b : ℕ) → a < b → nat_lt a b ≡ true
is_below a b l = grind (arith, nat_tests, l)

pub same_test : (q m x n : ℕ) → (q < m) ↔ (x < n) → nat_lt q m ≡ nat_lt x n
same_test q m x n e = by (nat_lt q m) refl (nat_lt x n) refl
  where
    by : (u : Bool) → nat_lt q m ≡ u → (v : Bool) → nat_lt x n ≡ v → u ≡ v
    by true f true g = refl
    by false f false g = refl
    by true f false g = absurd (let a = e.0 (ltb-true q m f) in let b = ltb-false x n g in omega (arith, a, b))
    by false f true g = absurd (let a = e.1 (ltb-true x n g) in let b = ltb-false q m f in omega (arith, a, b))

-- no position lies on a stripe that the layout lacks
none_below : (l : Raid0) (i n : ℕ) → IsLayout l → length l.targets ≤ i → below_of l i n ≡ 0
unfolding below_of
none_below l i zero good high = refl
none_below l i (suc n) good high = by (nat_eq (stripe_of l n) i) refl (none_below l i n good high)
  where
    by : (v : Bool) → nat_eq (stripe_of l n) i ≡ v → below_of l i n ≡ 0 → below_of l i n + (if v then 1 else 0) ≡ 0
    by true e ih = absurd (let same = eqb-true (stripe_of l n) i e in let lt = stripe_of-lt l n good in omega (arith, same, lt, high))
    by false e ih = omega (arith, ih)

pub below_there : (l : Raid0) (i n q : ℕ) → IsLayout l → q < below_of l i n → i < length l.targets
below_there l i n q good low = by (nat_lt i (length l.targets)) refl
  where
    by : (v : Bool) → nat_lt i (length l.targets) ≡ v → i < length l.targets
    by true e = ltb-true i (length l.targets) e
    by false e = absurd (let none = none_below l i n good (ltb-false i (length l.targets) e) in omega (arith, none, low))

pub rising : (l : Raid0) (i q r : ℕ) → IsLayout l → q ≤ r → position_of l i q ≤ position_of l i r
rising l i q r good le = by (nat_eq q r) refl
  where
    by : (v : Bool) → nat_eq q r ≡ v → position_of l i q ≤ position_of l i r
    by true e = let same = ap (λ (k : ℕ). position_of l i k) (eqb-true q r e) in omega (arith, same)
    by false e = let less = position_of-lt l i q r good (grind (arith, nat_tests, e, le)) in omega (arith, less)

pub capped : (v : Bool) (q e : ℕ) → nat_lt q (if v then e else 0) ≡ (nat_lt q e && v)
capped true q e = grind (arith, nat_tests)
capped false q e = grind (arith, nat_tests)

abbrev pub striped : (l : Raid0) → IsLayout l → Layout
striped l good = record {
  stripes = length l.targets;
  has = λ i q. nat_lt i (length l.targets);
  stripe = stripe_of l;
  offset = offset_of l;
  position = position_of l;
  below = below_of l;
  cap = λ i e. if nat_lt i (length l.targets) then e else 0;
  low = λ p. stripe_of-lt l p good;
  inside = λ p. is_below (stripe_of l p) (length l.targets) (stripe_of-lt l p good);
  there = λ p. position_of-place l p good;
  rises = λ i q r h le. rising l i q r good le;
  begins = λ i q r h le. h;
  below_is = λ i n q h. same_test q (below_of l i n) (position_of l i q) n
      ((IsCount-below_of l i n good (ltb-true i (length l.targets) h)).counts q);
  below_has = λ i n q low. is_below i (length l.targets) (below_there l i n q good low);
  cap_is = λ i e q. capped (nat_lt i (length l.targets)) q e;
}

-- ---- sizes

top_is : (l : Raid0) (good : IsLayout l) (i e : ℕ) → top (striped l good) i e ≡ end_of l i e
top_is l good i zero = refl
top_is l good i (suc q) = sym (add-one (position_of l i q))

ends_from : (l : Raid0) (good : IsLayout l) (sizes : ℕ → ℕ) (a n : ℕ) → a + n ≤ length l.targets
    → max (tops (striped l good) sizes a) (greatest_end l a (map sizes (range_with_len a n))) ≡ tops (striped l good) sizes (a + n)
unfolding greatest_end
ends_from l good sizes a zero le =
    let z : tops (striped l good) sizes (a + 0) ≡ tops (striped l good) sizes a =
    ap (λ (k : ℕ). tops (striped l good) sizes k) (omega arith) in
    omega (arith, z)
ends_from l good sizes a (suc n) le =
    let ih = ends_from l good sizes (suc a) n (omega (arith, le)) in
    let here : (if nat_lt a (length l.targets) then sizes a else 0) ≡ sizes a = rw (is_below a (length l.targets) (omega (arith, le))) refl
    in
    let one : top (striped l good) a (if nat_lt a (length l.targets) then sizes a else 0) ≡ end_of l a (sizes a) =
    ap (λ (e : ℕ). top (striped l good) a e) here ∙ top_is l good a (sizes a) in
    let next : greatest_end l (suc a) (map sizes (range_with_len (a + 1) n))
    ≡ greatest_end l (suc a) (map sizes (range_with_len (suc a) n)) =
    ap (λ (k : ℕ). greatest_end l (suc a) (map sizes (range_with_len k n))) (add-one a) in
    let last : tops (striped l good) sizes (suc a + n) ≡ tops (striped l good) sizes (a + suc n) =
    ap (λ (k : ℕ). tops (striped l good) sizes k) (omega arith) in
    omega (arith, ih, one, next, last)

-- the size of the file through the layout
pub tops_is : (l : Raid0) (good : IsLayout l) (sizes : ℕ → ℕ) → tops (striped l good) sizes (length l.targets)
    ≡ file_size_of l (map sizes (range_with_len 0 (length l.targets)))
tops_is l good sizes =
    let all = ends_from l good sizes 0 (length l.targets) (omega arith) in
    let same : tops (striped l good) sizes (length l.targets) ≡ tops (striped l good) sizes (0 + length l.targets) =
    ap (λ (k : ℕ). tops (striped l good) sizes k) (omega arith) in
    omega (arith, all, same)
