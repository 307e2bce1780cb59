-- Lists of places: what a list has, and places that rise.
use Rattle.std.proofs.Common.{◌≡◌, ℕ, suc, ◌+◌, ◌<◌, ◌≤◌, ◌==◌, ◌||◌, Bool, true, false, List, [], ◌∷◌, ◌++◌, length, get_or, refl, subst}
use Rattle.std.proofs.Common.{arith}
use Rattle.std.specs.Prelude.{Contains, ⊤}
use Rattle.std.specs.List.{list_any, dedup}
use Rattle.std.specs.List.Sorted.{IsStrictlyIncreasing}
use Rattle.std.proofs.lemmas.Bool.Decides.{nat_tests}
use Rattle.std.proofs.lemmas.Bool.{eqb-true, eq-eqb}
use Rattle.std.proofs.lemmas.List.Folds.{Any-from_list_any, list_any_at, list_any-append}
use Rattle.std.proofs.lemmas.List.Kept.{Contains-dedup_nat}
use Rattle.lu_part.specs.Places.{has}

-- a number that a list has stands in it, and the other way round
pub contains_from_has : (numbers : List ℕ) (n : ℕ) → has numbers n ≡ true → Contains numbers n
contains_from_has numbers n h = found (Any-from_list_any (λ m. m == n) numbers h) where
  found : (k : ℕ) × (x : ℕ) × (k < length numbers) × (get_or numbers k x ≡ x) × ((x == n) ≡ true) → Contains numbers n
  found (k, x, within, at, same) = let e : x ≡ n = eqb-true x n same in subst (Contains numbers) e (k, within, at)

pub has_from_contains : (numbers : List ℕ) (n : ℕ) → Contains numbers n → has numbers n ≡ true
has_from_contains numbers n (k, within, at) = list_any_at (λ m. m == n) numbers k n within (rw at (eq-eqb n n refl))

pub has_dedup : (numbers : List ℕ) (n : ℕ) → has numbers n ≡ true → has (dedup (λ a b. a == b) numbers) n ≡ true
has_dedup numbers n h = has_from_contains (dedup (λ a b. a == b) numbers) n (Contains-dedup_nat numbers n (contains_from_has numbers n h))

-- a list has its first number, its second, its last, and what its parts have
pub has_first : (n : ℕ) (numbers : List ℕ) → has (n ∷ numbers) n ≡ true
has_first n numbers = rw (eq-eqb n n refl) refl

pub or_true : (a : Bool) → (a || true) ≡ true
or_true true = refl
or_true false = refl

pub has_second : (m n : ℕ) (numbers : List ℕ) → has (m ∷ n ∷ numbers) n ≡ true
has_second m n numbers = rw (has_first n numbers) (or_true (m == n))

pub has_left : (xs ys : List ℕ) (n : ℕ) → has xs n ≡ true → has (xs ++ ys) n ≡ true
has_left xs ys n h = rw (list_any-append (λ m. m == n) xs ys, h) refl

pub has_right : (xs ys : List ℕ) (n : ℕ) → has ys n ≡ true → has (xs ++ ys) n ≡ true
has_right xs ys n h = rw (list_any-append (λ m. m == n) xs ys, h) (or_true (has xs n))

pub has_last : (xs : List ℕ) (n : ℕ) → has (xs ++ n ∷ []) n ≡ true
has_last xs n = has_right xs (n ∷ []) n (has_first n [])

-- places that rise, from a place on
abbrev pub Rise : ℕ → List ℕ → Type 0
Rise from [] = ⊤
Rise from (place ∷ places) = (from ≤ place) × Rise (place + 1) places

pub rise_lower : (low from : ℕ) (places : List ℕ) → low ≤ from → Rise from places → Rise low places
rise_lower low from [] below rise = rise
rise_lower low from (place ∷ places) below rise = (omega (arith, rise.0), rise.1)

pub rises : (from : ℕ) (places : List ℕ) → (0 < length places → from ≤ get_or places 0 0) → IsStrictlyIncreasing places → Rise from places
rises from [] first increasing = tt
rises from (place ∷ places) first increasing = (
  first (omega arith),
  rises (place + 1) places (λ some. let next : place < get_or places 0 0 = increasing 0 (omega arith)
      in omega arith) (λ k within. step k (increasing (suc k) (omega arith))),
)
  where
    step : (k : ℕ) → get_or places k 0 < get_or (place ∷ places) (suc k + 1) 0 → get_or places k 0 < get_or places (k + 1) 0
    step k less = let e : suc k + 1 ≡ suc (k + 1) = omega arith in subst (λ j. get_or places k 0 < get_or (place ∷ places) j 0) e less

pub not_before : (from n : ℕ) (places : List ℕ) → n < from → Rise from places → has places n ≡ false
not_before from n [] below rise = refl
not_before from n (place ∷ places) below rise =
    let other : (place == n) ≡ false = grind (arith, nat_tests, rise.0) in
    rw other (not_before (place + 1) n places (omega (arith, rise.0)) rise.1)
