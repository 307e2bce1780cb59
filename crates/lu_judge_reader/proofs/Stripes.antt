-- Layouts: the tests for stripe sizes and targets are those of the definition.
use Rattle.std.proofs.Common.{◌≡◌, ℕ, zero, suc, ◌%◌, ◌<◌, ◌==◌, true, not, ◌&&◌, List, [], ◌∷◌, length, get_or, Some, None, Result, Err}
use Rattle.std.proofs.Common.{refl, sym, ap, ◌∙◌, arith, inl, inr}
use Rattle.std.specs.Prelude.{slice_index}
use Rattle.std.specs.List.{list_any}
use Rattle.std.proofs.lemmas.Bool.{true≢false, ltb-true, lt-ltb, leb-true, le-leb, eqb-true, eq-eqb, and_parts, and_from}
use Rattle.std.proofs.lemmas.Bool.{false_from_ne_true, not_from_false, not-true, cond-true, cond-false}
use Rattle.std.proofs.lemmas.List.Folds.{Any-from_list_any, list_any-from_Any}
use Rattle.lu_layout.specs.Raid0.{Raid0}
use Rattle.lu_layout.specs.Sound.{IsStripeSize, IsBadSize, AreDistinct, AreStripes, IsBadCount, IsLayout}
use Rattle.lu_layout.specs.declared.layout.LayoutError.{LayoutError}
use Rattle.lu_layout.specs.declared.layout.LayoutError.TheVariants.{BadSize, BadCount}
use Rattle.lu_judge_reader.specs.Lists.{is_stripe_size, are_distinct, are_stripes, striped}

same_at : (xs : List ℕ) (i d e : ℕ) → i < length xs → get_or xs i d ≡ get_or xs i e
same_at [] i d e within = absurd (omega (arith, within))
same_at (x ∷ xs) zero d e within = refl
same_at (x ∷ xs) (suc i) d e within = same_at xs i d e (omega (arith, within))

fewer : (x : ℕ) (xs : List ℕ) → AreDistinct (x ∷ xs) → AreDistinct xs
fewer x xs all i j p q e = let same = all (suc i) (suc j) (omega (arith, p)) (omega (arith, q)) e in omega (arith, same)

-- distinct numbers pass the test
pub distinct_from : (xs : List ℕ) → AreDistinct xs → are_distinct xs ≡ true
distinct_from [] all = refl
distinct_from (x ∷ xs) all =
    and_from (not (list_any (λ y. y == x) xs)) (are_distinct xs) (not_from_false _ (false_from_ne_true _ again))
    (distinct_from xs (fewer x xs all))
  where
    again : list_any (λ y. y == x) xs ≡ true → ⊥
    again e =
        let a = Any-from_list_any (λ y. y == x) xs e in
        let same : slice_index xs a.0 ≡ x = same_at xs a.0 0 a.1 a.2 ∙ a.3 ∙ eqb-true a.1 x a.4 in
        let zero_is = all 0 (suc a.0) (omega arith) (omega (arith, a.2)) (sym same) in
        omega (arith, zero_is)

-- numbers that pass the test have no repeat
no_repeat : (xs : List ℕ) (i j : ℕ) → are_distinct xs ≡ true → i < j → j < length xs → slice_index xs i ≡ slice_index xs j → ⊥
no_repeat [] i j test less within e = omega (arith, within)
no_repeat (x ∷ xs) i zero test less within e = omega (arith, less)
no_repeat (x ∷ xs) zero (suc j) test less within e =
    let parts = and_parts (not (list_any (λ y. y == x) xs)) (are_distinct xs) test in
    let at : get_or xs j x ≡ x = same_at xs j x 0 (omega (arith, within)) ∙ sym e in
    let some : list_any (λ y. y == x) xs ≡ true = list_any-from_Any (λ y. y == x) xs (j, x, omega (arith, within), at, eq-eqb x x refl) in
    true≢false (sym some ∙ not-true (list_any (λ y. y == x) xs) parts.0)
no_repeat (x ∷ xs) (suc i) (suc j) test less within e =
    no_repeat xs i j (and_parts (not (list_any (λ y. y == x) xs)) (are_distinct xs) test).1 (omega (arith, less)) (omega (arith, within)) e

size_from : (n : ℕ) → IsStripeSize n → is_stripe_size n ≡ true
size_from n is = and_from _ _ (and_from _ _ (lt-ltb 0 n is.0) (eq-eqb (n % 65536) 0 is.1)) (le-leb n 4294901760 is.2)

size_true : (n : ℕ) → is_stripe_size n ≡ true → IsStripeSize n
size_true n test =
    let a = and_parts _ _ test in
    let b = and_parts _ _ a.0 in
    (ltb-true 0 n b.0, eqb-true (n % 65536) 0 b.1, leb-true n 4294901760 a.1)

stripes_from : (xs : List ℕ) → AreStripes xs → are_stripes xs ≡ true
stripes_from xs are = and_from _ _ (and_from _ _ (lt-ltb 0 (length xs) are.0) (le-leb (length xs) 8 are.1)) (distinct_from xs are.2)

stripes_true : (xs : List ℕ) → are_stripes xs ≡ true → IsBadCount xs → ⊥
stripes_true xs test bad =
    let a = and_parts _ _ test in
    let b = and_parts _ _ a.0 in
    let some = ltb-true 0 (length xs) b.0 in
    let few = leb-true (length xs) 8 b.1 in
    elim bad [
      | inl none ↦ omega (arith, some, none)
      | inr other ↦ elim other [
        | inl many ↦ omega (arith, few, many)
        | inr twice
            ↦ no_repeat xs twice.0 twice.1 a.1 twice.2 twice.3 twice.4
      ]
    ]

bad_size : (n : ℕ) → IsStripeSize n → IsBadSize n → ⊥
bad_size n is bad =
    let low = is.0 in
    let even = is.1 in
    let high = is.2 in
    elim bad [
      | inl none ↦ omega (arith, low, none)
      | inr other ↦ elim other [ inl odd ↦ omega (arith, even, odd) | inr large ↦ omega (arith, high, large) ]
    ]

-- a layout is read
pub striped_ok : (size : ℕ) (targets : List ℕ) (l : Raid0) → l ≡ record { size = size; targets = targets }
    → IsLayout (record { size = size; targets = targets }) → striped size targets ≡ Some l
unfolding striped
striped_ok size targets l is sound =
    cond-true (is_stripe_size size && are_stripes targets) (Some (record { size = size; targets = targets })) None
    (and_from _ _ (size_from size sound.size) (stripes_from targets sound.targets))
    ∙ ap (λ (m : Raid0). Some m) (sym is)

never : (size : ℕ) (targets : List ℕ) → (IsStripeSize size → are_stripes targets ≡ true → ⊥) → striped size targets ≡ None
unfolding striped
never size targets not_both =
    cond-false (is_stripe_size size && are_stripes targets) (Some (record { size = size; targets = targets })) None
    (false_from_ne_true _ (λ e. let parts = and_parts (is_stripe_size size) (are_stripes targets) e
    in not_both (size_true size parts.0) parts.1))

-- what is no layout isn't read
pub striped_err : (size : ℕ) (targets : List ℕ) (r : Result Raid0 LayoutError) (e : LayoutError) → r ≡ Err e
    → (r ≡ Err BadSize → IsBadSize size)
    → (r ≡ Err BadCount → IsStripeSize size × IsBadCount targets) → striped size targets ≡ None
striped_err size targets r BadSize is by_size by_count = never size targets (λ good test. bad_size size good (by_size is))
striped_err size targets r BadCount is by_size by_count = never size targets (λ good test. stripes_true targets test (by_count is).1)
