-- A cut is: a zero where the last offset has no byte, and then what stands below.
use Rattle.std.proofs.Common.{◌≡◌, ℕ, ◌+◌, ◌-◌, ◌<◌, ◌≤◌, ◌⊎◌, inl, inr, Bool, true, false, List, [], ◌∷◌, length, Option, Some, None, refl}
use Rattle.std.proofs.Common.{sym, ap, ◌∙◌, subst, arith}
use Rattle.std.specs.Prelude.{nat_eq, nat_lt, is_some, if◌then◌else◌}
use Rattle.std.proofs.lemmas.Bool.{eq-eqb}
use Rattle.std.proofs.lemmas.Bool.Decides.{nat_tests}
use Rattle.lu_spec_machine.specs.Places.{found_at, RisingFrom, below, laid}
use Rattle.lu_spec_machine.specs.Objects.{Object, put_bytes, cut_bytes}
use Rattle.lu_spec_machine.proofs.Places.{overlay, found_filter, found_laid, before_run, at_run, rising_below, rising_laid}
use Rattle.lu_spec_machine.proofs.Objects.{object_cuts}
use Rattle.lu_spec_bytes.proofs.Rising.{same_map}

-- some bytes put are laid
pub put_is_laid : (offset : ℕ) (bytes : List ℕ) (object : Object) → 0 < length bytes → laid offset bytes object
    ≡ put_bytes offset bytes object
put_is_laid offset [] object some = absurd (omega (arith, some))
put_is_laid offset (b ∷ bs) object some = refl

-- an offset is before the last, the last, or past it
split : (n q : ℕ) → nat_lt q n ≡ true → (q + 1 < n) ⊎ (q + 1 ≡ n)
split n q less = grind (arith, nat_tests)

pub cut_kept : (n b : ℕ) (object : Object) → 0 < n → RisingFrom 0 object → found_at object (n - 1) ≡ Some b → below n object
    ≡ cut_bytes n object
cut_kept n b object some rises there = same_map 0 (below n object) (cut_bytes n object) (rising_below 0 n object rises)
    ((object_cuts n object).rises rises) (λ q h. found_filter (λ p. nat_lt p n) object q ∙ by q (nat_lt q n) refl)
  where
    at_last : (q : ℕ) → q + 1 ≡ n → found_at object q ≡ found_at (cut_bytes n object) q
    at_last q is =
        let place : n - 1 ≡ q = omega (arith, is) in
        let here : found_at object q ≡ Some b = subst (λ p. found_at object p ≡ Some b) place there in
        here ∙ sym ((object_cuts n object).keeps q b (omega (arith, is)) here)

    kept : (q : ℕ) → (q + 1 < n) ⊎ (q + 1 ≡ n) → found_at object q ≡ found_at (cut_bytes n object) q
    kept q (inl less) = sym ((object_cuts n object).leaves q less)
    kept q (inr is) = at_last q is

    by : (q : ℕ) (v : Bool) → nat_lt q n ≡ v → (if v then found_at object q else None) ≡ found_at (cut_bytes n object) q
    by q true less = kept q (split n q less)
    by q false less = sym ((object_cuts n object).drops q (grind (arith, nat_tests)))

pub cut_added : (n : ℕ) (object : Object) → 0 < n → RisingFrom 0 object → found_at object (n - 1) ≡ None
    → below n (laid (n - 1) (0 ∷ []) object) ≡ cut_bytes n object
cut_added n object some rises there =
    same_map 0 (below n added) (cut_bytes n object) (rising_below 0 n added (rising_laid (n - 1) (0 ∷ []) object rises))
    ((object_cuts n object).rises rises)
    (λ q h. found_filter (λ p. nat_lt p n) added q ∙ ap (λ x. if nat_lt q n then x else None) (found_laid (n - 1) (0 ∷ []) object q)
    ∙ by q (nat_lt q n) refl)
  where
    added : Object
    added = laid (n - 1) (0 ∷ []) object

    at_last : (q : ℕ) → q + 1 ≡ n → overlay (n - 1) (0 ∷ []) q (found_at object q) ≡ found_at (cut_bytes n object) q
    at_last q is =
        let place : n - 1 ≡ q = omega (arith, is) in
        let here : found_at object q ≡ None = subst (λ p. found_at object p ≡ None) place there in
        let test : nat_eq q (n - 1) ≡ true = eq-eqb q (n - 1) (sym place) in
        rw test (sym ((object_cuts n object).zero q is here))

    kept : (q : ℕ) → (q + 1 < n) ⊎ (q + 1 ≡ n) → overlay (n - 1) (0 ∷ []) q (found_at object q) ≡ found_at (cut_bytes n object) q
    kept q (inl less) = before_run (n - 1) (0 ∷ []) q (found_at object q) (omega (arith, less)) ∙ sym ((object_cuts n object).leaves q less)
    kept q (inr is) = at_last q is

    by : (q : ℕ) (v : Bool) → nat_lt q n ≡ v → (if v then overlay (n - 1) (0 ∷ []) q (found_at object q) else None)
        ≡ found_at (cut_bytes n object) q
    by q true less = kept q (split n q less)
    by q false less = sym ((object_cuts n object).drops q (grind (arith, nat_tests)))

-- what is cut to nothing
pub below_zero : (object : Object) → below 0 object ≡ cut_bytes 0 object
below_zero [] = refl
below_zero (e ∷ object) = let past : nat_lt e.0 0 ≡ false = grind (arith, nat_tests) in rw past (below_zero object)

-- by whether the last offset has a byte
pub cut_where_some : (n : ℕ) (object : Object) → 0 < n → RisingFrom 0 object → is_some (found_at object (n - 1)) ≡ true → below n object
    ≡ cut_bytes n object
cut_where_some n object some rises there = by (found_at object (n - 1)) refl there
  where
    by : (x : Option ℕ) → found_at object (n - 1) ≡ x → is_some x ≡ true → below n object ≡ cut_bytes n object
    by None is h = absurd (cc (h))
    by (Some b) is h = cut_kept n b object some rises is

pub cut_where_none : (n : ℕ) (object : Object) → 0 < n → RisingFrom 0 object → is_some (found_at object (n - 1)) ≡ false
    → below n (laid (n - 1) (0 ∷ []) object) ≡ cut_bytes n object
cut_where_none n object some rises there = by (found_at object (n - 1)) refl there
  where
    by : (x : Option ℕ) → found_at object (n - 1) ≡ x → is_some x ≡ false → below n (laid (n - 1) (0 ∷ []) object) ≡ cut_bytes n object
    by None is h = cut_added n object some rises is
    by (Some b) is h = absurd (cc (h))
