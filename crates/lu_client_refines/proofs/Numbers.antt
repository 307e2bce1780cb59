-- Sets of numbers that are kept in rising order: those that are put in, and those above a number.
use Rattle.std.proofs.Common.{◌≡◌, ℕ, ◌≤◌, Bool, true, false, cond, nat_lt, if◌then◌else◌, List, [], ◌∷◌, filter, refl, sym, ap, ◌∙◌, arith}
use Rattle.std.proofs.lemmas.Bool.Decides.{nat_tests}
use Rattle.lu_spec_client.specs.Imports.{with_number, with_numbers}

-- those above a number, of those above a lesser one
pub filter_above : {A : Type 0} (key : A → ℕ) (low high : ℕ) → low ≤ high → (xs : List A)
    → filter (λ x. nat_lt high (key x)) (filter (λ x. nat_lt low (key x)) xs) ≡ filter (λ x. nat_lt high (key x)) xs
filter_above key low high most [] = refl
filter_above key low high most (x ∷ xs) = by (nat_lt low (key x)) (nat_lt high (key x)) refl refl (filter_above key low high most xs) where
  above : nat_lt low (key x) ≡ false → nat_lt high (key x) ≡ true → ⊥
  above e f = grind (arith, nat_tests)

  by : (a b : Bool) → nat_lt low (key x) ≡ a → nat_lt high (key x) ≡ b
      → filter (λ y. nat_lt high (key y)) (filter (λ y. nat_lt low (key y)) xs) ≡ filter (λ y. nat_lt high (key y)) xs
      → filter (λ y. nat_lt high (key y)) (cond a (x ∷ filter (λ y. nat_lt low (key y)) xs) (filter (λ y. nat_lt low (key y)) xs))
      ≡ cond b (x ∷ filter (λ y. nat_lt high (key y)) xs) (filter (λ y. nat_lt high (key y)) xs)
  by true true e f rest = rw f (ap (λ ys. x ∷ ys) rest)
  by true false e f rest = rw f rest
  by false true e f rest = absurd (above e f)
  by false false e f rest = rest

-- ---- numbers that are put in

-- one twice is one once
pub number_again : (n : ℕ) (ms : List ℕ) → with_number n (with_number n ms) ≡ with_number n ms
number_again n [] = grind (arith, nat_tests)
number_again n (m ∷ ms) = grind (arith, nat_tests, number_again n ms)

-- two in either order
pub number_order : (a b : ℕ) (ms : List ℕ) → with_number a (with_number b ms) ≡ with_number b (with_number a ms)
number_order a b [] = grind (arith, nat_tests)
number_order a b (m ∷ ms) = grind (arith, nat_tests, number_order a b ms)

-- one and then some, or some and then one
pub numbers_order : (n : ℕ) (ns ms : List ℕ) → with_number n (with_numbers ns ms) ≡ with_numbers ns (with_number n ms)
numbers_order n [] ms = refl
numbers_order n (k ∷ ns) ms = numbers_order n ns (with_number k ms) ∙ ap (with_numbers ns) (number_order n k ms)

-- some twice are some once
pub numbers_again : (ns ms : List ℕ) → with_numbers ns (with_numbers ns ms) ≡ with_numbers ns ms
numbers_again [] ms = refl
numbers_again (n ∷ ns) ms =
    ap (with_numbers ns) (numbers_order n ns (with_number n ms) ∙ ap (with_numbers ns) (number_again n ms))
    ∙ numbers_again ns (with_number n ms)

-- ---- of those that are put in, those above a number

number_above : (c n : ℕ) (ms : List ℕ) → filter (nat_lt c) (with_number n ms)
    ≡ (if nat_lt c n then with_number n (filter (nat_lt c) ms) else filter (nat_lt c) ms)
number_above c n [] = grind (arith, nat_tests)
number_above c n (m ∷ ms) = grind (arith, nat_tests, number_above c n ms)

-- of some that were put in
pub numbers_above : (c : ℕ) (ns ms : List ℕ) → filter (nat_lt c) (with_numbers ns ms)
    ≡ with_numbers (filter (nat_lt c) ns) (filter (nat_lt c) ms)
numbers_above c [] ms = refl
numbers_above c (n ∷ ns) ms = numbers_above c ns (with_number n ms) ∙ ap (with_numbers (filter (nat_lt c) ns)) (number_above c n ms)
    ∙ by (nat_lt c n) where
      by : (above : Bool) → with_numbers (filter (nat_lt c) ns) (if above then with_number n (filter (nat_lt c) ms) else filter (nat_lt c) ms)
          ≡ with_numbers (cond above (n ∷ filter (nat_lt c) ns) (filter (nat_lt c) ns)) (filter (nat_lt c) ms)
      by true = refl
      by false = refl

-- numbers that are there already are no change, beside those that aren't above a number
pub numbers_there : (c : ℕ) (ns ms : List ℕ) → filter (nat_lt c) (with_numbers ns (filter (nat_lt c) (with_numbers ns ms)))
    ≡ filter (nat_lt c) (with_numbers ns ms)
numbers_there c ns ms =
    let now : List ℕ = with_numbers ns ms in
    numbers_above c ns (filter (nat_lt c) now)
    ∙ ap (with_numbers (filter (nat_lt c) ns)) (filter_above (λ n. n) c c (omega arith) now)
    ∙ sym (numbers_above c ns now)
    ∙ ap (filter (nat_lt c)) (numbers_again ns ms)
