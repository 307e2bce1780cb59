-- Where transactions rise, those up to a number stand in front.
use Rattle.std.proofs.Common.{◌⊎◌, inl, inr, ◌≡◌, subst, ℕ, zero, suc, ◌+◌, ◌<◌, ◌≤◌, Bool, true, false, cond, List, [], ◌∷◌, length, take}
use Rattle.std.proofs.Common.{drop, filter, get_or, refl, ap, arith}
use Rattle.std.specs.Prelude.{AllPairs, nat_le, nat_lt}
use Rattle.std.specs.List.Sorted.{IsPartitionedBy, IsPartitionPoint}
use Rattle.std.proofs.lemmas.Bool.{cases_lt}
use Rattle.std.proofs.lemmas.Bool.Decides.{nat_tests}
use Rattle.lu_txn.specs.declared.logs.Logged.{Logged}
use Rattle.lu_txn.specs.Logs.{number, up_to, above}

-- all in front are up to the number, and none after them
pub record IsCut (to count : ℕ) (transactions : List Logged) : Type 0 where
  pub front : (k : ℕ) (d : Logged) → k < count → k < length transactions → nat_le (number (get_or transactions k d)) to ≡ true
  pub rest : (k : ℕ) (d : Logged) → count ≤ k → k < length transactions → nat_le (number (get_or transactions k d)) to ≡ false

later : (to count : ℕ) (first : Logged) (transactions : List Logged) → IsCut to (suc count) (first ∷ transactions)
    → IsCut to count transactions
later to count first transactions cut = record {
  front = λ k d below within. cut.front (suc k) d (omega arith) (omega arith);
  rest = λ k d past within. cut.rest (suc k) d (omega arith) (omega arith);
}

past_all : (to : ℕ) (first : Logged) (transactions : List Logged) → IsCut to 0 (first ∷ transactions) → IsCut to 0 transactions
past_all to first transactions cut = record {
  front = λ k d below within. absurd (omega arith);
  rest = λ k d past within. cut.rest (suc k) d (omega arith) (omega arith);
}

pub cut_front : (to count : ℕ) (transactions : List Logged) → IsCut to count transactions → take count transactions ≡ up_to to transactions
cut_front to zero [] cut = refl
cut_front to (suc count) [] cut = refl
cut_front to zero (first ∷ transactions) cut =
    let none : nat_le (number first) to ≡ false = cut.rest 0 first (omega arith) (omega arith) in
    rw none (cut_front to 0 transactions (past_all to first transactions cut))
cut_front to (suc count) (first ∷ transactions) cut =
    let this : nat_le (number first) to ≡ true = cut.front 0 first (omega arith) (omega arith) in
    rw this (ap (λ more. first ∷ more) (cut_front to count transactions (later to count first transactions cut)))

pub cut_rest : (to count : ℕ) (transactions : List Logged) → IsCut to count transactions → drop count transactions ≡ above to transactions
cut_rest to zero [] cut = refl
cut_rest to (suc count) [] cut = refl
cut_rest to zero (first ∷ transactions) cut =
    let none : nat_le (number first) to ≡ false = cut.rest 0 first (omega arith) (omega arith) in
    let this : nat_lt to (number first) ≡ true = grind (arith, nat_tests) in
    rw this (ap (λ more. first ∷ more) (cut_rest to 0 transactions (past_all to first transactions cut)))
cut_rest to (suc count) (first ∷ transactions) cut =
    let up : nat_le (number first) to ≡ true = cut.front 0 first (omega arith) (omega arith) in
    let this : nat_lt to (number first) ≡ false = grind (arith, nat_tests) in
    rw this (cut_rest to count transactions (later to count first transactions cut))

-- what a binary search for the first one past the number finds
pub parted : (to : ℕ) (transactions : List Logged) → AllPairs (λ earlier later. number earlier < number later) transactions
    → IsPartitionedBy (λ logged. nat_le (number logged) to) transactions
parted to transactions rises = λ i j d below within after. by i j d within after (cases_lt i j) below where
  by : (i j : ℕ) (d : Logged) → j < length transactions → nat_le (number (get_or transactions j d)) to ≡ true → (i < j) ⊎ (j ≤ i) → i ≤ j
      → nat_le (number (get_or transactions i d)) to ≡ true
  by i j d within after (inl less) below =
      let rise : number (get_or transactions i d) < number (get_or transactions j d) = rises i j d less within in
      grind (arith, nat_tests)
  by i j d within after (inr more) below = let same : j ≡ i = omega arith
      in subst (λ k. nat_le (number (get_or transactions k d)) to ≡ true) same after

pub cut_at : (to count : ℕ) (transactions : List Logged) → IsPartitionPoint (λ logged. nat_le (number logged) to ≡ true)
    (λ logged. nat_le (number logged) to ≡ false) transactions count → IsCut to count transactions
cut_at to count transactions point = record {
  front = λ k d below within. point.0 k d (omega arith) below;
  rest = λ k d past within. point.1 k d past within;
}
