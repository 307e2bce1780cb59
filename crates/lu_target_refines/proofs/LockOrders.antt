-- Lists in another order: what passes a test, and how far a lock grows beside them.
use Rattle.std.proofs.Common.{◌≡◌, ℕ, zero, suc, ◌<◌, Bool, true, false, cond, List, [], ◌∷◌, ◌++◌, length, filter, get_or, set, max, min}
use Rattle.std.proofs.Common.{refl, sym, ◌∙◌, ap, subst, arith, IsPermutation}
use Rattle.std.specs.Prelude.{if◌then◌else◌}
use Rattle.std.specs.List.{list_any, swap}
use Rattle.std.proofs.lemmas.List.Edits.{swap_is}
use Rattle.std.proofs.lemmas.List.Sorted.{IsPermutation-refl, IsPermutation-trans, IsPermutation-cons, IsPermutation-middle}
use Rattle.std.proofs.lemmas.List.Sorted.{IsPermutation-keeps}
use Rattle.lu_base.specs.declared.locks.Ask.{Ask}
use Rattle.lu_base.specs.declared.locks.Extent.{Extent}
use Rattle.lu_base.specs.declared.locks.Mode.{Mode}
use Rattle.lu_base.specs.declared.locks.Policy.{Policy}
use Rattle.lu_base.specs.declared.locks.Policy.TheVariants.{Bits, Range}
use Rattle.lu_lock.specs.Overlap.{extents_meet}
use Rattle.lu_lock.specs.Growth.{opposing, past_below, before_above, grown_extent, granted_policy, granted_ask}
use Rattle.lu_lock.proofs.GrowthLaws.{past_below-append, before_above-append, opposing-append}

-- ---- what holds between lists whose neighbours changed places holds between all lists of the same items

module _ {X : Type 0} (R : List X → List X → Type 0) (same : (xs : List X) → R xs xs)
    (along : (xs ys zs : List X) → R xs ys → R ys zs → R xs zs)
    (behind : (x : X) (xs ys : List X) → R xs ys → R (x ∷ xs) (x ∷ ys))
    (turned : (x y : X) (xs : List X) → R (x ∷ y ∷ xs) (y ∷ x ∷ xs)) where
  -- the first in the place of another
  put_first : (x : X) (xs : List X) (k : ℕ) → k < length xs → R (x ∷ xs) (get_or xs k x ∷ set xs k x)
  put_first x [] k within = absurd (omega arith)
  put_first x (y ∷ xs) zero within = turned x y xs
  put_first x (y ∷ xs) (suc k) within =
      along (x ∷ y ∷ xs) (y ∷ x ∷ xs) (get_or xs k x ∷ y ∷ set xs k x) (turned x y xs)
      (along (y ∷ x ∷ xs) (y ∷ get_or xs k x ∷ set xs k x) (get_or xs k x ∷ y ∷ set xs k x)
      (behind y (x ∷ xs) (get_or xs k x ∷ set xs k x) (put_first x xs k (omega arith)))
      (turned y (get_or xs k x) (set xs k x)))

  swapped : (xs : List X) (i j : ℕ) → i < length xs → j < length xs → R xs (swap xs i j)
  swapped [] i j a b = absurd (omega arith)
  swapped (x ∷ xs) zero zero a b = same (x ∷ xs)
  swapped (x ∷ xs) zero (suc j) a b = put_first x xs j (omega arith)
  swapped (x ∷ xs) (suc i) zero a b = put_first x xs i (omega arith)
  swapped (x ∷ xs) (suc i) (suc j) a b =
      let e : swap xs i j ≡ set (set xs i (get_or xs j x)) j (get_or xs i x) = sym (swap_is xs i j x (omega arith) (omega arith)) in
      behind x xs (set (set xs i (get_or xs j x)) j (get_or xs i x)) (subst (R xs) e (swapped xs i j (omega arith) (omega arith)))

  pub of_permutation : (xs ys : List X) → IsPermutation xs ys → R xs ys
  of_permutation xs ys moved = IsPermutation-keeps xs (R xs) (same xs) (λ zs i j a b so. along xs zs (swap zs i j) so (swapped zs i j a b))
      ys moved

-- ---- what passes a test

cons_if : {X : Type 0} (v : Bool) (x : X) (xs ys : List X) → IsPermutation xs ys → IsPermutation (cond v (x ∷ xs) xs) (cond v (x ∷ ys) ys)
cons_if true x xs ys moved = IsPermutation-cons x xs ys moved
cons_if false x xs ys moved = moved

neighbours : {X : Type 0} (v w : Bool) (x y : X) (xs : List X) →
    IsPermutation (cond v (x ∷ cond w (y ∷ xs) xs) (cond w (y ∷ xs) xs)) (cond w (y ∷ cond v (x ∷ xs) xs) (cond v (x ∷ xs) xs))
neighbours true true x y xs = IsPermutation-middle (x ∷ []) y xs
neighbours true false x y xs = IsPermutation-refl (x ∷ xs)
neighbours false true x y xs = IsPermutation-refl (y ∷ xs)
neighbours false false x y xs = IsPermutation-refl xs

pub IsPermutation-filter : {X : Type 0} (test : X → Bool) (xs ys : List X) → IsPermutation xs ys
    → IsPermutation (filter test xs) (filter test ys)
IsPermutation-filter test xs ys moved =
    of_permutation (λ us vs. IsPermutation (filter test us) (filter test vs)) (λ us. IsPermutation-refl (filter test us))
    (λ us vs ws a b. IsPermutation-trans (filter test us) (filter test vs) (filter test ws) a b)
    (λ x us vs a. cons_if (test x) x (filter test us) (filter test vs) a)
    (λ x y us. neighbours (test x) (test y) x y (filter test us)) xs ys moved

-- ---- how far a lock grows

past_more : (offset : ℕ) (mode : Mode) (ask : Ask) (asks : List Ask) →
    past_below offset (opposing mode (ask ∷ asks)) ≡ max (past_below offset (opposing mode (ask ∷ [])))
    (past_below offset (opposing mode asks))
past_more offset mode ask asks =
    ap (past_below offset) (opposing-append mode (ask ∷ []) asks) ∙ past_below-append offset (opposing mode (ask ∷ [])) (opposing mode asks)

before_more : (offset : ℕ) (mode : Mode) (ask : Ask) (asks : List Ask) →
    before_above offset (opposing mode (ask ∷ asks)) ≡ min (before_above offset (opposing mode (ask ∷ [])))
    (before_above offset (opposing mode asks))
before_more offset mode ask asks =
    ap (before_above offset) (opposing-append mode (ask ∷ []) asks)
    ∙ before_above-append offset (opposing mode (ask ∷ [])) (opposing mode asks)

pub past_permuted : (offset : ℕ) (mode : Mode) (xs ys : List Ask) → IsPermutation xs ys →
    past_below offset (opposing mode xs) ≡ past_below offset (opposing mode ys)
past_permuted offset mode xs ys moved =
    of_permutation (λ us vs. past us ≡ past vs) (λ us. refl) (λ us vs ws a b. a ∙ b)
    (λ x us vs a. past_more offset mode x us ∙ ap (max (past (x ∷ []))) a ∙ sym (past_more offset mode x vs))
    (λ x y us.
    let a = past_more offset mode x (y ∷ us) in
    let b = past_more offset mode y us in
    let c = past_more offset mode y (x ∷ us) in
    let d = past_more offset mode x us in
    omega (arith, a, b, c, d)) xs ys moved
  where
    past : List Ask → ℕ
    past asks = past_below offset (opposing mode asks)

pub before_permuted : (offset : ℕ) (mode : Mode) (xs ys : List Ask) → IsPermutation xs ys →
    before_above offset (opposing mode xs) ≡ before_above offset (opposing mode ys)
before_permuted offset mode xs ys moved =
    of_permutation (λ us vs. before us ≡ before vs) (λ us. refl) (λ us vs ws a b. a ∙ b)
    (λ x us vs a. before_more offset mode x us ∙ ap (min (before (x ∷ []))) a ∙ sym (before_more offset mode x vs))
    (λ x y us.
    let a = before_more offset mode x (y ∷ us) in
    let b = before_more offset mode y us in
    let c = before_more offset mode y (x ∷ us) in
    let d = before_more offset mode x us in
    omega (arith, a, b, c, d)) xs ys moved
  where
    before : List Ask → ℕ
    before asks = before_above offset (opposing mode asks)

grown_alike : (asked : Extent) (xs ys waiting : List Extent) → past_below asked.first xs ≡ past_below asked.first ys →
    before_above asked.last xs ≡ before_above asked.last ys → grown_extent asked xs waiting ≡ grown_extent asked ys waiting
grown_alike asked xs ys waiting low high = by (list_any (extents_meet asked) waiting) where
  lower : past_below asked.first (xs ++ waiting) ≡ past_below asked.first (ys ++ waiting)
  lower =
      past_below-append asked.first xs waiting ∙ ap (λ n. max n (past_below asked.first waiting)) low
      ∙ sym (past_below-append asked.first ys waiting)

  upper : before_above asked.last (xs ++ waiting) ≡ before_above asked.last (ys ++ waiting)
  upper =
      before_above-append asked.last xs waiting ∙ ap (λ n. min n (before_above asked.last waiting)) high
      ∙ sym (before_above-append asked.last ys waiting)

  extent : List Extent → Extent
  extent others = record { first = past_below asked.first (others ++ waiting); last = before_above asked.last (others ++ waiting) }

  by : (met : Bool) → (if met then asked else extent xs) ≡ (if met then asked else extent ys)
  by true = refl
  by false = λ i. record { first = lower i; last = upper i }

-- the order of the granted locks doesn't matter
pub granted_permuted : (ask : Ask) (xs ys waiting : List Ask) → IsPermutation xs ys → granted_ask ask xs waiting
    ≡ granted_ask ask ys waiting
granted_permuted ask xs ys waiting moved = λ i. record ask { policy = same i } where
  by : (policy : Policy) → ask.policy ≡ policy → granted_policy ask xs waiting ≡ granted_policy ask ys waiting
  by (Bits bits) e = rw e refl
  by (Range asked) e = rw e (ap Range (grown_alike asked (opposing ask.mode xs) (opposing ask.mode ys) (opposing ask.mode waiting)
      (past_permuted asked.first ask.mode xs ys moved) (before_permuted asked.last ask.mode xs ys moved)))

  same : granted_policy ask xs waiting ≡ granted_policy ask ys waiting
  same = by ask.policy refl
