-- The count of a stripe's offsets below a position is that of the layout, and bytes on a stripe come one by one.
use Rattle.std.proofs.Common.{◌≡◌, ℕ, suc, ◌+◌, ◌-◌, ◌%◌, ◌<◌, ◌≤◌, List, [], ◌∷◌, ◌++◌, length, take, get_or, Bool, true, false, refl, sym}
use Rattle.std.proofs.Common.{ap, ◌∙◌, subst, arith}
use Rattle.std.specs.Prelude.{nat_lt, nat_eq, ◌==◌, if◌then◌else◌}
use Rattle.std.proofs.lemmas.Bool.Decides.{nat_tests}
use Rattle.std.proofs.lemmas.List.{take_more, length-take-le, append-nil}
use Rattle.lu_layout.specs.Raid0.{Raid0, stripe_of, offset_of, below_of}
use Rattle.lu_layout.specs.Sound.{IsLayout}
use Rattle.lu_layout.proofs.Below.{IsCount-is, IsCount-le, IsCount-below_of, before_reached, at_reached, after_reached}
use Rattle.lu_spec_client.specs.Stripes.{below_on, bytes_on}

pub below_is : (l : Raid0) (i n : ℕ) → IsLayout l → i < length l.targets → below_of l i n ≡ below_on l i n
below_is l i n good in_range = by (nat_lt i (stripe_of l n)) (nat_eq i (stripe_of l n)) refl refl
  where
    by : (v w : Bool) → nat_lt i (stripe_of l n) ≡ v → nat_eq i (stripe_of l n) ≡ w → below_of l i n
        ≡ (if v then offset_of l n - n % l.size + l.size else if w then offset_of l n else offset_of l n - n % l.size)
    by true w less same = sym (IsCount-is l i n (offset_of l n - n % l.size + l.size) good in_range
        (before_reached l i n (stripe_of l n) (offset_of l n) l.size good refl refl refl (grind (arith, nat_tests))))
    by false true less same = sym (IsCount-is l i n (offset_of l n) good in_range
        (at_reached l i n (stripe_of l n) (offset_of l n) good refl refl (grind (arith, nat_tests))))
    by false false less same = sym (IsCount-is l i n (offset_of l n - n % l.size) good in_range
        (after_reached l i n (stripe_of l n) (offset_of l n) l.size good refl refl refl (grind (arith, nat_tests)) in_range))

abbrev pub if_on : Bool → ℕ → List ℕ
if_on true b = b ∷ []
if_on false b = []

on_more : (l : Raid0) (i p q : ℕ) (xs : List ℕ) (b : ℕ) → q ≡ p + length xs → bytes_on l i p (xs ++ b ∷ []) ≡ bytes_on l i p xs
    ++ if_on (stripe_of l q == i) b
on_more l i p q [] b e = subst (λ r. bytes_on l i p (b ∷ []) ≡ if_on (stripe_of l r == i) b) (sym (e ∙ omega arith))
    (by (stripe_of l p == i))
  where
    by : (v : Bool) → (if v then b ∷ [] else []) ≡ if_on v b
    by true = refl
    by false = refl
on_more l i p q (x ∷ xs) b e = by (stripe_of l p == i) (on_more l i (p + 1) q xs b (omega (arith, e)))
  where
    by : (v : Bool) → bytes_on l i (p + 1) (xs ++ b ∷ []) ≡ bytes_on l i (p + 1) xs ++ if_on (stripe_of l q == i) b
        → (if v then x ∷ bytes_on l i (p + 1) (xs ++ b ∷ []) else bytes_on l i (p + 1) (xs ++ b ∷ []))
        ≡ (if v then x ∷ bytes_on l i (p + 1) xs else bytes_on l i (p + 1) xs) ++ if_on (stripe_of l q == i) b
    by true ih = ap (λ more. x ∷ more) ih
    by false ih = ih

-- one turn of the loop that picks them
picked : (l : Raid0) (i p k : ℕ) (bytes : List ℕ) → k < length bytes → bytes_on l i p (take (k + 1) bytes) ≡ bytes_on l i p (take k bytes)
    ++ if_on (stripe_of l (p + k) == i) (get_or bytes k 0)
picked l i p k bytes less =
    ap (λ xs. bytes_on l i p xs) (take_more bytes k 0 less)
    ∙ on_more l i p (p + k) (take k bytes) (get_or bytes k 0) (ap (λ n. p + n) (sym (length-take-le k bytes (omega (arith, less)))))

pub on_short : (l : Raid0) (i p : ℕ) (bytes : List ℕ) → length (bytes_on l i p bytes) ≤ length bytes
on_short l i p [] = omega arith
on_short l i p (b ∷ bytes) = by (stripe_of l p == i) (on_short l i (p + 1) bytes)
  where
    by : (v : Bool) → length (bytes_on l i (p + 1) bytes) ≤ length bytes
        → length (if v then b ∷ bytes_on l i (p + 1) bytes else bytes_on l i (p + 1) bytes) ≤ length (b ∷ bytes)
    by true ih = omega (arith, ih)
    by false ih = omega (arith, ih)

pub picks_on : (l : Raid0) (i p k : ℕ) (bytes : List ℕ) → k < length bytes → stripe_of l (p + k) ≡ i → bytes_on l i p (take (k + 1) bytes)
    ≡ bytes_on l i p (take k bytes) ++ get_or bytes k 0 ∷ []
picks_on l i p k bytes less e =
    let test : nat_eq (stripe_of l (p + k)) i ≡ true = grind (arith, nat_tests) in
    picked l i p k bytes less ∙ ap (λ v. bytes_on l i p (take k bytes) ++ if_on v (get_or bytes k 0)) test

pub picks_not : (l : Raid0) (i p k : ℕ) (bytes : List ℕ) → k < length bytes → (stripe_of l (p + k) ≡ i → ⊥)
    → bytes_on l i p (take (k + 1) bytes) ≡ bytes_on l i p (take k bytes)
picks_not l i p k bytes less e =
    let test : nat_eq (stripe_of l (p + k)) i ≡ false = grind (arith, nat_tests, e) in
    picked l i p k bytes less ∙ ap (λ v. bytes_on l i p (take k bytes) ++ if_on v (get_or bytes k 0)) test
    ∙ append-nil (bytes_on l i p (take k bytes))

-- ---- where a run of bytes ends

if_length : (v : Bool) (b : ℕ) → length (if_on v b) ≡ (if v then 1 else 0)
if_length true b = refl
if_length false b = refl

below_more : (l : Raid0) (i n : ℕ) → below_of l i (suc n) ≡ below_of l i n + (if stripe_of l n == i then 1 else 0)
unfolding below_of
below_more l i n = refl

at_same : (l : Raid0) (i m n : ℕ) → m ≡ n → below_of l i m ≡ below_of l i n
at_same l i m n e = ap (λ (k : ℕ). below_of l i k) e

-- the bytes on a stripe stand for the offsets between the counts at the two ends
run_counts : (l : Raid0) (i p : ℕ) (bytes : List ℕ) → below_of l i p + length (bytes_on l i p bytes) ≡ below_of l i (p + length bytes)
run_counts l i p [] = let same = at_same l i p (p + 0) (omega arith) in omega arith
run_counts l i p (b ∷ bytes) =
    by (stripe_of l p == i) (run_counts l i (p + 1) bytes) (at_same l i (p + 1) (suc p) (omega arith) ∙ below_more l i p)
    (at_same l i (p + 1 + length bytes) (p + length (b ∷ bytes)) (omega arith))
  where
    by : (v : Bool) → below_of l i (p + 1) + length (bytes_on l i (p + 1) bytes) ≡ below_of l i (p + 1 + length bytes)
        → below_of l i (p + 1) ≡ below_of l i p + (if v then 1 else 0)
        → below_of l i (p + 1 + length bytes) ≡ below_of l i (p + length (b ∷ bytes))
        → below_of l i p + length (if v then b ∷ bytes_on l i (p + 1) bytes else bytes_on l i (p + 1) bytes)
        ≡ below_of l i (p + length (b ∷ bytes))
    by true ih next end = omega (arith, ih, next, end)
    by false ih next end = omega (arith, ih, next, end)

-- and end at most where the bytes end in the file
pub run_fits : (l : Raid0) (i p : ℕ) (bytes : List ℕ) → IsLayout l → i < length l.targets
    → below_of l i p + length (bytes_on l i p bytes) ≤ p + length bytes
run_fits l i p bytes good in_range =
    let least : below_of l i (p + length bytes) ≤ p + length bytes =
    IsCount-le l i (p + length bytes) (below_of l i (p + length bytes)) good (IsCount-below_of l i (p + length bytes) good in_range) in
    omega (arith, run_counts l i p bytes)
