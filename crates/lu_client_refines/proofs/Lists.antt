-- Small facts on lists and tests.
use Rattle.std.proofs.Common.{◌≡◌, ℕ, suc, ◌==◌, ◌&&◌, Bool, true, false, List, drop, refl, arith}
use Rattle.std.specs.Prelude.{slice_set}
use Rattle.std.proofs.lemmas.Bool.Decides.{nat_tests}
use Rattle.std.proofs.lemmas.List.{drop-set-lt}

-- a number is itself
pub self : (n : ℕ) → (n == n) ≡ true
self n = grind (arith, nat_tests)

-- two tests that hold together
pub both_true : (a b : Bool) → (a && b) ≡ true → (a ≡ true) × (b ≡ true)
both_true true b all = (refl, all)
both_true false b all = absurd (cc)

-- an element was put in its place: what comes after it stays
pub drop_past : {A : Type 0} (k : ℕ) (xs : List A) (x : A) → drop (suc k) (slice_set xs k x) ≡ drop (suc k) xs
drop_past k xs x = drop-set-lt (suc k) xs k x (omega arith)
