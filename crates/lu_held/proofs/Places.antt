-- Where a name goes among names in order.
use Rattle.std.proofs.Common.{◌≡◌, ℕ, zero, suc, ◌<◌, ◌≤◌, Bool, true, false, List, [], ◌∷◌, length, get_or, refl, ap, subst, arith}
use Rattle.std.specs.Prelude.{AllPairs, nat_lt}
use Rattle.std.specs.List.{insert}
use Rattle.std.specs.List.Sorted.{IsPartitionedBy, IsPartitionPoint}
use Rattle.std.proofs.lemmas.Bool.Decides.{nat_tests}
use Rattle.lu_held.specs.declared.names.LockName.{LockName}
use Rattle.lu_held.specs.Names.{is_before, with_name, IsEarlier}
use Rattle.lu_held.proofs.Choices.{transitive}

pub placed : (name : LockName) (names : List LockName) (at : ℕ) → at ≤ length names
    → IsPartitionPoint (λ other. is_before other name ≡ true) (λ other. is_before other name ≡ false) names at → insert names at name
    ≡ with_name name names
placed name [] zero within point = refl
placed name [] (suc at) within point = absurd (omega arith)
placed name (first ∷ names) zero within point =
    let back : is_before first name ≡ false = point.1 0 first (omega arith) (omega arith) in
    rw back refl
placed name (first ∷ names) (suc at) within point =
    let ahead : is_before first name ≡ true = point.0 0 first (omega arith) (omega arith) in
    rw ahead (ap (λ more. first ∷ more) (placed name names at (omega arith)
    (λ k d low high. point.0 (suc k) d (omega arith) (omega arith), λ k d low high. point.1 (suc k) d (omega arith) (omega arith))))

pub parted : (name : LockName) (names : List LockName) → AllPairs IsEarlier names → IsPartitionedBy (λ other. is_before other name) names
parted name names rising i j d low high ahead = by (nat_lt i j) refl where
  by : (less : Bool) → nat_lt i j ≡ less → is_before (get_or names i d) name ≡ true
  by true e =
      let less : i < j = grind (arith, nat_tests) in
      transitive (get_or names i d) (get_or names j d) name (rising i j d less high) ahead
  by false e =
      let same : j ≡ i = grind (arith, nat_tests) in
      subst (λ k. is_before (get_or names k d) name ≡ true) same ahead
