-- What replies teach, as the code finds it.
use Rattle.std.proofs.Common.{◌≡◌, ℕ, suc, ◌-◌, ◌==◌, Bool, true, false, List, [], ◌∷◌, length, Option, Some, None, refl, ap, ◌∙◌, arith}
use Rattle.std.specs.Prelude.{slice_get}
use Rattle.std.proofs.lemmas.Bool.Decides.{nat_tests}
use Rattle.lu_base.specs.declared.locks.Lock.{Lock}
use Rattle.lu_base.specs.declared.ids.Fid.{Fid}
use Rattle.lu_msg.specs.declared.answers.Answer.{Answer}
use Rattle.lu_spec_client.specs.Facts.{root, last_of, is_one_for_each, name_facts, names_taught}

-- the last lock
pub last_is : (locks : List Lock) → slice_get locks (length locks - 1) ≡ last_of locks
last_is [] = refl
last_is (l ∷ []) = refl
last_is (l ∷ m ∷ locks) =
    let e : length (l ∷ m ∷ locks) - 1 ≡ suc (length (m ∷ locks) - 1) = omega arith in
    rw e (last_is (m ∷ locks))

-- one for each
pub one_for_each : {A B : Type 0} (xs : List A) (ys : List B) → is_one_for_each xs ys ≡ (length xs == length ys)
one_for_each [] [] = refl
one_for_each [] (y ∷ ys) = grind (arith, nat_tests)
one_for_each (x ∷ xs) [] = grind (arith, nat_tests)
one_for_each (x ∷ xs) (y ∷ ys) = grind (arith, nat_tests, one_for_each xs ys)

pub taught_all : (kind : Fid → Answer) (path : List (List ℕ)) (locks : List Lock) → (length path == length locks) ≡ true
    → name_facts kind root path locks ≡ names_taught kind path locks
taught_all kind path locks same = rw (one_for_each path locks, same) refl

pub taught_none : (kind : Fid → Answer) (path : List (List ℕ)) (locks : List Lock) → (length path == length locks) ≡ false → []
    ≡ names_taught kind path locks
taught_none kind path locks same = rw (one_for_each path locks, same) refl
