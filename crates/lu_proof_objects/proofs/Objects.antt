-- An object of a target, offset by offset.
use Rattle.std.proofs.Common.{◌≡◌, ℕ, suc, ◌-◌, Bool, true, false, List, [], ◌∷◌, Option, Some, None, refl, ap, ◌∙◌, arith}
use Rattle.std.specs.Prelude.{nat_eq, nat_lt, if◌then◌else◌}
use Rattle.std.proofs.lemmas.Bool.Decides.{nat_tests}
use Rattle.lu_spec_machine.specs.Places.{found_at}
use Rattle.lu_spec_machine.specs.Objects.{Object, put_bytes, cut_bytes, object_size}
use Rattle.lu_spec_machine.proofs.Places.{found_laid, end_past, end_last}
use Rattle.lu_spec_machine.proofs.Objects.{object_cuts}
use Rattle.lu_proof_bytes.specs.Object.Words.{value, overlay, cut_at}
use Rattle.lu_proof_bytes.specs.Object.Folds.{is_some}
use Rattle.lu_proof_objects.specs.Alike.{ObjectChanged, ObjectEnds}
use Rattle.lu_proof_objects.proofs.Runs.{run_is}

put_is : (object : Object) (p at : ℕ) (bs : List ℕ) → found_at (put_bytes at bs object) p ≡ overlay at bs p (found_at object p)
put_is object p at [] = refl
put_is object p at (b ∷ bs) = found_laid at (b ∷ bs) object p ∙ run_is at (b ∷ bs) p (found_at object p)

cut_is : (object : Object) (p n : ℕ) → found_at (cut_bytes n object) p ≡ cut_at n p (found_at object p)
cut_is object p n = by (nat_lt p n) refl (nat_eq (suc p) n) refl (found_at object p) refl
  where
    by : (u : Bool) → nat_lt p n ≡ u → (v : Bool) → nat_eq (suc p) n ≡ v → (x : Option ℕ) → found_at object p ≡ x
        → found_at (cut_bytes n object) p ≡ (if u then (if v then Some (value x) else x) else None)
    by false u v last x e = (object_cuts n object).drops p (grind (arith, nat_tests))
    by true u true last None e = (object_cuts n object).zero p (grind (arith, nat_tests)) e
    by true u true last (Some b) e = (object_cuts n object).keeps p b (grind (arith, nat_tests)) e
    by true u false last x e = (object_cuts n object).leaves p (grind (arith, nat_tests)) ∙ e

pub object_changed : ObjectChanged
object_changed object p = record { put = λ at bs. put_is object p at bs; cut = λ n. cut_is object p n }

pub object_ends : ObjectEnds
object_ends object p = record { past = end_past object p; last = λ e. some (found_at object p) refl e }
  where
    some : (x : Option ℕ) → found_at object p ≡ x → suc p ≡ object_size object → is_some x ≡ true
    some (Some b) f e = refl
    some None f e = absurd (end_last object (omega (arith, e)) (ap (found_at object)
        (let q : object_size object - 1 ≡ p = omega (arith, e) in q) ∙ f))
