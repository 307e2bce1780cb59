-- Facts on options, results and tests.
use Rattle.std.proofs.Common.{◌≡◌, ℕ, Bool, true, false, cond, Option, Some, None, Result, Ok, Err, refl, List}
use Rattle.std.specs.Str.{bytes_eq}
use Rattle.std.proofs.lemmas.Slice.Eq.{bytes_eq-Decides}
use Rattle.lu_scene.specs.declared.faults.Fault.{Fault}
use Rattle.lu_scene.specs.Fields.{◌>>=◌, or_fault}

-- an option that is never Some is None
pub none_from : {A : Type 0} (o : Option A) → ((x : A) → o ≡ Some x → ⊥) → o ≡ None
none_from None never = refl
none_from (Some x) never = absurd (never x refl)

-- the same bytes are equal
pub same_bytes : (xs ys : List ℕ) → xs ≡ ys → bytes_eq xs ys ≡ true
same_bytes xs ys e = (bytes_eq-Decides xs ys).1 e

pub bytes_same : (xs ys : List ℕ) → bytes_eq xs ys ≡ true → xs ≡ ys
bytes_same xs ys e = (bytes_eq-Decides xs ys).0 e

abbrev good : (A E : Type 0) → A → Result A E
good A E x = Ok x

-- the value of a step that did not fail
pub bind_ok : {A B E : Type 0} (r : Result A E) (f : A → Result B E) (y : B) → (r >>= f) ≡ Ok y → (x : A) × (r ≡ Ok x) × (f x ≡ Ok y)
bind_ok (Ok x) f y e = (x, refl, e)
bind_ok (Err d) f y e = absurd cc

-- a value that there was
pub or_fault_ok : {A : Type 0} (fault : Fault) (o : Option A) (x : A) → or_fault fault o ≡ Ok x → o ≡ Some x
or_fault_ok fault (Some y) x e = cc
or_fault_ok fault None x e = absurd cc

-- a test that did not fail
pub guard_ok : {A : Type 0} (b : Bool) (d : Fault) (x y : A) → cond b (Ok x) (Err d) ≡ Ok y → (b ≡ true) × (x ≡ y)
guard_ok true d x y e = (refl, cc)
guard_ok false d x y e = absurd cc

abbrev pub fine : {A : Type 0} → A → Result A Fault
fine x = Ok x

pub ok_is : {A : Type 0} (x y : A) → fine x ≡ fine y → x ≡ y
ok_is x y e = cc

-- one value has one `Ok`
pub ok_value : {A E : Type 0} (x y : A) → good A E x ≡ good A E y → x ≡ y
ok_value x y e = cc

abbrev bad : (A E : Type 0) → E → Result A E
bad A E e = Err e

-- one error has one `Err`
pub err_value : {A E : Type 0} (x y : E) → bad A E x ≡ bad A E y → x ≡ y
err_value x y e = cc
