-- Objects in a map by resource, against the list in order of arrival.
use Rattle.std.proofs.Common.{◌≡◌, ℕ, Bool, true, false, cond, List, [], ◌∷◌, Option, Some, None, refl, sym, ap, ◌∙◌, Bor, arith}
use Rattle.std.specs.Option.{option_copied}
use Rattle.std.specs.Prelude.{IfSome, IfNone, nat_eq, ◌==◌, ◌&&◌, if◌then◌else◌}
use Rattle.std.specs.Map.{lookup, set_value}
use Rattle.indexmap.specs.IndexMap.{IndexMap, insert_entry}
use Rattle.std.proofs.lemmas.Bool.Decides.{nat_tests}
use Rattle.lu_base.specs.declared.locks.Resource.{Resource}
use Rattle.lu_spec_machine.specs.Objects.{Object}
use Rattle.lu_service.specs.Contents.{same_resource, object_in, with_object}

flip : (m n : ℕ) → nat_eq m n ≡ nat_eq n m
flip m n = by (nat_eq m n) (nat_eq n m) refl refl
  where
    by : (v w : Bool) → nat_eq m n ≡ v → nat_eq n m ≡ w → v ≡ w
    by true true one two = refl
    by true false one two = absurd (grind (arith, nat_tests))
    by false true one two = absurd (grind (arith, nat_tests))
    by false false one two = refl

-- the resource that is sought is the first
pub sought : (r k : Resource) → (nat_eq r.fid.0 k.fid.0 && nat_eq r.stripe k.stripe) ≡ same_resource k r
sought r k = ap (λ v. v && nat_eq r.stripe k.stripe) (flip r.fid.0 k.fid.0) ∙ ap (λ w. nat_eq k.fid.0 r.fid.0 && w) (flip r.stripe k.stripe)

some_is : (x y : Object) → Some x ≡ Some y → x ≡ y
some_is x y e = cc

module _ (test : Resource → Bool) (r : Resource) (agrees : (k : Resource) → test k ≡ same_resource k r) where
  pub found_is : (es : List (Resource × Object)) (x : Object) → lookup test es ≡ Some x → object_in es r ≡ x
  found_is [] x found = absurd (cc (found))
  found_is (e ∷ es) x found = ap (λ v. if v then e.1 else object_in es r) (sym (agrees e.0)) ∙ by (test e.0) found (found_is es x)
    where
      by : (v : Bool) → cond v (Some e.1) (lookup test es) ≡ Some x → (lookup test es ≡ Some x → object_in es r ≡ x)
          → (if v then e.1 else object_in es r) ≡ x
      by true found rest = some_is e.1 x found
      by false found rest = rest found

  pub none_is : (es : List (Resource × Object)) → lookup test es ≡ None → object_in es r ≡ []
  none_is [] none = refl
  none_is (e ∷ es) none = ap (λ v. if v then e.1 else object_in es r) (sym (agrees e.0)) ∙ by (test e.0) none (none_is es)
    where
      by : (v : Bool) → cond v (Some e.1) (lookup test es) ≡ None → (lookup test es ≡ None → object_in es r ≡ [])
          → (if v then e.1 else object_in es r) ≡ []
      by true none rest = absurd (cc (none))
      by false none rest = rest none

  pub set_is : (es : List (Resource × Object)) (x old : Object) → lookup test es ≡ Some old → set_value test es x ≡ with_object r x es
  set_is [] x old found = absurd (cc (found))
  set_is (e ∷ es) x old found = by (test e.0) found (set_is es x old)
      ∙ ap (λ v. if v then (e.0, x) ∷ es else e ∷ with_object r x es) (agrees e.0)
    where
      by : (v : Bool) → cond v (Some e.1) (lookup test es) ≡ Some old
          → (lookup test es ≡ Some old → set_value test es x ≡ with_object r x es)
          → cond v ((e.0, x) ∷ es) (e ∷ set_value test es x) ≡ (if v then (e.0, x) ∷ es else e ∷ with_object r x es)
      by true found rest = refl
      by false found rest = ap (λ more. e ∷ more) (rest found)

  pub set_same : (es : List (Resource × Object)) (x : Object) → lookup test es ≡ Some x → set_value test es x ≡ es
  set_same [] x found = refl
  set_same (e ∷ es) x found = by (test e.0) found (set_same es x)
    where
      by : (v : Bool) → cond v (Some e.1) (lookup test es) ≡ Some x → (lookup test es ≡ Some x → set_value test es x ≡ es)
          → cond v ((e.0, x) ∷ es) (e ∷ set_value test es x) ≡ e ∷ es
      by true found rest = ap (λ y. (e.0, y) ∷ es) (sym (some_is e.1 x found))
      by false found rest = ap (λ more. e ∷ more) (rest found)

  -- what a look-up borrows
  pub found_some : (o : Option (Bor Object)) (es : List (Resource × Object)) → option_copied o ≡ lookup test es
      → IfSome o (λ x. x.now ≡ object_in es r)
  found_some None es is = tt
  found_some (Some b) es is = sym (found_is es b.now (sym is))

  pub found_none : (o : Option (Bor Object)) (es : List (Resource × Object)) → option_copied o ≡ lookup test es
      → IfNone o (object_in es r ≡ [])
  found_none None es is = none_is es (sym is)
  found_none (Some b) es is = tt

  -- what is written through a borrow
  pub written_through : (f : Object → Object) (es all after : List (Resource × Object)) (old new : Object) → Some old ≡ lookup test es
      → after ≡ set_value test es new → new ≡ f old → es ≡ all
      → after ≡ with_object r (f (object_in all r)) all
  written_through f es all after old new found is made same =
      is ∙ set_is es new old (sym found) ∙ ap (λ x. with_object r x es) (made ∙ ap f (sym (found_is es old (sym found))))
      ∙ ap (λ m. with_object r (f (object_in m r)) m) same

  pub kept_through : (es all after : List (Resource × Object)) (old new : Object) → Some old ≡ lookup test es → after
      ≡ set_value test es new → new ≡ old → es ≡ all → after ≡ all
  kept_through es all after old new found is made same = is ∙ ap (set_value test es) made ∙ set_same es old (sym found) ∙ same

  -- a new object, where there was none
  pub begun_new : (f : Object → Object) (es all kept : List (Resource × Object)) (new fresh : Object) → None ≡ lookup test es → es ≡ all
      → kept ≡ all → new ≡ f fresh → fresh ≡ []
      → with_object r new kept ≡ with_object r (f (object_in all r)) all
  begun_new f es all kept new fresh none same stays made empty =
      ap (with_object r new) stays ∙ ap (λ o. with_object r o all)
      (made ∙ ap f (empty ∙ sym (none_is es (sym none)) ∙ ap (λ m. object_in m r) same))

pub entries_same : {S : Type 0} {one other : IndexMap Resource Object S} → one ≡ other → one.entries ≡ other.entries
entries_same {S} e = ap (λ (m : IndexMap Resource Object S). m.entries) e

pub inserted : (eq : Resource → Resource → Bool) (r : Resource) → ((k : Resource) → eq r k ≡ same_resource k r)
    → (es : List (Resource × Object)) (x : Object) → insert_entry eq es r x ≡ with_object r x es
inserted eq r agrees [] x = refl
inserted eq r agrees (e ∷ es) x = by (eq r e.0) (inserted eq r agrees es x)
    ∙ ap (λ v. if v then (e.0, x) ∷ es else e ∷ with_object r x es) (agrees e.0)
  where
    by : (v : Bool) → insert_entry eq es r x ≡ with_object r x es → (if v then (e.0, x) ∷ es else e ∷ insert_entry eq es r x)
        ≡ (if v then (e.0, x) ∷ es else e ∷ with_object r x es)
    by true rest = refl
    by false rest = ap (λ more. e ∷ more) rest
