-- Tables by object, and the numbers noted for a lock of one: what is found there once an object is changed.
use Rattle.std.proofs.Common.{◌≡◌, ℕ, Bool, true, false, List, [], ◌∷◌, Option, Some, None, refl, sym, ◌∙◌, arith}
use Rattle.std.specs.Prelude.{nat_eq, ◌&&◌, not, if◌then◌else◌, option_map}
use Rattle.std.proofs.lemmas.Bool.Decides.{nat_tests}
use Rattle.lu_base.specs.declared.ids.Cookie.{Cookie}
use Rattle.lu_base.specs.declared.locks.Resource.{Resource}
use Rattle.lu_held.specs.Locks.{same_resource}
use Rattle.lu_spec_entries.specs.declared.changes.Flush.{Flush}
use Rattle.lu_spec_client.specs.Caches.{at_object, with_object, on_object, Note, is_note, noted, without_note, with_note, grown}
use Rattle.lu_spec_client.specs.Caches.{grown_notes}

-- ---- an object's item

pub item_with : {A : Type 0} (empty : A) (r s : Resource) (x : A) (m : List (Resource × A))
    → at_object empty s (with_object r x m) ≡ (if same_resource r s then x else at_object empty s m)
item_with empty r s x [] = refl
item_with {A} empty r s x (e ∷ m) = by (same_resource e.0 r) refl (same_resource e.0 s) refl (same_resource r s) refl
    (item_with empty r s x m)
  where
    by : (u : Bool) → same_resource e.0 r ≡ u → (v : Bool) → same_resource e.0 s ≡ v → (w : Bool) → same_resource r s ≡ w
        → at_object empty s (with_object r x m) ≡ (if same_resource r s then x else at_object empty s m)
        → at_object empty s (if u then (e.0, x) ∷ m else e ∷ with_object r x m)
        ≡ (if w then x else (if v then e.1 else at_object empty s m))
    by true p true q true o ih = rw q refl
    by true p true q false o ih = absurd (grind (arith, nat_tests))
    by true p false q true o ih = absurd (grind (arith, nat_tests))
    by true p false q false o ih = rw q refl
    by false p true q true o ih = absurd (grind (arith, nat_tests))
    by false p true q false o ih = rw q refl
    by false p false q w o ih = rw q (ih ∙ rw o refl)

-- by a step that leaves what isn't there
pub item_on : {A : Type 0} (empty : A) (r s : Resource) (f : A → A) (m : List (Resource × A)) → f empty ≡ empty
    → at_object empty s (on_object r f m) ≡ (if same_resource r s then f (at_object empty s m) else at_object empty s m)
item_on {A} empty r s f [] still = by (same_resource r s)
  where
    by : (w : Bool) → empty ≡ (if w then f empty else empty)
    by true = sym still
    by false = refl
item_on {A} empty r s f (e ∷ m) still = by (same_resource e.0 r) refl (same_resource e.0 s) refl (same_resource r s) refl
    (item_on empty r s f m still)
  where
    by : (u : Bool) → same_resource e.0 r ≡ u → (v : Bool) → same_resource e.0 s ≡ v → (w : Bool) → same_resource r s ≡ w
        → at_object empty s (on_object r f m) ≡ (if same_resource r s then f (at_object empty s m) else at_object empty s m)
        → at_object empty s (if u then (e.0, f e.1) ∷ m else e ∷ on_object r f m)
        ≡ (if w then f (if v then e.1 else at_object empty s m) else (if v then e.1 else at_object empty s m))
    by true p true q true o ih = rw q refl
    by true p true q false o ih = absurd (grind (arith, nat_tests))
    by true p false q true o ih = absurd (grind (arith, nat_tests))
    by true p false q false o ih = rw q refl
    by false p true q true o ih = absurd (grind (arith, nat_tests))
    by false p true q false o ih = rw q refl
    by false p false q w o ih = rw q (ih ∙ rw o refl)

-- ---- the number noted for a lock

abbrev pub same_lock : (r s : Resource) (j k : Cookie) → Bool
same_lock r s j k = same_resource r s && nat_eq j.0 k.0

pub noted_without : (r s : Resource) (j k : Cookie) (notes : List Note)
    → noted s k (without_note r j notes) ≡ (if same_lock r s j k then None else noted s k notes)
noted_without r s j k [] = by (same_lock r s j k)
  where
    by : (w : Bool) → ◌≡◌ {A = Option ℕ} None (if w then None else None)
    by true = refl
    by false = refl
noted_without r s j k (n ∷ notes) = by (is_note r j n) refl (is_note s k n) refl (same_lock r s j k) refl (noted_without r s j k notes)
  where
    by : (u : Bool) → is_note r j n ≡ u → (v : Bool) → is_note s k n ≡ v → (w : Bool) → same_lock r s j k ≡ w
        → noted s k (without_note r j notes) ≡ (if same_lock r s j k then None else noted s k notes)
        → noted s k (if not u then n ∷ without_note r j notes else without_note r j notes)
        ≡ (if w then None else (if v then Some n.number else noted s k notes))
    by true p true q true o ih = ih ∙ rw o refl
    by true p true q false o ih = absurd (grind (arith, nat_tests))
    by true p false q w o ih = ih ∙ rw o refl
    by false p true q true o ih = absurd (grind (arith, nat_tests))
    by false p true q false o ih = rw q refl
    by false p false q w o ih = rw q (ih ∙ rw o refl)

pub noted_with : (r s : Resource) (j k : Cookie) (number : ℕ) (notes : List Note)
    → noted s k (with_note r j number notes) ≡ (if same_lock r s j k then Some number else noted s k notes)
noted_with r s j k number notes = by (same_lock r s j k) refl (noted_without r s j k notes)
  where
    by : (w : Bool) → same_lock r s j k ≡ w → noted s k (without_note r j notes) ≡ (if same_lock r s j k then None else noted s k notes)
        → (if w then Some number else noted s k (without_note r j notes)) ≡ (if w then Some number else noted s k notes)
    by true o e = refl
    by false o e = e ∙ rw o refl

pub noted_grown : (r s : Resource) (k : Cookie) (change : Flush) (notes : List Note)
    → noted s k (grown_notes r change notes) ≡ (if same_resource r s then option_map (grown change) (noted s k notes) else noted s k notes)
noted_grown r s k change [] = by (same_resource r s)
  where
    by : (w : Bool) → ◌≡◌ {A = Option ℕ} None (if w then option_map (grown change) None else None)
    by true = refl
    by false = refl
noted_grown r s k change (n ∷ notes) = by (same_resource n.resource r) refl (is_note s k n) refl (same_resource r s) refl
    (noted_grown r s k change notes)
  where
    by : (u : Bool) → same_resource n.resource r ≡ u → (v : Bool) → is_note s k n ≡ v → (w : Bool) → same_resource r s ≡ w
        → noted s k (grown_notes r change notes) ≡ (if same_resource r s then option_map (grown change) (noted s k notes)
        else noted s k notes)
        → noted s k ((if u then record n { number = grown change n.number } else n) ∷ grown_notes r change notes)
        ≡ (if w then option_map (grown change) (if v then Some n.number else noted s k notes)
        else (if v then Some n.number else noted s k notes))
    by true p true q true o ih = rw q refl
    by true p true q false o ih = absurd (grind (arith, nat_tests))
    by true p false q w o ih = rw q (ih ∙ rw o refl)
    by false p true q true o ih = absurd (grind (arith, nat_tests))
    by false p true q false o ih = rw q refl
    by false p false q w o ih = rw q (ih ∙ rw o refl)
