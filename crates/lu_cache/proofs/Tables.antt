-- Tables by object: how a map of objects gives and takes what stands in them.
use Rattle.std.proofs.Common.{◌≡◌, ℕ, Bool, true, false, cond, List, [], ◌∷◌, Option, Some, None, refl, sym, ap, subst, ◌∙◌, arith}
use Rattle.std.specs.Prelude.{unwrap_or}
use Rattle.std.specs.Map.{lookup, set_value}
use Rattle.std.proofs.lemmas.Bool.Decides.{nat_tests}
use Rattle.indexmap.specs.IndexMap.{insert_entry}
use Rattle.lu_base.specs.declared.locks.Resource.{Resource}
use Rattle.lu_held.specs.Locks.{same_resource}
use Rattle.lu_spec_machine.specs.Places.{laid}
use Rattle.lu_spec_bytes.specs.Changes.{Bytes}
use Rattle.lu_spec_client.specs.Caches.{at_object, with_object, on_object, bytes_at}
use Rattle.lu_cache.specs.Kept.{equal_resource}

pub turned : (r s : Resource) → equal_resource r s ≡ same_resource s r
turned r s = grind (arith, nat_tests)

some_is : {A : Type 0} (one other : A) → Some one ≡ Some other → one ≡ other
some_is one other e = cc

module _ {A : Type 0} where
  abbrev pub Found : Resource → List (Resource × A) → Option A
  Found r es = lookup (equal_resource r) es

  pub at_lookup : (empty : A) (r : Resource) (es : List (Resource × A)) → at_object empty r es ≡ unwrap_or (Found r es) empty
  at_lookup empty r [] = refl
  at_lookup empty r (e ∷ es) = by (same_resource e.0 r) (turned r e.0) (at_lookup empty r es) where
    by : (same : Bool) → equal_resource r e.0 ≡ same → at_object empty r es ≡ unwrap_or (Found r es) empty
        → cond same e.1 (at_object empty r es) ≡ unwrap_or (cond (equal_resource r e.0) (Some e.1) (Found r es)) empty
    by true t rest = rw t refl
    by false t rest = rw t rest

  pub set_with : (r : Resource) (es : List (Resource × A)) (old w : A) → Found r es ≡ Some old → set_value (equal_resource r) es w
      ≡ with_object r w es
  set_with r [] old w found = absurd (cc)
  set_with r (e ∷ es) old w found = by (same_resource e.0 r) (turned r e.0) found (set_with r es old w) where
    by : (same : Bool) → equal_resource r e.0 ≡ same → cond (equal_resource r e.0) (Some e.1) (Found r es) ≡ Some old
        → (Found r es ≡ Some old → set_value (equal_resource r) es w ≡ with_object r w es)
        → cond (equal_resource r e.0) ((e.0, w) ∷ es) (e ∷ set_value (equal_resource r) es w)
        ≡ cond same ((e.0, w) ∷ es) (e ∷ with_object r w es)
    by true t h rest = rw t refl
    by false t h rest =
        let there : Found r es ≡ Some old = subst (λ b. cond b (Some e.1) (Found r es) ≡ Some old) t h in
        rw t (ap (λ more. e ∷ more) (rest there))

  pub set_on : (r : Resource) (change : A → A) (es : List (Resource × A)) (old : A) → Found r es ≡ Some old
      → set_value (equal_resource r) es (change old) ≡ on_object r change es
  set_on r change [] old found = absurd (cc)
  set_on r change (e ∷ es) old found = by (same_resource e.0 r) (turned r e.0) found (set_on r change es old) where
    by : (same : Bool) → equal_resource r e.0 ≡ same → cond (equal_resource r e.0) (Some e.1) (Found r es) ≡ Some old
        → (Found r es ≡ Some old → set_value (equal_resource r) es (change old) ≡ on_object r change es)
        → cond (equal_resource r e.0) ((e.0, change old) ∷ es) (e ∷ set_value (equal_resource r) es (change old))
        ≡ cond same ((e.0, change e.1) ∷ es) (e ∷ on_object r change es)
    by true t h rest =
        let is : e.1 ≡ old = some_is e.1 old (subst (λ b. cond b (Some e.1) (Found r es) ≡ Some old) t h) in
        rw t (ap (λ x. (e.0, change x) ∷ es) (sym is))
    by false t h rest =
        let there : Found r es ≡ Some old = subst (λ b. cond b (Some e.1) (Found r es) ≡ Some old) t h in
        rw t (ap (λ more. e ∷ more) (rest there))

  set_same : (r : Resource) (es : List (Resource × A)) (old : A) → Found r es ≡ Some old → set_value (equal_resource r) es old ≡ es
  set_same r [] old found = refl
  set_same r (e ∷ es) old found = by (equal_resource r e.0) found (set_same r es old) where
    by : (same : Bool) → cond same (Some e.1) (Found r es) ≡ Some old → (Found r es ≡ Some old → set_value (equal_resource r) es old ≡ es)
        → cond same ((e.0, old) ∷ es) (e ∷ set_value (equal_resource r) es old) ≡ e ∷ es
    by true found rest = ap (λ x. (e.0, x) ∷ es) (sym (some_is e.1 old found))
    by false found rest = ap (λ more. e ∷ more) (rest found)

  pub kept_there : (r : Resource) (es now : List (Resource × A)) (old new : A) → es ≡ now → Found r es ≡ Some old → new ≡ old
      → set_value (equal_resource r) es new ≡ now
  kept_there r es now old new is found same = ap (set_value (equal_resource r) es) same ∙ set_same r es old found ∙ is

  pub none_on : (r : Resource) (change : A → A) (es : List (Resource × A)) → Found r es ≡ None → on_object r change es ≡ es
  none_on r change [] none = refl
  none_on r change (e ∷ es) none = by (same_resource e.0 r) (turned r e.0) none (none_on r change es) where
    by : (same : Bool) → equal_resource r e.0 ≡ same → cond (equal_resource r e.0) (Some e.1) (Found r es) ≡ None
        → (Found r es ≡ None → on_object r change es ≡ es) → cond same ((e.0, change e.1) ∷ es) (e ∷ on_object r change es) ≡ e ∷ es
    by true t h rest = absurd (let off : Some e.1 ≡ None = subst (λ b. cond b (Some e.1) (Found r es) ≡ None) t h in cc)
    by false t h rest =
        let there : Found r es ≡ None = subst (λ b. cond b (Some e.1) (Found r es) ≡ None) t h in
        ap (λ more. e ∷ more) (rest there)

  pub insert_with : (r : Resource) (w : A) (es : List (Resource × A)) → insert_entry equal_resource es r w ≡ with_object r w es
  insert_with r w [] = refl
  insert_with r w (e ∷ es) = by (same_resource e.0 r) (turned r e.0) (insert_with r w es) where
    by : (same : Bool) → equal_resource r e.0 ≡ same → insert_entry equal_resource es r w ≡ with_object r w es
        → cond (equal_resource r e.0) ((e.0, w) ∷ es) (e ∷ insert_entry equal_resource es r w)
        ≡ cond same ((e.0, w) ∷ es) (e ∷ with_object r w es)
    by true t rest = rw t refl
    by false t rest = rw t (ap (λ more. e ∷ more) rest)

-- ---- known bytes

abbrev pub Table : Type 0
Table = List (Resource × Bytes)

bytes_found : (r : Resource) (es : Table) (old : Bytes) → Found r es ≡ Some old → bytes_at r es ≡ old
bytes_found r es old found = at_lookup [] r es ∙ ap (λ (o : Option Bytes). unwrap_or o []) found

bytes_none : (r : Resource) (es : Table) → Found r es ≡ None → bytes_at r es ≡ []
bytes_none r es none = at_lookup [] r es ∙ ap (λ (o : Option Bytes). unwrap_or o []) none

pub filled_there : (r : Resource) (at : ℕ) (xs : List ℕ) (es now : Table) (old new : Bytes) → es ≡ now → Found r es ≡ Some old → new
    ≡ laid at xs old → set_value (equal_resource r) es new ≡ with_object r (laid at xs (bytes_at r now)) now
filled_there r at xs es now old new is found put =
    subst (λ (m : Table). set_value (equal_resource r) es new ≡ with_object r (laid at xs (bytes_at r m)) m) is
    (set_with r es old new found ∙ ap (λ (b : Bytes). with_object r b es) (put ∙ ap (laid at xs) (sym (bytes_found r es old found))))

pub filled_new : (r : Resource) (at : ℕ) (xs : List ℕ) (es now : Table) (new : Bytes) → es ≡ now → Found r es ≡ None → new ≡ laid at xs []
    → insert_entry equal_resource es r new ≡ with_object r (laid at xs (bytes_at r now)) now
filled_new r at xs es now new is none put =
    subst (λ (m : Table). insert_entry equal_resource es r new ≡ with_object r (laid at xs (bytes_at r m)) m) is
    (insert_with r new es ∙ ap (λ (b : Bytes). with_object r b es) (put ∙ ap (laid at xs) (sym (bytes_none r es none))))

pub none_changed : (r : Resource) (change : Bytes → Bytes) (es now : Table) → es ≡ now → Found r es ≡ None → es ≡ on_object r change now
none_changed r change es now is none = subst (λ (m : Table). es ≡ on_object r change m) is (sym (none_on r change es none))

pub changed_there : (r : Resource) (change : Bytes → Bytes) (es now : Table) (old new : Bytes) → es ≡ now → Found r es ≡ Some old → new
    ≡ change old → set_value (equal_resource r) es new ≡ on_object r change now
changed_there r change es now old new is found made =
    subst (λ (m : Table). set_value (equal_resource r) es new ≡ on_object r change m) is
    (ap (set_value (equal_resource r) es) made ∙ set_on r change es old found)
