-- Objects by resource: what is found in them after an operation on one, and that they stay sound.
use Rattle.std.proofs.Common.{◌≡◌, ◌≢◌, ℕ, zero, suc, ◌+◌, ◌-◌, ◌<◌, ◌≤◌, ◌^◌, max, min, ◌⊎◌, inl, inr, Bool, true, false, List, [], ◌∷◌}
use Rattle.std.proofs.Common.{length, Option, Some, None, refl, sym, ap, ◌∙◌, subst, arith}
use Rattle.std.specs.Prelude.{nat_eq, nat_lt, nat_le, ◌==◌, ◌&&◌, if◌then◌else◌}
use Rattle.std.proofs.lemmas.Bool.{eq-eqb}
use Rattle.std.proofs.lemmas.Bool.Decides.{nat_tests}
use Rattle.lu_base.specs.declared.locks.Extent.{Extent}
use Rattle.lu_base.specs.declared.locks.Resource.{Resource}
use Rattle.lu_base.specs.declared.ids.Cookie.{Cookie}
use Rattle.lu_lock.specs.Growth.{the_end}
use Rattle.lu_lock.specs.Overlap.{extents_meet}
use Rattle.lu_msg.specs.declared.operations.Op.{Op}
use Rattle.lu_msg.specs.declared.operations.Op.TheVariants as op
use Rattle.lu_part.specs.declared.parts.Part.{Part}
use Rattle.lu_part.specs.declared.parts.Part.TheVariants.{Bytes}
use Rattle.lu_spec_machine.specs.Footprint.{Every, Apart}
use Rattle.lu_spec_machine.specs.Places.{found_at, RisingFrom, end_of, is_in}
use Rattle.lu_spec_machine.specs.Objects.{Object, put_bytes, cut_bytes, object_after, object_writes}
use Rattle.lu_spec_machine.proofs.Places.{end_past, end_last}
use Rattle.lu_spec_machine.proofs.Objects.{object_puts, object_cuts}
use Rattle.lu_service.specs.Contents.{same_resource, object_in, with_object, IsObject, most_bytes}
use Rattle.lu_service.specs.Objects.{objects_after}
use Rattle.lu_object.proofs.Offsets.{only, put_same, cut_same, put_stays, cut_stays}

-- ---- one object among others

both_parts : (u v : Bool) → (u && v) ≡ true → (u ≡ true) × (v ≡ true)
both_parts true true h = (refl, refl)
both_parts true false h = absurd (cc (h))
both_parts false v h = absurd (cc (h))

pub same_is : (a b : Resource) → same_resource a b ≡ true → a ≡ b
same_is a b h = λ i. record { fid = record { 0 = fids i }; stripe = stripes i }
  where
    parts : ((a.fid.0 == b.fid.0) ≡ true) × ((a.stripe == b.stripe) ≡ true)
    parts = both_parts (a.fid.0 == b.fid.0) (a.stripe == b.stripe) h

    equal : (m n : ℕ) → (m == n) ≡ true → m ≡ n
    equal m n is = grind (arith, nat_tests)

    fids : a.fid.0 ≡ b.fid.0
    fids = equal a.fid.0 b.fid.0 parts.0

    stripes : a.stripe ≡ b.stripe
    stripes = equal a.stripe b.stripe parts.1

pub found_with : (r : Resource) (x : Object) (objects : List (Resource × Object)) (s : Resource) → object_in (with_object r x objects) s
    ≡ (if same_resource r s then x else object_in objects s)
found_with r x [] s = refl
found_with r x (e ∷ objects) s = by (same_resource e.0 r) refl (found_with r x objects s)
  where
    by : (v : Bool) → same_resource e.0 r ≡ v → object_in (with_object r x objects) s
        ≡ (if same_resource r s then x else object_in objects s)
        → object_in (if v then (e.0, x) ∷ objects else e ∷ with_object r x objects) s
        ≡ (if same_resource r s then x else (if same_resource e.0 s then e.1 else object_in objects s))
    by true is ih =
        let same : e.0 ≡ r = same_is e.0 r is in
        ap (λ k. if same_resource k s then x else object_in objects s) same
        ∙ tests (same_resource r s) (same_resource e.0 s) (ap (λ k. same_resource k s) same)
      where
        tests : (u w : Bool) → w ≡ u → (if u then x else object_in objects s) ≡ (if u then x else (if w then e.1 else object_in objects s))
        tests true w same = refl
        tests false true same = absurd (cc (same))
        tests false false same = refl
    by false is ih = ap (λ o. if same_resource e.0 s then e.1 else o) ih ∙ tests (same_resource r s) (same_resource e.0 s) refl refl
      where
        tests : (u w : Bool) → same_resource r s ≡ u → same_resource e.0 s ≡ w → (if w then e.1 else (if u then x else object_in objects s))
            ≡ (if u then x else (if w then e.1 else object_in objects s))
        tests true true here there =
            let one : r ≡ s = same_is r s here in
            let two : same_resource e.0 r ≡ true = ap (λ k. same_resource e.0 k) one ∙ there in
            absurd (cc (is, two))
        tests true false here there = refl
        tests false w here there = refl

-- ---- the byte of an object at an offset

at_changed : (f : Object → Object) (r : Resource) (objects : List (Resource × Object)) (s : Resource) (q : ℕ)
    → found_at (object_in (with_object r (f (object_in objects r)) objects) s) q
    ≡ (if same_resource r s then found_at (f (object_in objects s)) q else found_at (object_in objects s) q)
at_changed f r objects s q = ap (λ o. found_at o q) (found_with r (f (object_in objects r)) objects s) ∙ by (same_resource r s) refl
  where
    by : (v : Bool) → same_resource r s ≡ v
        → found_at (if v then f (object_in objects r) else object_in objects s) q
        ≡ (if v then found_at (f (object_in objects s)) q else found_at (object_in objects s) q)
    by true is = ap (λ k. found_at (f (object_in objects k)) q) (same_is r s is)
    by false is = refl

-- a change that makes the same of the same byte
kept_same : (f : Object → Object) (r : Resource) (a b : List (Resource × Object)) (s : Resource) (q : ℕ)
    → ((o p : Object) → found_at o q ≡ found_at p q → found_at (f o) q ≡ found_at (f p) q)
    → found_at (object_in a s) q ≡ found_at (object_in b s) q
    → found_at (object_in (with_object r (f (object_in a r)) a) s) q ≡ found_at (object_in (with_object r (f (object_in b r)) b) s) q
kept_same f r a b s q each same = at_changed f r a s q ∙ by (same_resource r s) ∙ sym (at_changed f r b s q)
  where
    by : (v : Bool) → (if v then found_at (f (object_in a s)) q else found_at (object_in a s) q)
        ≡ (if v then found_at (f (object_in b s)) q else found_at (object_in b s) q)
    by true = each (object_in a s) (object_in b s) same
    by false = same

-- the same byte before, the same after
pub after_same : (o : Op) (a b : List (Resource × Object)) (s : Resource) (q : ℕ) → found_at (object_in a s) q ≡ found_at (object_in b s) q
    → found_at (object_in (objects_after o a) s) q ≡ found_at (object_in (objects_after o b) s) q
after_same (op.Put r cookie offset bytes) a b s q same = kept_same (put_bytes offset bytes) r a b s q
    (λ o p h. put_same offset bytes o p q h) same
after_same (op.Cut r cookie size) a b s q same = kept_same (cut_bytes size) r a b s q (λ o p h. cut_same size o p q h) same
after_same _ a b s q same = same

-- ---- what is written

last_of_three : (u v w : Bool) → (u && v && w) ≡ false → (u && v) ≡ true → w ≡ false
last_of_three true true true h k = absurd (cc (h))
last_of_three true true false h k = refl
last_of_three true false w h k = absurd (cc (k))
last_of_three false v w h k = absurd (cc (k))

-- a change that leaves what lies outside a range
left_same : (f : Object → Object) (r : Resource) (written : Extent) (objects : List (Resource × Object)) (s : Resource) (q : ℕ)
    → ((o : Object) → extents_meet written (only q) ≡ false → found_at (f o) q ≡ found_at o q)
    → Apart (Bytes r.fid r.stripe written ∷ []) (Bytes s.fid s.stripe (only q))
    → found_at (object_in (with_object r (f (object_in objects r)) objects) s) q ≡ found_at (object_in objects s) q
left_same f r written objects s q each apart = at_changed f r objects s q ∙ by (same_resource r s) refl
  where
    by : (v : Bool) → same_resource r s ≡ v → (if v then found_at (f (object_in objects s)) q else found_at (object_in objects s) q)
        ≡ found_at (object_in objects s) q
    by true is = each (object_in objects s) (last_of_three (r.fid.0 == s.fid.0) (r.stripe == s.stripe) (extents_meet written (only q))
        apart.0 is)
    by false is = refl

unchanged : (r : Resource) (objects : List (Resource × Object)) (s : Resource) (q : ℕ)
    → found_at (object_in (with_object r (object_in objects r) objects) s) q ≡ found_at (object_in objects s) q
unchanged r objects s q = at_changed (λ o. o) r objects s q ∙ by (same_resource r s)
  where
    by : (v : Bool) → (if v then found_at (object_in objects s) q else found_at (object_in objects s) q) ≡ found_at (object_in objects s) q
    by true = refl
    by false = refl

-- what isn't written stays
pub after_stays : (o : Op) (objects : List (Resource × Object)) (s : Resource) (q : ℕ) → q ≤ the_end
    → Apart (object_writes o) (Bytes s.fid s.stripe (only q)) → found_at (object_in (objects_after o objects) s) q
    ≡ found_at (object_in objects s) q
after_stays (op.Put r cookie offset []) objects s q within apart = unchanged r objects s q
after_stays (op.Put r cookie offset (b ∷ bs)) objects s q within apart =
    left_same (put_bytes offset (b ∷ bs)) r (record { first = offset; last = offset + length bs }) objects s q
    (λ o h. put_stays offset b bs o q h) apart
after_stays (op.Cut r cookie size) objects s q within apart = left_same (cut_bytes size) r
    (record { first = max size 1 - 1; last = the_end }) objects s q (λ o h. cut_stays size o q within h) apart
after_stays _ objects s q within apart = refl

-- ---- sound objects

pub sound_in : (objects : List (Resource × Object)) (r : Resource) → Every (λ (e : Resource × Object). IsObject e.1) objects
    → IsObject (object_in objects r)
sound_in [] r h = (tt, omega arith)
sound_in (e ∷ objects) r h = by (same_resource e.0 r) (sound_in objects r h.1)
  where
    by : (v : Bool) → IsObject (object_in objects r) → IsObject (if v then e.1 else object_in objects r)
    by true rest = h.0
    by false rest = rest

pub sound_with : (r : Resource) (x : Object) (objects : List (Resource × Object)) → IsObject x
    → Every (λ (e : Resource × Object). IsObject e.1) objects → Every (λ (e : Resource × Object). IsObject e.1) (with_object r x objects)
sound_with r x [] is h = (is, tt)
sound_with r x (e ∷ objects) is h = by (same_resource e.0 r) (sound_with r x objects is h.1)
  where
    by : (v : Bool) → Every (λ (e : Resource × Object). IsObject e.1) (with_object r x objects)
        → Every (λ (e : Resource × Object). IsObject e.1) (if v then (e.0, x) ∷ objects else e ∷ with_object r x objects)
    by true rest = (is, h.1)
    by false rest = (h.0, rest)

-- a put that ends below the limit keeps below it what was
put_ends : (offset : ℕ) (bytes : List ℕ) (object : Object) → offset + length bytes ≤ most_bytes → end_of object ≤ most_bytes
    → end_of (put_bytes offset bytes object) ≤ most_bytes
put_ends offset bytes object fits was = by (nat_le (end_of after) most_bytes) refl
  where
    after : Object
    after = put_bytes offset bytes object

    last : ℕ
    last = end_of after - 1

    by : (v : Bool) → nat_le (end_of after) most_bytes ≡ v → end_of after ≤ most_bytes
    by true is = grind (arith, nat_tests)
    by false is =
        let past : most_bytes < end_of after = grind (arith, nat_tests) in
        let none : found_at after last ≡ None = (object_puts offset bytes object).leaves last (inr (omega (arith, past, fits)))
        ∙ end_past object last (omega (arith, past, was)) in
        absurd (end_last after (omega (arith, past)) none)

pub put_sound : (offset : ℕ) (bytes : List ℕ) (object : Object) → offset + length bytes ≤ most_bytes → IsObject object
    → IsObject (put_bytes offset bytes object)
put_sound offset bytes object fits is = ((object_puts offset bytes object).rises is.0, put_ends offset bytes object fits is.1)

pub cut_sound : (size : ℕ) (object : Object) → size ≤ most_bytes → IsObject object → IsObject (cut_bytes size object)
cut_sound size object fits is = (
  (object_cuts size object).rises is.0,
  subst (λ n. n ≤ most_bytes) (sym (object_cuts size object).size) fits,
)
