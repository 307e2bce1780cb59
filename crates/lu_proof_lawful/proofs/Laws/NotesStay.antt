-- What a client knows of an object's bytes, and what it noted as shown under a lock, stays until it gives up a lock or its life: bytes come
-- beside
-- those that are known, or in their place, and the greatest offset that was shown only grows.
use Rattle.std.proofs.Common.{◌≡◌, ℕ, suc, ◌≤◌, Bool, true, false, List, [], ◌∷◌, Option, Some, None, refl, sym, subst, ap, ◌∙◌, arith}
use Rattle.std.specs.Prelude.{nat_eq, nat_lt, max, if◌then◌else◌}
use Rattle.std.proofs.lemmas.Bool.{and_parts, eqb-true}
use Rattle.lu_base.specs.declared.ids.Cookie.{Cookie}
use Rattle.lu_base.specs.declared.locks.Resource.{Resource}
use Rattle.lu_held.specs.Locks.{same_resource}
use Rattle.lu_spec_machine.specs.Places.{found_at, laid}
use Rattle.lu_spec_entries.specs.Words.{Entry, Drop, Life, Fills, Zeroes, Shows, Line, line, is_client}
use Rattle.lu_spec_client.specs.Bytes.{Bytes, zeroed}
use Rattle.lu_spec_client.specs.Caches.{bytes_at, known_bytes_at, with_object, on_object, forgotten_bytes, forgotten_notes, Note, noted}
use Rattle.lu_spec_client.specs.Caches.{with_note, shown_to, shown_at}
use Rattle.lu_proof_objects.proofs.Tables.{object_is}
use Rattle.lu_proof_bytes.specs.Object.Words.{overlay}
use Rattle.lu_proof_bytes.specs.Object.Folds as folds
use Rattle.lu_proof_bytes.specs.Object.Folds.{is_some}
use Rattle.lu_proof_lawful.proofs.Refinement.PointsKnown.{fills_known, zeroes_known}
use Rattle.lu_proof_lawful.proofs.Refinement.PointsTables.{item_with, item_on, same_lock, noted_with}
use Rattle.lu_proof_lawful.proofs.Laws.SilentHeld.{gives_up}

-- ---- a byte that is known

run_keeps : (at : ℕ) (bs : List ℕ) (p : ℕ) (x : Option ℕ) → is_some x ≡ true → is_some (overlay at bs p x) ≡ true
run_keeps at [] p x e = e
run_keeps at (b ∷ bs) p x e = by (nat_eq at p) (run_keeps (suc at) bs p x e)
  where
    by : (v : Bool) → is_some (overlay (suc at) bs p x) ≡ true → is_some (if v then Some b else overlay (suc at) bs p x) ≡ true
    by true e = refl
    by false e = e

zero_keeps : (v : Bool) (x : Option ℕ) → is_some x ≡ true → is_some (if v then x else folds.zeroed x) ≡ true
zero_keeps true x e = e
zero_keeps false None e = e
zero_keeps false (Some b) e = refl

abbrev pub IsKnown : List (Resource × Bytes) → Resource → ℕ → Type 0
IsKnown m r p = is_some (found_at (bytes_at r m) p) ≡ true

fills_keep : (q : Resource) (at : ℕ) (bs : List ℕ) (m : List (Resource × Bytes)) (r : Resource) (p : ℕ) → IsKnown m r p
    → IsKnown (with_object q (laid at bs (bytes_at q m)) m) r p
fills_keep q at bs m r p k = subst (λ (b : Bytes). is_some (found_at b p) ≡ true) (sym (item_with [] q r (laid at bs (bytes_at q m)) m))
    (by (same_resource q r) refl)
  where
    by : (v : Bool) → same_resource q r ≡ v → is_some (found_at (if v then laid at bs (bytes_at q m) else bytes_at r m) p) ≡ true
    by true e = ap is_some (fills_known at bs (bytes_at q m) p)
        ∙ run_keeps at bs p (found_at (bytes_at q m) p) (subst (λ (z : Resource). IsKnown m z p) (sym (object_is q r e)) k)
    by false e = k

zeroes_keep : (q : Resource) (n : ℕ) (m : List (Resource × Bytes)) (r : Resource) (p : ℕ) → IsKnown m r p
    → IsKnown (on_object q (zeroed n) m) r p
zeroes_keep q n m r p k = subst (λ (b : Bytes). is_some (found_at b p) ≡ true) (sym (item_on [] q r (zeroed n) m refl))
    (by (same_resource q r))
  where
    by : (v : Bool) → is_some (found_at (if v then zeroed n (bytes_at r m) else bytes_at r m) p) ≡ true
    by true = ap is_some (zeroes_known n (bytes_at r m) p) ∙ zero_keeps (nat_lt p n) (found_at (bytes_at r m) p) k
    by false = k

pub bytes_stay : (c : ℕ) (l : Line) (past : List Line) (r : Resource) (p : ℕ) → gives_up c l.at.node l.entry ≡ false
    → IsKnown (known_bytes_at c past) r p → IsKnown (known_bytes_at c (l ∷ past)) r p
bytes_stay c l past r p stays k = by l.entry stays
  where
    m : List (Resource × Bytes)
    m = known_bytes_at c past

    own : (b : Bool) (x : List (Resource × Bytes)) → (b ≡ true → IsKnown x r p) → IsKnown (if b then x else m) r p
    own true x f = f refl
    own false x f = k

    none : (b : Bool) (x : List (Resource × Bytes)) → b ≡ false → IsKnown (if b then x else m) r p
    none true x e = absurd (cc)
    none false x e = k

    by : (e : Entry) → gives_up c l.at.node e ≡ false → IsKnown (known_bytes_at c (line l.at e ∷ past)) r p
    by (Fills q at bs) s = own (is_client c l.at.node) (with_object q (laid at bs (bytes_at q m)) m) (λ o. fills_keep q at bs m r p k)
    by (Zeroes q n) s = own (is_client c l.at.node) (on_object q (zeroed n) m) (λ o. zeroes_keep q n m r p k)
    by (Drop t x) s = none (is_client c l.at.node) (forgotten_bytes x.ask.policy x.resource m) s
    by (Life who) s = none (is_client c l.at.node) [] s
    by e s = k

-- ---- what was shown

-- a byte at or past the offset was shown under the lock
abbrev pub IsShown : List Note → Resource → Cookie → ℕ → Type 0
IsShown notes r k p = (last : ℕ) × (noted r k notes ≡ Some last) × (p ≤ last)

shows_keep : (q : Resource) (j : Cookie) (n : ℕ) (notes : List Note) (r : Resource) (k : Cookie) (p : ℕ) → IsShown notes r k p
    → IsShown (with_note q j (shown_to (noted q j notes) n) notes) r k p
shows_keep q j n notes r k p s = by (same_lock q r j k) refl (noted_with q r j k (shown_to (noted q j notes) n) notes)
  where
    by : (v : Bool) → same_lock q r j k ≡ v → noted r k (with_note q j (shown_to (noted q j notes) n) notes)
        ≡ (if v then Some (shown_to (noted q j notes) n) else noted r k notes)
        → IsShown (with_note q j (shown_to (noted q j notes) n) notes) r k p
    by false e is = (s.0, is ∙ s.1, s.2)
    by true e is =
        let parts = and_parts (same_resource q r) (nat_eq j.0 k.0) e in
        let on : q ≡ r = object_is q r parts.0 in
        let same : j ≡ k = ap (λ (m : ℕ). record { 0 = m }) (eqb-true j.0 k.0 parts.1) in
        let was : noted q j notes ≡ Some s.0 = ap (λ (z : Resource). noted z j notes) on ∙ ap (λ (z : Cookie). noted r z notes) same ∙ s.1
        in (
          shown_to (noted q j notes) n,
          is,
          let to = ap (λ (o : Option ℕ). shown_to o n) was in let low = s.2 in let most : s.0 ≤ max s.0 n =
              omega arith in omega (arith, to, low, most),
        )

pub shown_stay : (c : ℕ) (l : Line) (past : List Line) (r : Resource) (k : Cookie) (p : ℕ) → gives_up c l.at.node l.entry ≡ false
    → IsShown (shown_at c past) r k p → IsShown (shown_at c (l ∷ past)) r k p
shown_stay c l past r k p stays s = by l.entry stays
  where
    m : List Note
    m = shown_at c past

    own : (b : Bool) (x : List Note) → (b ≡ true → IsShown x r k p) → IsShown (if b then x else m) r k p
    own true x f = f refl
    own false x f = s

    none : (b : Bool) (x : List Note) → b ≡ false → IsShown (if b then x else m) r k p
    none true x e = absurd (cc)
    none false x e = s

    by : (e : Entry) → gives_up c l.at.node e ≡ false → IsShown (shown_at c (line l.at e ∷ past)) r k p
    by (Shows q j n) g = own (is_client c l.at.node) (with_note q j (shown_to (noted q j m) n) m) (λ o. shows_keep q j n m r k p s)
    by (Drop t x) g = none (is_client c l.at.node) (forgotten_notes x.ask.policy x m) g
    by (Life who) g = none (is_client c l.at.node) [] g
    by e g = s
