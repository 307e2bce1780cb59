-- A client's own writes and cuts change what it sees as they change an object.
use Rattle.std.proofs.Common.{◌≡◌, ℕ, zero, suc, ◌+◌, ◌-◌, ◌<◌, ◌≤◌, Bool, true, false, List, [], ◌∷◌, Option, Some, None, refl, sym, ap}
use Rattle.std.proofs.Common.{subst, ◌∙◌, arith}
use Rattle.std.specs.Prelude.{nat_eq, nat_lt, is_some, if◌then◌else◌}
use Rattle.std.specs.Option.{unwrap_or}
use Rattle.std.proofs.lemmas.Bool.Decides.{nat_tests}
use Rattle.lu_spec_entries.specs.declared.changes.Dirty.{Dirty}
use Rattle.lu_spec_machine.specs.Places.{Places, found_at, RisingFrom, below, laid}
use Rattle.lu_spec_machine.specs.Objects.{Object, put_bytes, cut_bytes}
use Rattle.lu_spec_machine.proofs.Places.{overlay, or_else, found_filter, found_laid}
use Rattle.lu_spec_machine.proofs.Objects.{object_puts, object_cuts}
use Rattle.lu_spec_bytes.proofs.Rising.{same_map}
use Rattle.lu_spec_client.specs.Patches.{Patch, fresh, written, ended, cut_over, cut}
use Rattle.lu_patch.specs.Seen.{cut_by, put_on, seen}
use Rattle.lu_patch.specs.SeenLaws.{WritesWhatIsSeen, CutsWhatIsSeen}
use Rattle.lu_patch.proofs.Seen.{byte_in, found_put_on, rising_seen}

-- ---- a write

put_found : (at : ℕ) (bs : List ℕ) (object : Object) (q : ℕ) → found_at (put_bytes at bs object) q ≡ overlay at bs q (found_at object q)
put_found at [] object q = refl
put_found at (b ∷ bs) object q = found_laid at (b ∷ bs) object q

overlay_byte : (at : ℕ) (bs : List ℕ) (q : ℕ) (x : Option Dirty) (y : Option ℕ) → or_else (byte_in (overlay at (fresh bs) q x)) y
    ≡ overlay at bs q (or_else (byte_in x) y)
overlay_byte at [] q x y = refl
overlay_byte at (b ∷ bs) q x y = by (nat_eq q at) (overlay_byte (at + 1) bs q x y)
  where
    by : (v : Bool) → or_else (byte_in (overlay (at + 1) (fresh bs) q x)) y ≡ overlay (at + 1) bs q (or_else (byte_in x) y)
        → or_else (byte_in (if v then Some (record { byte = b; flies = false }) else overlay (at + 1) (fresh bs) q x)) y
        ≡ (if v then Some b else overlay (at + 1) bs q (or_else (byte_in x) y))
    by true ih = refl
    by false ih = ih

pub writes_what_is_seen : WritesWhatIsSeen
writes_what_is_seen at bs p object rises =
    same_map 0 (seen (written at bs p) object) (put_bytes at bs (seen p object)) (rising_seen (written at bs p) object rises)
    ((object_puts at bs (seen p object)).rises (rising_seen p object rises))
    (λ q from.
    found_put_on (laid at (fresh bs) p.dirty) (cut_by p.pending object) q
    ∙ ap (λ x. or_else (byte_in x) (found_at (cut_by p.pending object) q)) (found_laid at (fresh bs) p.dirty q)
    ∙ overlay_byte at bs q (found_at p.dirty q) (found_at (cut_by p.pending object) q)
    ∙ ap (λ x. overlay at bs q x) (sym (found_put_on p.dirty (cut_by p.pending object) q))
    ∙ sym (put_found at bs (seen p object) q))

-- ---- a cut, at an offset

abbrev pub ends : ℕ → ℕ → Option ℕ → Option ℕ
ends n q x = if nat_lt q n then (if nat_eq (q + 1) n then Some (unwrap_or x 0) else x) else None

cut_found : (n : ℕ) (object : Object) (q : ℕ) → found_at (cut_bytes n object) q ≡ ends n q (found_at object q)
cut_found n object q = by (nat_lt q n) (nat_eq (q + 1) n) (found_at object q) refl refl refl
  where
    by : (u v : Bool) (x : Option ℕ) → nat_lt q n ≡ u → nat_eq (q + 1) n ≡ v → found_at object q ≡ x → found_at (cut_bytes n object) q
        ≡ (if u then (if v then Some (unwrap_or x 0) else x) else None)
    by false v x low last is = (object_cuts n object).drops q (grind (arith, nat_tests))
    by true false x low last is = (object_cuts n object).leaves q (grind (arith, nat_tests)) ∙ is
    by true true None low last is = (object_cuts n object).zero q (grind (arith, nat_tests)) is
    by true true (Some b) low last is = (object_cuts n object).keeps q b (grind (arith, nat_tests)) is

module _ (n : ℕ) (p : Patch) (object : Object) (q : ℕ) where
  -- what is seen where the cut is the pending one afterwards
  made : found_at (put_on (below n p.dirty) (cut_bytes n object)) q
      ≡ or_else (byte_in (if nat_lt q n then found_at p.dirty q else None)) (ends n q (found_at object q))
  made =
      found_put_on (below n p.dirty) (cut_bytes n object) q
      ∙ ap (λ x. or_else (byte_in x) (found_at (cut_bytes n object) q)) (found_filter (λ k. nat_lt k n) p.dirty q)
      ∙ ap (λ y. or_else (byte_in (if nat_lt q n then found_at p.dirty q else None)) y) (cut_found n object q)

  wanted : found_at (cut_bytes n (seen p object)) q ≡ ends n q (or_else (byte_in (found_at p.dirty q))
      (found_at (cut_by p.pending object) q))
  wanted = cut_found n (seen p object) q ∙ ap (ends n q) (found_put_on p.dirty (cut_by p.pending object) q)

  -- no cut was pending
  first_cut : p.pending ≡ None → found_at (put_on (below n p.dirty) (cut_bytes n object)) q ≡ found_at (cut_bytes n (seen p object)) q
  first_cut none = made ∙ by (nat_lt q n) (nat_eq (q + 1) n) (found_at p.dirty q) refl refl
      ∙ sym (wanted ∙ ap (λ c. ends n q (or_else (byte_in (found_at p.dirty q)) (found_at (cut_by c object) q))) none)
    where
      by : (u v : Bool) (d : Option Dirty) → nat_lt q n ≡ u → nat_eq (q + 1) n ≡ v
          → or_else (byte_in (if u then d else None)) (if u then (if v then Some (unwrap_or (found_at object q) 0) else found_at object q)
          else None)
          ≡ (if u then (if v then Some (unwrap_or (or_else (byte_in d) (found_at object q)) 0) else or_else (byte_in d) (found_at object q))
          else None)
      by false v d low last = refl
      by true true None low last = refl
      by true true (Some d) low last = refl
      by true false d low last = refl

  -- the pending cut was as long or longer
  shorter_cut : (c : ℕ) → p.pending ≡ Some c → n ≤ c → found_at (put_on (below n p.dirty) (cut_bytes n object)) q
      ≡ found_at (cut_bytes n (seen p object)) q
  shorter_cut c is less =
      made ∙ by (nat_lt q n) (nat_eq (q + 1) n) (nat_lt q c) (nat_eq (q + 1) c) (found_at p.dirty q) refl refl refl refl
      ∙ sym (wanted ∙ ap (λ k. ends n q (or_else (byte_in (found_at p.dirty q)) (found_at (cut_by k object) q))) is
      ∙ ap (λ y. ends n q (or_else (byte_in (found_at p.dirty q)) y)) (cut_found c object q))
    where
      by : (u v w x : Bool) (d : Option Dirty) → nat_lt q n ≡ u → nat_eq (q + 1) n ≡ v → nat_lt q c ≡ w → nat_eq (q + 1) c ≡ x
          → or_else (byte_in (if u then d else None)) (if u then (if v then Some (unwrap_or (found_at object q) 0) else found_at object q)
          else None)
          ≡ (if u then (if v then Some (unwrap_or (or_else (byte_in d)
          (if w then (if x then Some (unwrap_or (found_at object q) 0) else found_at object q) else None)) 0)
          else or_else (byte_in d) (if w then (if x then Some (unwrap_or (found_at object q) 0) else found_at object q) else None))
          else None)
      by false v w x d low last in_c at_c = refl
      by true v false x d low last in_c at_c = absurd (grind (arith, nat_tests, less))
      by true true true true None low last in_c at_c = refl
      by true true true false None low last in_c at_c = refl
      by true true true x (Some d) low last in_c at_c = refl
      by true false true true d low last in_c at_c = absurd (grind (arith, nat_tests, less))
      by true false true false d low last in_c at_c = refl

-- the pending cut was lesser: the object is made longer by its last byte
module _ (m c : ℕ) (p : Patch) (object : Object) (q : ℕ) (is : p.pending ≡ Some c) (less : c < suc m) where
  abbrev held : Places Dirty
  held = below (suc m) p.dirty

  abbrev under : Option ℕ
  under = found_at (cut_by p.pending object) q

  abbrev all : Option ℕ
  all = or_else (byte_in (found_at p.dirty q)) under

  none_past : suc m ≤ q + 1 → under ≡ None
  none_past far = ap (λ k. found_at (cut_by k object) q) is ∙ (object_cuts c object).drops q (omega (arith, far, less))

  found_held : found_at held q ≡ (if nat_lt q (suc m) then found_at p.dirty q else None)
  found_held = found_filter (λ k. nat_lt k (suc m)) p.dirty q

  -- what stands at the last offset
  last_is : (x : Option Dirty) → found_at held m ≡ x → q ≡ m → found_at p.dirty q ≡ x
  last_is x h same =
      let low : nat_lt q (suc m) ≡ true = grind (arith, nat_tests, same) in
      sym (found_held ∙ ap (λ v. if v then found_at p.dirty q else None) low) ∙ ap (λ k. found_at held k) same ∙ h

  with_last : (d : Dirty) → found_at held m ≡ Some d → or_else (byte_in (found_at held q)) under ≡ ends (suc m) q all
  with_last d h = ap (λ x. or_else (byte_in x) under) found_held ∙ by (nat_lt q (suc m)) (nat_eq (q + 1) (suc m)) refl refl
    where
      by : (u v : Bool) → nat_lt q (suc m) ≡ u → nat_eq (q + 1) (suc m) ≡ v
          → or_else (byte_in (if u then found_at p.dirty q else None)) under
          ≡ (if u then (if v then Some (unwrap_or all 0) else all) else None)
      by false v low last = none_past (grind (arith, nat_tests))
      by true false low last = refl
      by true true low last =
          let there : found_at p.dirty q ≡ Some d = last_is (Some d) h (grind (arith, nat_tests)) in
          ap (λ x. or_else (byte_in x) under) there ∙ sym (ap (λ x. Some (unwrap_or (or_else (byte_in x) under) 0)) there)

  without_last : found_at held m ≡ None → or_else (byte_in (found_at (laid m (fresh (0 ∷ [])) held) q)) under ≡ ends (suc m) q all
  without_last h =
      ap (λ x. or_else (byte_in x) under) (found_laid m (fresh (0 ∷ [])) held q
      ∙ ap (λ x. if nat_eq q m then Some (record { byte = 0; flies = false }) else x) found_held)
      ∙ by (nat_lt q (suc m)) (nat_eq (q + 1) (suc m)) (nat_eq q m) refl refl refl
    where
      by : (u v w : Bool) → nat_lt q (suc m) ≡ u → nat_eq (q + 1) (suc m) ≡ v → nat_eq q m ≡ w
          → or_else (byte_in (if w then Some (record { byte = 0; flies = false }) else (if u then found_at p.dirty q else None))) under
          ≡ (if u then (if v then Some (unwrap_or all 0) else all) else None)
      by false v true low last same = absurd (grind (arith, nat_tests))
      by false v false low last same = none_past (grind (arith, nat_tests))
      by true false true low last same = absurd (grind (arith, nat_tests))
      by true false false low last same = refl
      by true true false low last same = absurd (grind (arith, nat_tests))
      by true true true low last same =
          let there : found_at p.dirty q ≡ None = last_is None h (grind (arith, nat_tests)) in
          sym (ap (λ x. Some (unwrap_or (or_else (byte_in x) under) 0)) there
          ∙ ap (λ x. Some (unwrap_or x 0)) (none_past (grind (arith, nat_tests))))

  longer_cut : found_at (seen (ended (suc m) (record p { dirty = held })) object) q ≡ found_at (cut_bytes (suc m) (seen p object)) q
  longer_cut = by (found_at held m) refl ∙ sym (cut_found (suc m) (seen p object) q
      ∙ ap (ends (suc m) q) (found_put_on p.dirty (cut_by p.pending object) q))
    where
      by : (x : Option Dirty) → found_at held m ≡ x → found_at (seen
          (if is_some x then record p { dirty = held } else written m (0 ∷ []) (record p { dirty = held })) object) q ≡ ends (suc m) q all
      by (Some d) h = found_put_on held (cut_by p.pending object) q ∙ with_last d h
      by None h = found_put_on (laid m (fresh (0 ∷ [])) held) (cut_by p.pending object) q ∙ without_last h

-- ---- a cut

cut_at : (n : ℕ) (p : Patch) (object : Object) (q : ℕ) → found_at (seen (cut n p) object) q ≡ found_at (cut_bytes n (seen p object)) q
cut_at n p object q = by p.pending refl
  where
    by : (pending : Option ℕ) → p.pending ≡ pending → found_at (seen (cut_over n (record p { dirty = below n p.dirty }) pending) object) q
        ≡ found_at (cut_bytes n (seen p object)) q
    by None is = first_cut n p object q is
    by (Some c) is = split (nat_lt c n) refl
      where
        longer : (n : ℕ) → c < n → found_at (seen (ended n (record p { dirty = below n p.dirty })) object) q
            ≡ found_at (cut_bytes n (seen p object)) q
        longer zero less = absurd (omega (arith, less))
        longer (suc m) less = longer_cut m c p object q is less

        split : (v : Bool) → nat_lt c n ≡ v
            → found_at (seen (if v then ended n (record p { dirty = below n p.dirty })
            else record { pending = Some n; dirty = below n p.dirty; flight = p.flight }) object) q
            ≡ found_at (cut_bytes n (seen p object)) q
        split true less = longer n (grind (arith, nat_tests))
        split false less = shorter_cut n p object q c is (grind (arith, nat_tests))

pub cuts_what_is_seen : CutsWhatIsSeen
cuts_what_is_seen n p object rises =
    same_map 0 (seen (cut n p) object) (cut_bytes n (seen p object)) (rising_seen (cut n p) object rises)
    ((object_cuts n (seen p object)).rises (rising_seen p object rises)) (λ q from. cut_at n p object q)
