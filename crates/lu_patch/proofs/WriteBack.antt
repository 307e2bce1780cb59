-- A flush that is applied and acknowledged leaves what is seen.
use Rattle.std.proofs.Common.{◌≡◌, ◌≢◌, ℕ, zero, suc, ◌+◌, ◌-◌, ◌%◌, ◌<◌, ◌≤◌, ◌⊎◌, inl, inr, Bool, true, false, cond, List, [], ◌∷◌, ◌++◌}
use Rattle.std.proofs.Common.{length, take, Option, Some, None, refl, sym, ap, subst, ◌∙◌, arith}
use Rattle.std.specs.Prelude.{nat_eq, nat_lt, nat_le, ◌==◌, ◌&&◌, is_some, map, filter, slice_index, if◌then◌else◌}
use Rattle.std.proofs.lemmas.Bool.{eq-eqb}
use Rattle.std.proofs.lemmas.Bool.Decides.{nat_tests}
use Rattle.lu_base.specs.declared.locks.Extent.{Extent}
use Rattle.lu_spec_entries.specs.declared.changes.Dirty.{Dirty}
use Rattle.lu_spec_entries.specs.declared.changes.Flush.{Flush}
use Rattle.lu_spec_entries.specs.declared.changes.Flush.TheVariants.{Cut, Put}
use Rattle.lu_spec_machine.specs.Places.{Places, found_at, RisingFrom, below, from, laid, is_in, inside}
use Rattle.lu_spec_machine.specs.Objects.{Object, put_bytes, cut_bytes, object_size}
use Rattle.lu_spec_machine.proofs.Places.{overlay, or_else, found_filter, found_on, found_inside, in_parts, rising_inside, none_before}
use Rattle.lu_spec_machine.proofs.Objects.{object_puts, object_cuts}
use Rattle.lu_spec_client.specs.Bytes.{page_size, run_from, first_run}
use Rattle.lu_spec_client.specs.Patches.{Patch, Flying, BytesFly, holds_extent, cut_extent, cut_within, bytes_of, put_of, flush_with}
use Rattle.lu_spec_client.specs.Patches.{next_flush, sent, landed, other_cut, acked_flight, flown, taken, acked}
use Rattle.lu_patch.specs.Sound.{NoneFlies, IsAtRest}
use Rattle.lu_patch.specs.Seen.{cut_by, put_on, seen}
use Rattle.lu_patch.specs.WriteBack.{applied, flushed, object_flushed, Spares}
use Rattle.lu_patch.specs.WriteBackLaws.{FlushIsUnseen}
use Rattle.lu_spec_bytes.proofs.Rising.{same_map}
use Rattle.lu_patch.proofs.Maps.{around}
use Rattle.lu_patch.proofs.Seen.{byte_in, found_put_on, rising_put_on, rising_cut_by, rising_seen}
use Rattle.lu_patch.proofs.Landings.{landed_run, none_flies}

-- ---- the run of least position

run_found : (at n : ℕ) (m : Places Dirty) (k : ℕ) → RisingFrom at m → k < length (bytes_of (take n (run_from at m)))
    → byte_in (found_at m (at + k)) ≡ Some (slice_index (bytes_of (take n (run_from at m))) k)
run_found at zero m k h less = absurd (omega (arith, less))
run_found at (suc n) [] k h less = absurd (omega (arith, less))
run_found at (suc n) (e ∷ m) k h less = by (e.0 == at) k refl less (λ j. run_found (at + 1) n m j)
  where
    by : (v : Bool) (k : ℕ) → (e.0 == at) ≡ v → k < length (bytes_of (take (suc n) (if v then e.1 ∷ run_from (at + 1) m else [])))
        → ((j : ℕ) → RisingFrom (at + 1) m → j < length (bytes_of (take n (run_from (at + 1) m))) → byte_in (found_at m (at + 1 + j))
        ≡ Some (slice_index (bytes_of (take n (run_from (at + 1) m))) j))
        → byte_in (found_at (e ∷ m) (at + k)) ≡ Some (slice_index (bytes_of (take (suc n) (if v then e.1 ∷ run_from (at + 1) m else []))) k)
    by false k same less ih = absurd (omega (arith, less))
    by true zero same less ih =
        let here : nat_eq (at + 0) e.0 ≡ true = eq-eqb (at + 0) e.0 (grind (arith, nat_tests)) in
        rw here refl
    by true (suc k) same less ih =
        let is : e.0 ≡ at = grind (arith, nat_tests) in
        let here : nat_eq (at + suc k) e.0 ≡ false = grind (arith, nat_tests) in
        let moved : at + suc k ≡ at + 1 + k = omega arith in
        rw here (ap (λ q. byte_in (found_at m q)) moved ∙ ih k (subst (λ (q : ℕ). RisingFrom (q + 1) m) is h.1) (omega (arith, less)))

-- ---- round a hole

found_around : (at n : ℕ) (m : Places Dirty) (q : ℕ) → found_at (around at n m) q
    ≡ or_else (if nat_lt q at then found_at m q else None) (if nat_le (at + n) q then found_at m q else None)
found_around at n m q =
    found_on (below at m) (from (at + n) m) q ∙ ap (λ x. or_else x (found_at (from (at + n) m) q)) (found_filter (λ k. nat_lt k at) m q)
    ∙ ap (λ x. or_else (if nat_lt q at then found_at m q else None) x) (found_filter (λ k. nat_le (at + n) k) m q)

around_out : (at n : ℕ) (m : Places Dirty) (q : ℕ) → (q < at) ⊎ (at + n ≤ q) → found_at (around at n m) q ≡ found_at m q
around_out at n m q h = found_around at n m q ∙ by (nat_lt q at) (nat_le (at + n) q) (found_at m q) refl refl h
  where
    by : (v w : Bool) (x : Option Dirty) → nat_lt q at ≡ v → nat_le (at + n) q ≡ w → (q < at) ⊎ (at + n ≤ q)
        → or_else (if v then x else None) (if w then x else None) ≡ x
    by true w (Some d) low high h = refl
    by true true None low high h = refl
    by true false None low high h = refl
    by false true x low high h = refl
    by false false x low high (inl h) = absurd (grind (arith, nat_tests, h))
    by false false x low high (inr h) = absurd (grind (arith, nat_tests, h))

around_in : (at n : ℕ) (m : Places Dirty) (q : ℕ) → at ≤ q → q < at + n → found_at (around at n m) q ≡ None
around_in at n m q low high =
    let one : nat_lt q at ≡ false = grind (arith, nat_tests, low) in
    let two : nat_le (at + n) q ≡ false = grind (arith, nat_tests, high) in
    found_around at n m q ∙ rw (one, two) refl

-- ---- a cut over an object

cut_keeps : (pending : Option ℕ) (object : Object) (q b : ℕ) → ((n : ℕ) → pending ≡ Some n → q < n) → found_at object q ≡ Some b
    → found_at (cut_by pending object) q ≡ Some b
cut_keeps None object q b under is = is
cut_keeps (Some n) object q b under is = (object_cuts n object).keeps q b (under n refl) is

-- what a cut leaves at a position depends on the object there alone
cut_same : (pending : Option ℕ) (one other : Object) (q : ℕ) → found_at one q ≡ found_at other q → found_at (cut_by pending one) q
    ≡ found_at (cut_by pending other) q
cut_same None one other q h = h
cut_same (Some n) one other q h = by (nat_lt q n) (nat_lt (q + 1) n) (found_at other q) refl refl refl
  where
    by : (v w : Bool) (x : Option ℕ) → nat_lt q n ≡ v → nat_lt (q + 1) n ≡ w → found_at other q ≡ x → found_at (cut_bytes n one) q
        ≡ found_at (cut_bytes n other) q
    by false w x low far is = let past : n ≤ q = grind (arith, nat_tests) in (object_cuts n one).drops q past
        ∙ sym ((object_cuts n other).drops q past)
    by true true x low far is = let deep : q + 1 < n = grind (arith, nat_tests) in (object_cuts n one).leaves q deep ∙ h
        ∙ sym ((object_cuts n other).leaves q deep)
    by true false (Some b) low far is = let less : q < n = grind (arith, nat_tests) in (object_cuts n one).keeps q b less (h ∙ is)
        ∙ sym ((object_cuts n other).keeps q b less is)
    by true false None low far is = let last : q + 1 ≡ n = grind (arith, nat_tests) in (object_cuts n one).zero q last (h ∙ is)
        ∙ sym ((object_cuts n other).zero q last is)

cut_again : (n : ℕ) (pending : Option ℕ) (object : Object) → pending ≡ Some n → cut_by (other_cut n pending) (cut_bytes n object)
    ≡ cut_by pending object
cut_again n None object is = absurd (cc (is))
cut_again n (Some c) object is = by (c == n) refl
  where
    same : c ≡ n
    same = cc (is)

    by : (v : Bool) → (c == n) ≡ v → cut_by (if v then None else Some c) (cut_bytes n object) ≡ cut_bytes c object
    by true test = ap (λ k. cut_bytes k object) (sym same)
    by false test = absurd (grind (arith, nat_tests, same))

-- ---- the pending cut under a lock

pub cut_is_pending : (within : Extent) (pending : Option ℕ) (n : ℕ) → cut_within within pending ≡ Some n → pending ≡ Some n
cut_is_pending within None n h = absurd (cc (h))
cut_is_pending within (Some c) n h = by (holds_extent within (cut_extent c)) h
  where
    by : (v : Bool) → (if v then Some c else None) ≡ Some n → Some c ≡ Some n
    by true h = h
    by false h = absurd (cc (h))

under_cut : (within : Extent) (pending : Option ℕ) → cut_within within pending ≡ None → Spares within pending → (q n : ℕ) → is_in within q
    ≡ true → pending ≡ Some n → q < n
under_cut within None h spares q n is same = absurd (cc (same))
under_cut within (Some c) h (inl holds) q n is same = absurd (by (holds_extent within (cut_extent c)) holds h)
  where
    by : (v : Bool) → v ≡ true → (if v then Some c else None) ≡ None → ⊥
    by true e h = absurd (cc (h))
    by false e h = absurd (cc (e))
under_cut within (Some c) h (inr ends) q n is same =
    let parts : q ≤ within.last = (in_parts within q is).1 in
    let value : c ≡ n = cc (same) in
    omega (arith, parts, ends, value)

-- ---- a put

module _ (within : Extent) (p : Patch) (object : Object) (rest : IsAtRest p) (e : ℕ × Dirty) (m : Places Dirty)
    (shape : inside within p.dirty ≡ e ∷ m) where
  abbrev bs : List ℕ
  bs = bytes_of (take (page_size - e.0 % page_size) (run_from e.0 (e ∷ m)))

  rises : RisingFrom e.0 (e ∷ m)
  rises = (omega arith, (subst (RisingFrom within.first) shape (rising_inside 0 within p.dirty rest.1.map.rising)).1)

  each : (k : ℕ) → k < length bs → (byte_in (found_at p.dirty (e.0 + k)) ≡ Some (slice_index bs k)) × (is_in within (e.0 + k) ≡ true)
  each k less =
      by (is_in within (e.0 + k)) refl
      (ap byte_in (sym (found_inside within p.dirty (e.0 + k))) ∙ ap (λ r. byte_in (found_at r (e.0 + k))) shape
      ∙ run_found e.0 (page_size - e.0 % page_size) (e ∷ m) k rises less)
    where
      by : (v : Bool) → is_in within (e.0 + k) ≡ v → byte_in (if v then found_at p.dirty (e.0 + k) else None) ≡ Some (slice_index bs k)
          → (byte_in (found_at p.dirty (e.0 + k)) ≡ Some (slice_index bs k)) × (is_in within (e.0 + k) ≡ true)
      by true test h = (h, test)
      by false test h = absurd (cc (h))

  module _ (under : (q n : ℕ) → is_in within q ≡ true → p.pending ≡ Some n → q < n) where
    put_out : (q : ℕ) → (q < e.0) ⊎ (e.0 + length bs ≤ q)
        → found_at (put_on (around e.0 (length bs) p.dirty) (cut_by p.pending (put_bytes e.0 bs object))) q ≡ found_at (seen p object) q
    put_out q h =
        found_put_on (around e.0 (length bs) p.dirty) (cut_by p.pending (put_bytes e.0 bs object)) q
        ∙ ap (λ x. or_else (byte_in x) (found_at (cut_by p.pending (put_bytes e.0 bs object)) q)) (around_out e.0 (length bs) p.dirty q h)
        ∙ ap (λ x. or_else (byte_in (found_at p.dirty q)) x) (cut_same p.pending (put_bytes e.0 bs object) object q
        ((object_puts e.0 bs object).leaves q h))
        ∙ sym (found_put_on p.dirty (cut_by p.pending object) q)

    put_in : (k : ℕ) → k < length bs
        → found_at (put_on (around e.0 (length bs) p.dirty) (cut_by p.pending (put_bytes e.0 bs object))) (e.0 + k)
        ≡ found_at (seen p object) (e.0 + k)
    put_in k less =
        found_put_on (around e.0 (length bs) p.dirty) (cut_by p.pending (put_bytes e.0 bs object)) (e.0 + k)
        ∙ ap (λ x. or_else (byte_in x) (found_at (cut_by p.pending (put_bytes e.0 bs object)) (e.0 + k)))
        (around_in e.0 (length bs) p.dirty (e.0 + k) (omega arith) (omega (arith, less)))
        ∙ cut_keeps p.pending (put_bytes e.0 bs object) (e.0 + k) (slice_index bs k) (λ n. under (e.0 + k) n (each k less).1)
        ((object_puts e.0 bs object).puts k less)
        ∙ sym (found_put_on p.dirty (cut_by p.pending object) (e.0 + k)
        ∙ ap (λ x. or_else x (found_at (cut_by p.pending object) (e.0 + k))) ((each k less).0))

    put_at : (q : ℕ) → found_at (put_on (around e.0 (length bs) p.dirty) (cut_by p.pending (put_bytes e.0 bs object))) q
        ≡ found_at (seen p object) q
    put_at q = by (nat_lt q e.0) (nat_le (e.0 + length bs) q) refl refl
      where
        by : (v w : Bool) → nat_lt q e.0 ≡ v → nat_le (e.0 + length bs) q ≡ w
            → found_at (put_on (around e.0 (length bs) p.dirty) (cut_by p.pending (put_bytes e.0 bs object))) q ≡ found_at (seen p object) q
        by true w low high = put_out q (inl (grind (arith, nat_tests)))
        by false true low high = put_out q (inr (grind (arith, nat_tests)))
        by false false low high =
            let less : q - e.0 < length bs = grind (arith, nat_tests) in
            let is : e.0 + (q - e.0) ≡ q = grind (arith, nat_tests) in
            subst (λ k. found_at (put_on (around e.0 (length bs) p.dirty) (cut_by p.pending (put_bytes e.0 bs object))) k
            ≡ found_at (seen p object) k) is (put_in (q - e.0) less)

    put_unseen : RisingFrom 0 object → put_on (landed (laid e.0 (sent bs) p.dirty)) (cut_by p.pending (put_bytes e.0 bs object))
        ≡ seen p object
    put_unseen rising =
        ap (λ r. put_on r (cut_by p.pending (put_bytes e.0 bs object))) (landed_run e.0 bs p.dirty (none_flies p rest))
        ∙ same_map 0 (put_on (around e.0 (length bs) p.dirty) (cut_by p.pending (put_bytes e.0 bs object))) (seen p object)
        (rising_put_on (around e.0 (length bs) p.dirty) (cut_by p.pending (put_bytes e.0 bs object))
        (rising_cut_by p.pending (put_bytes e.0 bs object) ((object_puts e.0 bs object).rises rising)))
        (rising_seen p object rising) (λ q from. put_at q)

-- ---- any flush

pub flush_is_unseen : FlushIsUnseen
flush_is_unseen within p object rest rising spares = by (cut_within within p.pending) (inside within p.dirty) refl refl
  where
    by : (c : Option ℕ) (m : Places Dirty) → cut_within within p.pending ≡ c → inside within p.dirty ≡ m
        → seen (acked (taken (flush_with c m) p)) (applied (flush_with c m) object) ≡ seen p object
    by (Some n) m is shape = ap (λ o. put_on p.dirty o) (cut_again n p.pending object (cut_is_pending within p.pending n is))
    by None [] is shape = ap (λ f. seen (acked_flight p f) object) rest.0
    by None (e ∷ m) is shape = put_unseen within p object rest e m shape
        (λ q n inner same. under_cut within p.pending is spares q n inner same) rising
