-- A client's patch of an object, position by position.
use Rattle.std.proofs.Common.{◌≡◌, ⊎_elim, ℕ, zero, suc, ◌+◌, ◌-◌, ◌<◌, ◌≤◌, Bool, true, false, List, [], ◌∷◌, length, Option, Some, None}
use Rattle.std.proofs.Common.{refl, sym, ap, subst, ◌∙◌, arith}
use Rattle.std.specs.Prelude.{nat_eq, nat_lt, nat_le, max, min, ◌%◌, ◌&&◌, not, take, is_some, if◌then◌else◌}
use Rattle.std.proofs.lemmas.Bool.Decides.{nat_tests}
use Rattle.lu_base.specs.declared.locks.Extent.{Extent}
use Rattle.lu_spec_bytes.specs.Runs.{page_size, run_from, first_run}
use Rattle.lu_lock.specs.Growth.{the_end}
use Rattle.lu_lock.specs.Overlap.{extents_meet}
use Rattle.lu_spec_machine.specs.Places.{Places, found_at, RisingFrom, below, is_in, inside}
use Rattle.lu_spec_machine.proofs.Places as places
use Rattle.lu_spec_machine.proofs.Places.{found_filter, found_laid, found_inside, rising_inside, none_before, in_parts}
use Rattle.lu_spec_entries.specs.declared.changes.Dirty.{Dirty}
use Rattle.lu_spec_entries.specs.declared.changes.Flush.{Flush}
use Rattle.lu_spec_entries.specs.declared.changes.Flush.TheVariants as flush
use Rattle.lu_spec_client.specs.Patches.{Patch, Flying, fresh, written, ended, cut_over, cut, sent, other_cut, landed, acked_flight, acked}
use Rattle.lu_spec_client.specs.Patches.{cut_within, holds_extent, cut_extent, bytes_of, put_of, flush_with}
use Rattle.lu_proof_bytes.specs.Object.Words as words
use Rattle.lu_proof_bytes.specs.Object.Words.{Write, Cut, Done, value, overlay, within}
use Rattle.lu_proof_bytes.specs.Object.Folds.{cut_by, dirty_cut, cut_acked, cut_below}
use Rattle.lu_proof_bytes.proofs.Object.Spot.{run_out, run_in}
use Rattle.lu_proof_objects.specs.Points.{byte_of, is_flying, dirty_at, flying_at}
use Rattle.lu_proof_objects.specs.Alike.{PatchMade, PatchTaken, BytesAcked, CutAcked, IsNext, NextIs, PutGoesFirst}
use Rattle.lu_proof_objects.proofs.Runs.{fresh_byte, fresh_flying, sent_byte, sent_flying, run_found}

-- ---- a call changes the object

-- what stands below
below_is : (n p : ℕ) (m : Places Dirty) → found_at (below n m) p ≡ (if nat_lt p n then found_at m p else None)
below_is n p m = found_filter (λ (q : ℕ). nat_lt q n) m p

ended_pending : (n : ℕ) (patch : Patch) → (ended n patch).pending ≡ patch.pending
ended_pending zero patch = refl
ended_pending (suc n) patch = by (is_some (found_at patch.dirty n))
  where
    by : (v : Bool) → (if v then patch else written n (0 ∷ []) patch).pending ≡ patch.pending
    by true = refl
    by false = refl

-- the byte right before the end is there then
ended_at : (n p : ℕ) (patch : Patch) → found_at (ended n patch).dirty p
    ≡ (if nat_eq (suc p) n && not (is_some (found_at patch.dirty p)) then Some (record { byte = 0; flies = false })
    else found_at patch.dirty p)
ended_at zero p patch = let other : nat_eq (suc p) 0 ≡ false = grind (arith, nat_tests) in rw other refl
ended_at (suc n) p patch = by (is_some (found_at patch.dirty n)) refl (nat_eq (suc p) (suc n)) refl
  where
    new : Dirty
    new = record { byte = 0; flies = false }

    one : (x : Option Dirty) → places.overlay n (new ∷ []) p x ≡ (if nat_eq p n then Some new else x)
    one x = refl

    by : (u : Bool) → is_some (found_at patch.dirty n) ≡ u → (v : Bool) → nat_eq (suc p) (suc n) ≡ v
        → found_at (if u then patch else written n (0 ∷ []) patch).dirty p
        ≡ (if v && not (is_some (found_at patch.dirty p)) then Some new else found_at patch.dirty p)
    by true u true v = let same : p ≡ n = grind (arith, nat_tests) in let there : is_some (found_at patch.dirty p) ≡ true =
        ap (λ (q : ℕ). is_some (found_at patch.dirty q)) same ∙ u in rw there refl
    by true u false v = refl
    by false u true v =
        let same : p ≡ n = grind (arith, nat_tests) in
        let none : is_some (found_at patch.dirty p) ≡ false = ap (λ (q : ℕ). is_some (found_at patch.dirty q)) same ∙ u in
        let here : nat_eq p n ≡ true = grind (arith, nat_tests) in
        found_laid n (new ∷ []) patch.dirty p ∙ rw (here, none) refl
    by false u false v = let other : nat_eq p n ≡ false = grind (arith, nat_tests) in found_laid n (new ∷ []) patch.dirty p ∙ rw other refl

cut_made : (n p : ℕ) (patch : Patch)
    → record {
      pending : (cut n patch).pending ≡ cut_by (Cut n) patch.pending;
      dirty : dirty_at (cut n patch) p ≡ dirty_cut n patch.pending p (dirty_at patch p);
      flying : flying_at (cut n patch) p ≡ (nat_lt p n && flying_at patch p);
    }
cut_made n p patch = by patch.pending
  where
    left : Patch
    left = record patch { dirty = below n patch.dirty }

    byte : (v : Bool) (x : Option Dirty) → byte_of (if v then x else None) ≡ (if v then byte_of x else None)
    byte true x = refl
    byte false x = refl

    flag : (v : Bool) (x : Option Dirty) → is_flying (if v then x else None) ≡ (v && is_flying x)
    flag true x = refl
    flag false x = refl

    plain_dirty : byte_of (found_at left.dirty p) ≡ (if nat_lt p n then dirty_at patch p else None)
    plain_dirty = ap byte_of (below_is n p patch.dirty) ∙ byte (nat_lt p n) (found_at patch.dirty p)

    plain_flying : is_flying (found_at left.dirty p) ≡ (nat_lt p n && flying_at patch p)
    plain_flying = ap is_flying (below_is n p patch.dirty) ∙ flag (nat_lt p n) (found_at patch.dirty p)

    ends_byte : (u v : Bool) (x : Option Dirty) → (v ≡ true → u ≡ true)
        → byte_of (if v && not (is_some (if u then x else None)) then Some (record { byte = 0; flies = false })
        else (if u then x else None)) ≡ (if u then (if v && true then Some (value (byte_of x)) else byte_of x) else None)
    ends_byte true true None h = refl
    ends_byte true true (Some d) h = refl
    ends_byte true false x h = refl
    ends_byte false true x h = absurd (let q = h refl in cc)
    ends_byte false false x h = refl

    ends_flag : (u v : Bool) (x : Option Dirty) → (v ≡ true → u ≡ true)
        → is_flying (if v && not (is_some (if u then x else None)) then Some (record { byte = 0; flies = false })
        else (if u then x else None)) ≡ (u && is_flying x)
    ends_flag true true None h = refl
    ends_flag true true (Some d) h = refl
    ends_flag true false x h = refl
    ends_flag false true x h = absurd (let q = h refl in cc)
    ends_flag false false x h = refl

    low : nat_eq (suc p) n ≡ true → nat_lt p n ≡ true
    low e = grind (arith, nat_tests)

    ended_is : (q : Option ℕ) → found_at (ended n (record left { pending = q })).dirty p
        ≡ (if nat_eq (suc p) n && not (is_some (if nat_lt p n then found_at patch.dirty p else None))
        then Some (record { byte = 0; flies = false }) else (if nat_lt p n then found_at patch.dirty p else None))
    ended_is q = ended_at n p (record left { pending = q }) ∙ ap
        (λ (x : Option Dirty). if nat_eq (suc p) n && not (is_some x) then Some (record { byte = 0; flies = false }) else x)
        (below_is n p patch.dirty)

    and_true : (v w : Bool) → w ≡ true → (v && w) ≡ (v && true)
    and_true v w e = ap (λ (x : Bool). v && x) e

    by : (q : Option ℕ)
        → record {
          pending : (cut_over n (record left { pending = q }) q).pending ≡ cut_by (Cut n) q;
          dirty : byte_of (found_at (cut_over n (record left { pending = q }) q).dirty p) ≡ dirty_cut n q p (dirty_at patch p);
          flying : is_flying (found_at (cut_over n (record left { pending = q }) q).dirty p) ≡ (nat_lt p n && flying_at patch p);
        }
    by None = record { pending = refl; dirty = plain_dirty; flying = plain_flying }
    by (Some q) = over (nat_lt q n) refl
      where
        over : (v : Bool) → nat_lt q n ≡ v
            → record {
              pending : (if v then ended n (record left { pending = Some q }) else record left { pending = Some n }).pending
                  ≡ (if nat_lt n q then Some n else Some q);
              dirty : byte_of (found_at (if v then ended n (record left { pending = Some q }) else record left { pending = Some n }).dirty
                  p) ≡ (if nat_lt p n then (if nat_eq (suc p) n && nat_lt q n then Some (value (dirty_at patch p)) else dirty_at patch p)
                  else None);
              flying : is_flying (found_at (if v then ended n (record left { pending = Some q })
                  else record left { pending = Some n }).dirty p) ≡ (nat_lt p n && flying_at patch p);
            }
        over true e =
            let not_below : nat_lt n q ≡ false = grind (arith, nat_tests) in
            record {
              pending = ended_pending n (record left { pending = Some q }) ∙ rw not_below refl;
              dirty = ap byte_of (ended_is (Some q)) ∙ ends_byte (nat_lt p n) (nat_eq (suc p) n) (found_at patch.dirty p) low
                  ∙ ap (λ (w : Bool). if nat_lt p n then (if nat_eq (suc p) n && w then Some (value (dirty_at patch p))
                  else dirty_at patch p) else None) (sym e);
              flying = ap is_flying (ended_is (Some q)) ∙ ends_flag (nat_lt p n) (nat_eq (suc p) n) (found_at patch.dirty p) low;
            }
        over false e = record {
          pending = least (nat_lt n q) refl;
          dirty = plain_dirty ∙ still (nat_lt p n) (nat_eq (suc p) n);
          flying =
              plain_flying;
        }
          where
            least : (w : Bool) → nat_lt n q ≡ w → Some n ≡ (if w then Some n else Some q)
            least true f = refl
            least false f = ap Some (let same : n ≡ q = grind (arith, nat_tests) in same)

            still : (u w : Bool) → (if u then dirty_at patch p else None)
                ≡ (if u then (if w && nat_lt q n then Some (value (dirty_at patch p)) else dirty_at patch p) else None)
            still true true = rw e refl
            still true false = refl
            still false w = refl

pub patch_made : PatchMade
patch_made (flush.Put at bs) patch p =
    let is = found_laid at (fresh bs) patch.dirty p in
    record {
      pending = refl;
      dirty = ap byte_of is ∙ fresh_byte at bs p (found_at patch.dirty p);
      flying = ap is_flying is
          ∙ fresh_flying at bs p (found_at patch.dirty p);
    }
patch_made (flush.Cut n) patch p = cut_made n p patch

-- ---- a change is taken

-- bytes that are there already
over_itself : (at : ℕ) (bs : List ℕ) (p : ℕ) (x : Option ℕ) → ((b : ℕ) → overlay at bs p None ≡ Some b → x ≡ Some b) → overlay at bs p x ≡ x
over_itself at bs p x same = by (within at bs p) refl
  where
    by : (v : Bool) → within at bs p ≡ v → overlay at bs p x ≡ x
    by true e = let r = run_in at bs p e in r.1 x ∙ sym (same r.0 (r.1 None))
    by false e = run_out at bs p x e

pub patch_taken : PatchTaken
patch_taken (flush.Put at bs) patch p carries =
    let is = found_laid at (sent bs) patch.dirty p in
    record {
      pending = refl;
      dirty = ap byte_of is ∙ sent_byte at bs p (found_at patch.dirty p) ∙ over_itself at bs p (dirty_at patch p) (carries p);
      flying = ap is_flying is ∙ sent_flying at bs p (found_at patch.dirty p);
    }
patch_taken (flush.Cut n) patch p carries = record { pending = refl; dirty = refl; flying = refl }

-- ---- it is answered

landed_at : (n p : ℕ) (m : Places Dirty) → RisingFrom n m → found_at (landed m) p
    ≡ (if is_flying (found_at m p) then None else found_at m p)
landed_at n p [] h = refl
landed_at n p (e ∷ m) h = by e.1.flies refl (nat_eq p e.0) refl (landed_at (e.0 + 1) p m h.1)
  where
    by : (u : Bool) → e.1.flies ≡ u → (v : Bool) → nat_eq p e.0 ≡ v → found_at (landed m) p
        ≡ (if is_flying (found_at m p) then None else found_at m p)
        → found_at (if not u then e ∷ landed m else landed m) p
        ≡ (if is_flying (if v then Some e.1 else found_at m p) then None else (if v then Some e.1 else found_at m p))
    by true u true v ih =
        let none : found_at m p ≡ None = none_before (e.0 + 1) p m h.1 (grind (arith, nat_tests)) in
        ih ∙ ap (λ (x : Option Dirty). if is_flying x then None else x) none ∙ rw u refl
    by true u false v ih = ih
    by false u true v ih = rw (v, u) refl
    by false u false v ih = rw v ih

pub bytes_acked : BytesAcked
bytes_acked patch p h flies =
    let is : found_at (acked patch).dirty p ≡ (if flying_at patch p then None else found_at patch.dirty p) =
    ap (λ (f : Option Flying). found_at (acked_flight patch f).dirty p) flies ∙ landed_at 0 p patch.dirty h in
    record {
      pending = ap (λ (f : Option Flying). (acked_flight patch f).pending) flies;
      dirty = ap byte_of is ∙ byte (flying_at patch p) (found_at patch.dirty p);
      flying = ap is_flying is ∙ flag (found_at patch.dirty p);
    }
  where
    byte : (v : Bool) (x : Option Dirty) → byte_of (if v then None else x) ≡ (if v then None else byte_of x)
    byte true x = refl
    byte false x = refl

    flag : (x : Option Dirty) → is_flying (if is_flying x then None else x) ≡ false
    flag None = refl
    flag (Some d) = by d.flies refl
      where
        by : (v : Bool) → d.flies ≡ v → is_flying (if v then None else Some d) ≡ false
        by true e = refl
        by false e = e

pub cut_acks : CutAcked
cut_acks patch n p lock number flies =
    record {
      pending = ap (λ (f : Option Flying). (acked_flight patch f).pending) flies ∙ other patch.pending;
      dirty = ap (λ (f : Option Flying). byte_of (found_at (acked_flight patch f).dirty p)) flies;
      flying = ap (λ (f : Option Flying). is_flying (found_at (acked_flight patch f).dirty p)) flies;
    }
  where
    other : (q : Option ℕ) → other_cut n q ≡ cut_acked (words.Flush lock (Cut n)) (Done number) q
    other None = refl
    other (Some q) = refl

-- ---- what is written back next

some_flush : (a b : Flush) → Some a ≡ Some b → a ≡ b
some_flush a b e = cc

-- a byte that is found inside the extent lies there
inside_is : (extent : Extent) (m : Places Dirty) (p b : ℕ) → byte_of (found_at (inside extent m) p) ≡ Some b → (is_in extent p ≡ true)
    × (byte_of (found_at m p) ≡ Some b)
inside_is extent m p b e = by (is_in extent p) refl (sym (ap byte_of (found_inside extent m p)) ∙ e)
  where
    by : (v : Bool) → is_in extent p ≡ v → byte_of (if v then found_at m p else None) ≡ Some b → (v ≡ true)
        × (byte_of (found_at m p) ≡ Some b)
    by true i e = (refl, e)
    by false i e = absurd (cc)

pub next_is : NextIs
next_is extent patch change rises e = by (cut_within extent patch.pending) refl e
  where
    cut_is : (q : Option ℕ) (size : ℕ) → cut_within extent q ≡ Some size → (q ≡ Some size) × (holds_extent extent (cut_extent size) ≡ true)
    cut_is None size e = absurd (cc)
    cut_is (Some q) size e = here (holds_extent extent (cut_extent q)) refl e
      where
        here : (v : Bool) → holds_extent extent (cut_extent q) ≡ v → (if v then Some q else None) ≡ Some size → (Some q ≡ Some size)
            × (holds_extent extent (cut_extent size) ≡ true)
        here true h e = (e, ap (λ (n : ℕ). holds_extent extent (cut_extent n)) (sym (let same : q ≡ size = cc in same)) ∙ h)
        here false h e = absurd (cc)

    put_is : cut_within extent patch.pending ≡ None → (m : Places Dirty) → inside extent patch.dirty ≡ m → RisingFrom extent.first m
        → put_of (first_run m) ≡ Some change → IsNext extent patch change
    put_is uncut [] is r e = absurd (cc)
    put_is uncut (x ∷ m) is r e = subst (IsNext extent patch) (some_flush (flush.Put x.0 run) change e)
        (record {
          uncut = uncut;
          some = some;
          carries = λ p b i. (there p b i).1;
          under = λ p w. let s = run_in x.0 run p w
              in (there p s.0 (s.1 None)).0;
        })
      where
        count : ℕ
        count = page_size - x.0 % page_size

        run : List ℕ
        run = bytes_of (take count (run_from x.0 (x ∷ m)))

        low : RisingFrom x.0 (x ∷ m)
        low = (omega arith, r.1)

        there : (p b : ℕ) → overlay x.0 run p None ≡ Some b → (is_in extent p ≡ true) × (dirty_at patch p ≡ Some b)
        there p b i = inside_is extent patch.dirty p b (ap (λ (n : Places Dirty). byte_of (found_at n p)) is
            ∙ run_found count x.0 p b (x ∷ m) low i)

        some : 0 < length run
        some = at_least count refl
          where
            within_page : x.0 % 4096 < 4096
            within_page = omega arith

            at_least : (k : ℕ) → count ≡ k → 0 < length (bytes_of (take k (run_from x.0 (x ∷ m))))
            at_least zero e = absurd (let w = within_page in omega (arith, e, w))
            at_least (suc k) e = first (nat_eq x.0 x.0) refl
              where
                first : (v : Bool) → nat_eq x.0 x.0 ≡ v → 0 < length
                    (bytes_of (take (suc k) (if v then x.1 ∷ run_from (x.0 + 1) m else [])))
                first true q = omega arith
                first false q = absurd (grind (arith, nat_tests))

    by : (q : Option ℕ) → cut_within extent patch.pending ≡ q → flush_with q (inside extent patch.dirty) ≡ Some change
        → IsNext extent patch change
    by (Some size) is e = subst (IsNext extent patch) (some_flush (flush.Cut size) change e) (cut_is patch.pending size is)
    by None is e = put_is is (inside extent patch.dirty) refl (rising_inside 0 extent patch.dirty rises) e

-- ---- where another lock is over the pending cut

pub put_goes_first : PutGoesFirst
put_goes_first extent patch at bs next over p low w = by patch.pending refl
  where
    by : (q : Option ℕ) → patch.pending ≡ q → cut_below q p ≡ false
    by None e = refl
    by (Some size) e = ⊎_elim
        (λ (h : holds_extent extent (cut_extent size) ≡ true). absurd
        (let uncut : cut_within extent (Some size) ≡ None = ap (cut_within extent) (sym e) ∙ next.uncut
        in let held : cut_within extent (Some size) ≡ Some size = rw h refl in cc))
        (λ (apart : extents_meet extent (cut_extent size) ≡ false). clear (in_parts extent p (next.under p w)) apart)
        (over size e)
      where
        clear : (extent.first ≤ p) × (p ≤ extent.last) → extents_meet extent (cut_extent size) ≡ false → nat_lt size (suc p) ≡ false
        clear i apart = cases (nat_lt size (suc p)) refl
          where
            cases : (v : Bool) → nat_lt size (suc p) ≡ v → v ≡ false
            cases false f = refl
            cases true f = absurd (let a = i.0 in let b = i.1 in let meets : extents_meet extent (cut_extent size) ≡ true =
                meet extent.first extent.last (size - 1) the_end p a b (grind (arith, nat_tests)) low in cc)
              where
                meet : (a b c d p : ℕ) → a ≤ p → p ≤ b → c ≤ p → p ≤ d → nat_le (max a c) (min b d) ≡ true
                meet a b c d p h i j k = grind (arith, nat_tests, h, i, j, k)
