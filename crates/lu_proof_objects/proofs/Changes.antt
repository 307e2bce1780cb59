-- What lies under a lock of a patch: by its pending cut and its dirty bytes alone; and what is written back next under it.
use Rattle.std.proofs.Common.{◌≡◌, ◌⊎◌, inl, inr, ℕ, suc, ◌-◌, ◌≤◌, Bool, true, false, [], ◌∷◌, Option, Some, None, refl, sym, ap, ◌∙◌}
use Rattle.std.proofs.Common.{arith}
use Rattle.std.specs.Prelude.{nat_eq, nat_lt, nat_le, max, min, ◌&&◌, ◌||◌, is_some, if◌then◌else◌}
use Rattle.std.proofs.lemmas.Bool.Decides.{nat_tests}
use Rattle.std.proofs.lemmas.Bool.{and_parts, or_left, or_right}
use Rattle.lu_base.specs.declared.locks.Extent.{Extent}
use Rattle.lu_base.specs.declared.locks.Mode.{Mode}
use Rattle.lu_spec_bytes.specs.Runs.{first_run}
use Rattle.lu_lock.specs.Growth.{the_end}
use Rattle.lu_lock.specs.Overlap.{extents_meet}
use Rattle.lu_spec_machine.specs.Places.{Places, found_at, RisingFrom, is_in, inside}
use Rattle.lu_spec_machine.proofs.Places.{found_inside, in_parts, rising_laid}
use Rattle.lu_spec_entries.specs.declared.changes.Dirty.{Dirty}
use Rattle.lu_spec_entries.specs.declared.changes.Flush.{Flush}
use Rattle.lu_spec_entries.specs.declared.changes.Flush.TheVariants as flush
use Rattle.lu_spec_client.specs.Patches.{Patch, clean, sent, flown, cut_within, cut_extent, holds_extent, flush_with, next_flush}
use Rattle.lu_spec_client.specs.Patches.{has_change}
use Rattle.lu_proof_bytes.specs.Object.Words.{changes, covers, not_above}
use Rattle.lu_proof_bytes.specs.Object.Folds as folds
use Rattle.lu_proof_bytes.specs.Object.Folds.{cut_below}
use Rattle.lu_proof_objects.specs.Points.{byte_of, dirty_at, change_of, last_of, lock_at}
use Rattle.lu_proof_objects.specs.Alike.{Carries, IsNext, IsRange}
use Rattle.lu_proof_objects.proofs.Patches.{patch_taken, next_is, put_goes_first}
use Rattle.lu_proof_objects.specs.Oks.{IsFlush, flying_of}

-- ---- a change under an extent

abbrev pub Changed : Extent → Option ℕ → (ℕ → Option ℕ) → Type 0
Changed x q d = ((size : ℕ) × (q ≡ Some size) × (holds_extent x (cut_extent size) ≡ true))
    ⊎ ((p : ℕ) × (is_in x p ≡ true) × (folds.is_some (d p) ≡ true))

some_byte : (o : Option Dirty) → folds.is_some (byte_of o) ≡ is_some o
some_byte None = refl
some_byte (Some d) = refl

cut_held : (x : Extent) (q : Option ℕ) → is_some (cut_within x q) ≡ true → (size : ℕ) × (q ≡ Some size)
    × (holds_extent x (cut_extent size) ≡ true)
cut_held x None e = absurd (cc)
cut_held x (Some n) e = by (holds_extent x (cut_extent n)) refl e
  where
    by : (v : Bool) → holds_extent x (cut_extent n) ≡ v → is_some (if v then Some n else None) ≡ true → (size : ℕ) × (Some n ≡ Some size)
        × (holds_extent x (cut_extent size) ≡ true)
    by true h e = (n, refl, h)
    by false h e = absurd (cc)

run_held : (x : Extent) (m : Places Dirty) (n : Places Dirty) → inside x m ≡ n → is_some (first_run n) ≡ true → (p : ℕ) × (is_in x p ≡ true)
    × (is_some (found_at m p) ≡ true)
run_held x m [] is e = absurd (cc)
run_held x m (a ∷ n) is e = let r = by (is_in x a.0) refl (sym (found_inside x m a.0) ∙ ap (λ (i : Places Dirty). found_at i a.0) is ∙ here)
    in (a.0, r.0, r.1)
  where
    here : found_at (a ∷ n) a.0 ≡ Some a.1
    here = let same : nat_eq a.0 a.0 ≡ true = grind (arith, nat_tests) in rw same refl

    by : (v : Bool) → is_in x a.0 ≡ v → (if v then found_at m a.0 else None) ≡ Some a.1 → (is_in x a.0 ≡ true)
        × (is_some (found_at m a.0) ≡ true)
    by true i f = (i, ap (λ (o : Option Dirty). is_some o) f)
    by false i f = absurd (cc)

pub changed_of : (x : Extent) (patch : Patch) → has_change x patch ≡ true → Changed x patch.pending (dirty_at patch)
changed_of x patch e = by (is_some (cut_within x patch.pending)) refl e
  where
    by : (v : Bool) → is_some (cut_within x patch.pending) ≡ v → (v || is_some (first_run (inside x patch.dirty))) ≡ true
        → Changed x patch.pending (dirty_at patch)
    by true c e = inl (cut_held x patch.pending c)
    by false c e = let r = run_held x patch.dirty (inside x patch.dirty) refl e
        in inr (r.0, r.1, some_byte (found_at patch.dirty r.0) ∙ r.2)

run_there : (n : Places Dirty) (p : ℕ) → is_some (found_at n p) ≡ true → is_some (first_run n) ≡ true
run_there [] p e = absurd (cc)
run_there (a ∷ n) p e = refl

pub of_changed : (x : Extent) (patch : Patch) → Changed x patch.pending (dirty_at patch) → has_change x patch ≡ true
of_changed x patch (inl (size, e, h)) = or_left (is_some (cut_within x patch.pending)) (is_some (first_run (inside x patch.dirty)))
    (ap (λ (q : Option ℕ). is_some (cut_within x q)) e ∙ rw h refl)
of_changed x patch (inr (p, i, s)) =
    or_right (is_some (cut_within x patch.pending)) (is_some (first_run (inside x patch.dirty)))
    (run_there (inside x patch.dirty) p (ap (λ (o : Option Dirty). is_some o) (found_inside x patch.dirty p)
    ∙ rw i (sym (some_byte (found_at patch.dirty p)) ∙ s)))

-- ---- what is taken to be written back leaves the change there

pub taken_changes : (change : Flush) (x : Extent) (patch : Patch) → Carries patch change → has_change x patch ≡ true
    → has_change x (flown change patch) ≡ true
taken_changes change x patch c e = of_changed x (flown change patch) (by (changed_of x patch e))
  where
    by : Changed x patch.pending (dirty_at patch) → Changed x (flown change patch).pending (dirty_at (flown change patch))
    by (inl (size, p, h)) = inl (size, (patch_taken change patch 0 c).pending ∙ p, h)
    by (inr (p, i, s)) = inr (p, i, ap (λ (o : Option ℕ). folds.is_some o) (patch_taken change patch p c).dirty ∙ s)

pub flown_rises : (change : Flush) (patch : Patch) → RisingFrom 0 patch.dirty → RisingFrom 0 (flown change patch).dirty
flown_rises (flush.Put at bs) patch r = rising_laid at (sent bs) patch.dirty r
flown_rises (flush.Cut n) patch r = r

pub flown_flies : (change : Flush) (patch : Patch) → (flown change patch).flight ≡ Some (flying_of change)
flown_flies (flush.Put at bs) patch = refl
flown_flies (flush.Cut n) patch = refl

-- ---- what is next

next_of : (x : Extent) (patch : Patch) (change : Flush) (q : Option ℕ) → cut_within x patch.pending ≡ q → (m : Places Dirty)
    → inside x patch.dirty ≡ m → flush_with q m ≡ Some change → has_change x patch ≡ true
next_of x patch change (Some n) c m i e = or_left (is_some (cut_within x patch.pending)) (is_some (first_run (inside x patch.dirty)))
    (ap (λ (o : Option ℕ). is_some o) c)
next_of x patch change None c [] i e = absurd (cc)
next_of x patch change None c (a ∷ m) i e = or_right (is_some (cut_within x patch.pending)) (is_some (first_run (inside x patch.dirty)))
    (ap (λ (n : Places Dirty). is_some (first_run n)) i)

pub next_changes : (x : Extent) (patch : Patch) (change : Flush) → next_flush x patch ≡ Some change → has_change x patch ≡ true
next_changes x patch change e = next_of x patch change (cut_within x patch.pending) refl (inside x patch.dirty) refl e

pub none_next : (x : Extent) (change : Flush) → next_flush x clean ≡ Some change → ⊥
none_next x change e = cc

-- it is bytes of the patch before any pending cut, or that cut, where a lock over the cut doesn't meet this one or is this one
pub next_flushes : (x : Extent) (patch : Patch) (change : Flush) → IsRange x → RisingFrom 0 patch.dirty → next_flush x patch ≡ Some change
    → ((size : ℕ) → patch.pending ≡ Some size → (holds_extent x (cut_extent size) ≡ true) ⊎ (extents_meet x (cut_extent size) ≡ false))
    → IsFlush patch change × Carries patch change
next_flushes x patch change range r e over = by change (next_is x patch change r e)
  where
    by : (c : Flush) → IsNext x patch c → IsFlush patch c × Carries patch c
    by (flush.Put at bs) n = (
      (
        λ p w. put_goes_first x patch at bs n over p
            (let i = (in_parts x p (n.under p w)).1 in let l = range.1 in omega (arith, i, l)) w,
        n.carries,
      ),
      n.carries,
    )
    by (flush.Cut size) n = (n.0, tt)

-- and the lock covers all that it may change
pub above_end : (p last : ℕ) → the_end ≤ last → last ≤ the_end → not_above p (last_of last) ≡ true
above_end p last low high = by (nat_eq last the_end) refl
  where
    by : (v : Bool) → nat_eq last the_end ≡ v → not_above p (if v then None else Some last) ≡ true
    by true e = refl
    by false e = absurd (grind (arith, nat_tests, low, high))

pub above_last : (p last : ℕ) → p ≤ last → not_above p (last_of last) ≡ true
above_last p last low = by (nat_eq last the_end)
  where
    by : (v : Bool) → not_above p (if v then None else Some last) ≡ true
    by true = refl
    by false = grind (arith, nat_tests, low)

pub next_covered : (c life : ℕ) (mode : Mode) (x : Extent) (patch : Patch) (change : Flush) → IsRange x → RisingFrom 0 patch.dirty
    → next_flush x patch ≡ Some change
    → (p : ℕ) → changes (change_of change) p ≡ true → covers (lock_at c life mode x) p ≡ true
next_covered c life mode x patch change range r e p w = by change (next_is x patch change r e) w
  where
    both : (a b : Bool) → a ≡ true → b ≡ true → (a && b) ≡ true
    both a b p q = rw (p, q) refl

    by : (f : Flush) → IsNext x patch f → changes (change_of f) p ≡ true → (nat_lt x.first (suc p) && not_above p (last_of x.last)) ≡ true
    by (flush.Put at bs) n w = let i = in_parts x p (n.under p w) in let a = i.0
        in both (nat_lt x.first (suc p)) (not_above p (last_of x.last)) (grind (arith, nat_tests, a)) (above_last p x.last i.1)
    by (flush.Cut size) n w =
        let h = and_parts (nat_le x.first (size - 1)) (nat_le the_end x.last) n.1 in
        let a = h.0 in
        let b = h.1 in
        both (nat_lt x.first (suc p)) (not_above p (last_of x.last)) (grind (arith, nat_tests, a, w))
        (above_end p x.last (grind (arith, nat_tests, b)) range.1)

-- ---- extents that meet

pub meet_at : (x y : Extent) (p : ℕ) → is_in x p ≡ true → is_in y p ≡ true → extents_meet x y ≡ true
meet_at x y p i j = by x.first x.last y.first y.last (in_parts x p i).0 (in_parts x p i).1 (in_parts y p j).0 (in_parts y p j).1
  where
    by : (a b c d : ℕ) → a ≤ p → p ≤ b → c ≤ p → p ≤ d → nat_le (max a c) (min b d) ≡ true
    by a b c d h i j k = grind (arith, nat_tests, h, i, j, k)

-- a lock over a cut meets what meets the cut
pub meet_cut : (x y : Extent) (size : ℕ) → holds_extent y (cut_extent size) ≡ true → extents_meet x (cut_extent size) ≡ true
    → extents_meet x y ≡ true
meet_cut x y size h m = let p = and_parts (nat_le y.first (size - 1)) (nat_le the_end y.last) h
    in by x.first x.last y.first y.last (size - 1) the_end p.0 p.1 m
  where
    by : (a b c d e f : ℕ) → nat_le c e ≡ true → nat_le f d ≡ true → nat_le (max a e) (min b f) ≡ true → nat_le (max a c) (min b d) ≡ true
    by a b c d e f h i j = grind (arith, nat_tests, h, i, j)

-- two locks over cuts, or to the end, meet there
pub meet_end : (x y : Extent) → x.first ≤ x.last → y.first ≤ y.last → x.last ≡ the_end → the_end ≤ y.last → y.last ≤ the_end
    → extents_meet x y ≡ true
meet_end x y a b c d e = by x.first x.last y.first y.last the_end a b c d e
  where
    by : (a b c d z : ℕ) → a ≤ b → c ≤ d → b ≡ z → z ≤ d → d ≤ z → nat_le (max a c) (min b d) ≡ true
    by a b c d z h i j k l = grind (arith, nat_tests, h, i, j, k, l)

pub cuts_meet : (x y : Extent) (size : ℕ) → IsRange x → IsRange y → holds_extent x (cut_extent size) ≡ true
    → holds_extent y (cut_extent size) ≡ true → extents_meet x y ≡ true
cuts_meet x y size a b h i =
    let p = (and_parts (nat_le x.first (size - 1)) (nat_le the_end x.last) h).1 in
    let q = (and_parts (nat_le y.first (size - 1)) (nat_le the_end y.last) i).1 in
    meet_end x y a.0 b.0 (same x.last the_end p a.1) (low y.last the_end q) b.1
  where
    low : (n z : ℕ) → nat_le z n ≡ true → z ≤ n
    low n z h = grind (arith, nat_tests, h)

    same : (n z : ℕ) → nat_le z n ≡ true → n ≤ z → n ≡ z
    same n z h i = grind (arith, nat_tests, h, i)
