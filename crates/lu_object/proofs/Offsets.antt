-- What a put and a cut make of the byte at one offset of an object.
use Rattle.std.proofs.Common.{◌≡◌, ◌≢◌, ℕ, zero, suc, ◌+◌, ◌-◌, ◌<◌, ◌≤◌, max, min, ◌⊎◌, inl, inr, Bool, true, false, List, [], ◌∷◌, length}
use Rattle.std.proofs.Common.{Option, Some, None, refl, sym, ap, ◌∙◌, subst, arith}
use Rattle.std.specs.Prelude.{nat_eq, nat_lt, nat_le, ◌==◌, ◌&&◌, if◌then◌else◌}
use Rattle.std.specs.Option.{unwrap_or}
use Rattle.std.proofs.lemmas.Bool.{eq-eqb}
use Rattle.std.proofs.lemmas.Bool.Decides.{nat_tests}
use Rattle.lu_base.specs.declared.locks.Extent.{Extent}
use Rattle.lu_lock.specs.Growth.{the_end}
use Rattle.lu_lock.specs.Overlap.{extents_meet}
use Rattle.lu_spec_machine.specs.Places.{found_at}
use Rattle.lu_spec_machine.specs.Objects.{Object, put_bytes, cut_bytes}
use Rattle.lu_spec_machine.proofs.Places.{overlay, found_laid, before_run, past_run}
use Rattle.lu_spec_machine.proofs.Objects.{object_puts, object_cuts}

abbrev pub only : ℕ → Extent
only q = record { first = q; last = q }

-- ---- the same byte before, the same after

pub put_same : (offset : ℕ) (bytes : List ℕ) (o p : Object) (q : ℕ) → found_at o q ≡ found_at p q → found_at (put_bytes offset bytes o) q
    ≡ found_at (put_bytes offset bytes p) q
put_same offset [] o p q same = same
put_same offset (b ∷ bs) o p q same = found_laid offset (b ∷ bs) o q ∙ ap (λ x. overlay offset (b ∷ bs) q x) same
    ∙ sym (found_laid offset (b ∷ bs) p q)

-- the byte right below the size
cut_last : (n q : ℕ) (o : Object) → q + 1 ≡ n → (x : Option ℕ) → found_at o q ≡ x → found_at (cut_bytes n o) q ≡ Some (unwrap_or x 0)
cut_last n q o is None there = (object_cuts n o).zero q is there
cut_last n q o is (Some b) there = (object_cuts n o).keeps q b (omega (arith, is)) there

places : (n q : ℕ) → (n ≤ q) ⊎ ((q + 1 < n) ⊎ (q + 1 ≡ n))
places n q = grind arith

pub cut_same : (n : ℕ) (o p : Object) (q : ℕ) → found_at o q ≡ found_at p q → found_at (cut_bytes n o) q ≡ found_at (cut_bytes n p) q
cut_same n o p q same = by (places n q)
  where
    by : (n ≤ q) ⊎ ((q + 1 < n) ⊎ (q + 1 ≡ n)) → found_at (cut_bytes n o) q ≡ found_at (cut_bytes n p) q
    by (inl past) = (object_cuts n o).drops q past ∙ sym ((object_cuts n p).drops q past)
    by (inr (inl below)) = (object_cuts n o).leaves q below ∙ same ∙ sym ((object_cuts n p).leaves q below)
    by (inr (inr last)) = cut_last n q o last (found_at p q) same ∙ sym (cut_last n q p last (found_at p q) refl)

-- ---- what isn't written stays

before_or_past : (first last q : ℕ) → extents_meet (record { first = first; last = last }) (only q) ≡ false → (q < first) ⊎ (last < q)
before_or_past first last q apart = by (nat_le (max first q) (min last q)) refl apart
  where
    by : (v : Bool) → nat_le (max first q) (min last q) ≡ v → v ≡ false → (q < first) ⊎ (last < q)
    by true is off = absurd (cc (off))
    by false is off = grind (arith, nat_tests)

pub put_stays : (offset : ℕ) (b : ℕ) (bs : List ℕ) (o : Object) (q : ℕ)
    → extents_meet (record { first = offset; last = offset + length bs }) (only q) ≡ false
    → found_at (put_bytes offset (b ∷ bs) o) q ≡ found_at o q
put_stays offset b bs o q apart = by (before_or_past offset (offset + length bs) q apart)
  where
    by : (q < offset) ⊎ (offset + length bs < q) → found_at (put_bytes offset (b ∷ bs) o) q ≡ found_at o q
    by (inl less) = (object_puts offset (b ∷ bs) o).leaves q (inl less)
    by (inr more) = (object_puts offset (b ∷ bs) o).leaves q (inr (omega (arith, more)))

pub cut_stays : (n : ℕ) (o : Object) (q : ℕ) → q ≤ the_end → extents_meet (record { first = max n 1 - 1; last = the_end }) (only q) ≡ false
    → found_at (cut_bytes n o) q ≡ found_at o q
cut_stays n o q within apart = by (before_or_past (max n 1 - 1) the_end q apart)
  where
    by : (q < max n 1 - 1) ⊎ (the_end < q) → found_at (cut_bytes n o) q ≡ found_at o q
    by (inl less) = (object_cuts n o).leaves q (omega (arith, less))
    by (inr more) = absurd (omega (arith, more, within))
