-- Sizes that are kept stay at most 2^40, whatever comes and goes.
use Rattle.std.proofs.Common.{◌≡◌, ℕ, ◌^◌, ◌≤◌, Bool, true, false, cond, List, [], ◌∷◌, filter, Option, Some, None, sym, subst, arith}
use Rattle.std.specs.Prelude.{if◌then◌else◌, IfSome, Result, Ok, Err, OnOk, OnErr}
use Rattle.lu_base.specs.declared.ids.Cookie.{Cookie}
use Rattle.lu_base.specs.declared.locks.Lock.{Lock}
use Rattle.lu_base.specs.declared.locks.Policy.{Policy}
use Rattle.lu_base.specs.declared.locks.Policy.TheVariants.{Bits, Range}
use Rattle.lu_base.specs.declared.locks.Resource.{Resource}
use Rattle.lu_held.specs.Locks.{same_resource, reaches_end}
use Rattle.lu_spec_entries.specs.declared.changes.Flush.{Flush}
use Rattle.lu_spec_entries.specs.declared.changes.Flush.TheVariants.{Cut, Put}
use Rattle.lu_cache.specs.Cached.{Cached}
use Rattle.lu_cache.specs.Kept.{Fits}
use Rattle.lu_spec_client.specs.Caches.{Note, is_note, noted, with_note, size_kept, grown, grown_note, grown_notes, forgotten_notes}
use Rattle.lu_client_store.specs.Stored.{IsInFile}
use Rattle.lu_client_store.specs.Bounds.{AreShort}

short_filter : (test : Note → Bool) (notes : List Note) → AreShort notes → AreShort (filter test notes)
short_filter test [] short = tt
short_filter test (note ∷ notes) short = by (test note) (short_filter test notes short.1)
  where
    by : (v : Bool) → AreShort (filter test notes) → AreShort (cond v (note ∷ filter test notes) (filter test notes))
    by true rest = (short.0, rest)
    by false rest = rest

short_with : (r : Resource) (cookie : Cookie) (n : ℕ) (notes : List Note) → n ≤ 2 ^ 40 → AreShort notes
    → AreShort (with_note r cookie n notes)
short_with r cookie n notes less short = (less, short_filter _ notes short)

pub short_kept : (l : Lock) (size : Option ℕ) (notes : List Note) → IfSome size (λ (n : ℕ). n ≤ 2 ^ 40) → AreShort notes
    → AreShort (size_kept l size notes)
short_kept l None notes less short = short
short_kept l (Some size) notes less short = by (reaches_end l.ask.policy)
  where
    by : (v : Bool) → AreShort (if v then with_note l.resource l.cookie size notes else notes)
    by true = short_with l.resource l.cookie size notes less short
    by false = short

-- such a change fits 64 bits
pub fits_in_file : (change : Flush) → IsInFile change → Fits change
fits_in_file (Cut n) fits = tt
fits_in_file (Put at bs) fits = omega (arith, fits)

grown_short : (change : Flush) (size : ℕ) → IsInFile change → size ≤ 2 ^ 40 → grown change size ≤ 2 ^ 40
grown_short (Cut n) size fits less = fits
grown_short (Put at bs) size fits less = omega (arith, fits, less)

note_short : (r : Resource) (change : Flush) (note : Note) → IsInFile change → note.number ≤ 2 ^ 40
    → (grown_note r change note).number ≤ 2 ^ 40
note_short r change note fits less = by (same_resource note.resource r)
  where
    by : (v : Bool) → (if v then record note { number = grown change note.number } else note).number ≤ 2 ^ 40
    by true = grown_short change note.number fits less
    by false = less

pub short_grown : (r : Resource) (change : Flush) (notes : List Note) → IsInFile change → AreShort notes
    → AreShort (grown_notes r change notes)
short_grown r change [] fits short = tt
short_grown r change (note ∷ notes) fits short = (note_short r change note fits short.0, short_grown r change notes fits short.1)

pub short_forgotten : (policy : Policy) (l : Lock) (notes : List Note) → AreShort notes → AreShort (forgotten_notes policy l notes)
short_forgotten (Bits bits) l notes short = short
short_forgotten (Range extent) l notes short = short_filter _ notes short

-- what is kept for a lock
pub noted_short : (r : Resource) (cookie : Cookie) (notes : List Note) → AreShort notes
    → IfSome (noted r cookie notes) (λ (n : ℕ). n ≤ 2 ^ 40)
noted_short r cookie [] short = tt
noted_short r cookie (note ∷ notes) short = by (is_note r cookie note) (noted_short r cookie notes short.1)
  where
    by : (v : Bool) → IfSome (noted r cookie notes) (λ (n : ℕ). n ≤ 2 ^ 40)
        → IfSome (if v then Some note.number else noted r cookie notes) (λ (n : ℕ). n ≤ 2 ^ 40)
    by true rest = short.0
    by false rest = rest

-- ---- what is known after a step

pub short_then : (made new : Cached) → new ≡ made → AreShort made.sizes → AreShort new.sizes
short_then made new is short = subst (λ (k : Cached). AreShort k.sizes) (sym is) short

-- that may have failed
pub short_either : {T E : Type 0} (r : Result T E) (old made new : Cached) → OnOk r (new ≡ made) → OnErr r (new ≡ old) → AreShort made.sizes
    → AreShort old.sizes → AreShort new.sizes
short_either (Ok x) old made new ok err short before = short_then made new ok short
short_either (Err x) old made new ok err short before = short_then old new err before
