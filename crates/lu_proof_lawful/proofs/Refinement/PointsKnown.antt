-- What a client knows of an object, position by position: what bytes that come, bytes that become 0, a lock that goes, an end that grows
-- and
-- an offset that is shown make of it is what the theory's answers and changes do.
use Rattle.std.proofs.Common.{◌≡◌, ℕ, suc, zero, ◌+◌, ◌-◌, ◌*◌, ◌<◌, ◌≤◌, Bool, true, false, List, [], ◌∷◌, length, Option, Some, None}
use Rattle.std.proofs.Common.{refl, ap, ◌∙◌, arith}
use Rattle.std.specs.Prelude.{nat_eq, nat_lt, nat_le, ◌&&◌, ◌%◌, not, drop, if◌then◌else◌}
use Rattle.std.proofs.lemmas.Bool.Decides.{nat_tests}
use Rattle.lu_base.specs.declared.locks.Extent.{Extent}
use Rattle.lu_base.specs.declared.locks.Mode.{Mode}
use Rattle.lu_lock.specs.Growth.{the_end}
use Rattle.lu_spec_machine.specs.Places.{found_at, is_in, laid}
use Rattle.lu_spec_machine.proofs.Places.{found_filter, found_laid}
use Rattle.lu_spec_entries.specs.declared.changes.Flush.{Flush}
use Rattle.lu_spec_entries.specs.declared.changes.Flush.TheVariants as flush
use Rattle.lu_spec_client.specs.Bytes.{Bytes, outside, zeroed, page_size}
use Rattle.lu_spec_client.specs.Caches.{grown, shown_to}
use Rattle.lu_spec_client.specs.Messages.{padded, part_first, part_count}
use Rattle.lu_proof_bytes.specs.Object.Words.{Write, covers, not_above, overlay, end_after}
use Rattle.lu_proof_bytes.specs.Object.Folds as folds
use Rattle.lu_proof_bytes.specs.Object.Folds.{most, shown_write}
use Rattle.lu_proof_objects.specs.Points.{change_of, lock_at}
use Rattle.lu_proof_objects.proofs.Runs.{run_is}
use Rattle.lu_proof_lawful.specs.Projection.Locks.{last_byte, range_of}
use Rattle.lu_proof_lawful.specs.Projection.Requests.{bytes_from, top_from}

-- ---- bytes that are known

-- bytes come
pub fills_known : (at : ℕ) (bytes : List ℕ) (m : Bytes) (p : ℕ) → found_at (laid at bytes m) p ≡ overlay at bytes p (found_at m p)
fills_known at bytes m p = found_laid at bytes m p ∙ run_is at bytes p (found_at m p)

-- from a size on they become 0
pub zeroes_known : (n : ℕ) (m : Bytes) (p : ℕ) → found_at (zeroed n m) p
    ≡ (if nat_lt p n then found_at m p else folds.zeroed (found_at m p))
zeroes_known n [] p = by (nat_lt p n)
  where
    by : (v : Bool) → ◌≡◌ {A = Option ℕ} None (if v then None else None)
    by true = refl
    by false = refl
zeroes_known n (e ∷ m) p = by (nat_eq p e.0) refl (nat_lt e.0 n) refl (nat_lt p n) refl (zeroes_known n m p)
  where
    by : (u : Bool) → nat_eq p e.0 ≡ u → (v : Bool) → nat_lt e.0 n ≡ v → (w : Bool) → nat_lt p n ≡ w
        → found_at (zeroed n m) p ≡ (if nat_lt p n then found_at m p else folds.zeroed (found_at m p))
        → (if u then Some (if v then e.1 else 0) else found_at (zeroed n m) p)
        ≡ (if w then (if u then Some e.1 else found_at m p) else folds.zeroed (if u then Some e.1 else found_at m p))
    by true a true b true c ih = refl
    by true a true b false c ih = absurd (grind (arith, nat_tests))
    by true a false b true c ih = absurd (grind (arith, nat_tests))
    by true a false b false c ih = refl
    by false a v b w c ih = ih ∙ rw c refl

-- ---- a lock's range

-- it covers the offsets of its range, up to the greatest offset of an object
pub covers_is : (cookie life : ℕ) (mode : Mode) (extent : Extent) (p : ℕ) → p ≤ the_end → covers (lock_at cookie life mode extent) p
    ≡ is_in extent p
covers_is cookie life mode extent p low = by (nat_eq extent.last the_end) refl
  where
    by : (v : Bool) → nat_eq extent.last the_end ≡ v → (nat_lt extent.first (suc p) && not_above p (if v then None else Some extent.last))
        ≡ (nat_le extent.first p && nat_le p extent.last)
    by true e = grind (arith, nat_tests)
    by false e = grind (arith, nat_tests)

pub range_is : (cookie life : ℕ) (mode : Mode) (extent : Extent) → range_of (lock_at cookie life mode extent) ≡ extent
range_is cookie life mode extent = ap (λ (n : ℕ). record { first = extent.first; last = n }) (by (nat_eq extent.last the_end) refl)
  where
    by : (v : Bool) → nat_eq extent.last the_end ≡ v → last_byte (if v then None else Some extent.last) ≡ extent.last
    by true e = grind (arith, nat_tests)
    by false e = refl

-- the lock goes, and what was known under it
pub drops_known : (cookie life : ℕ) (mode : Mode) (extent : Extent) (m : Bytes) (p : ℕ) → p ≤ the_end
    → found_at (outside extent m) p ≡ (if covers (lock_at cookie life mode extent) p then None else found_at m p)
drops_known cookie life mode extent m p low = found_filter (λ q. not (is_in extent q)) m p
    ∙ by (is_in extent p) (covers (lock_at cookie life mode extent) p) (covers_is cookie life mode extent p low)
  where
    by : (v w : Bool) → w ≡ v → (if not v then found_at m p else None) ≡ (if w then None else found_at m p)
    by true true e = refl
    by true false e = absurd (cc)
    by false true e = absurd (cc)
    by false false e = refl

-- ---- a page

-- where the range has an offset of the page, its first one there is on that page
within_page : (page : ℕ) (extent : Extent) → 0 < part_count page extent → part_first page extent - page * page_size
    ≡ part_first page extent % page_size
within_page page extent some = omega (arith, some)

-- its bytes under the range
pub page_bytes : (page : ℕ) (extent : Extent) (bytes : List ℕ)
    → padded (drop (part_first page extent - page * page_size) bytes) (part_count page extent)
    ≡ bytes_from (part_first page extent) (part_count page extent) bytes
page_bytes page extent bytes = by (part_count page extent) refl
  where
    by : (n : ℕ) → part_count page extent ≡ n → padded (drop (part_first page extent - page * page_size) bytes) n
        ≡ padded (drop (part_first page extent % page_size) bytes) n
    by zero e = refl
    by (suc n) e = ap (λ (k : ℕ). padded (drop k bytes) (suc n)) (within_page page extent (omega (arith, e)))

-- the last byte of the page is shown
pub page_top : (page : ℕ) (extent : Extent) (b : ℕ) (bytes : List ℕ) → 0 < part_count page extent
    → top_from (part_first page extent) (b ∷ bytes) ≡ Some (page * page_size + length bytes)
page_top page extent b bytes some = ap (λ (k : ℕ). Some (k + length bytes)) (omega (arith, some))

-- ---- the end, and what was shown

-- a change that was answered makes the end what the theory's does, if it writes anything
pub grown_end : (change : Flush) (size : ℕ) → ((at : ℕ) → change ≡ flush.Put at [] → ⊥) → grown change size
    ≡ end_after (change_of change) size
grown_end (flush.Put at []) size some = absurd (some at refl)
grown_end (flush.Put at (b ∷ bytes)) size some = refl
grown_end (flush.Cut n) size some = refl

-- a further offset that was shown
pub shown_more : (last : ℕ) (x : Option ℕ) → Some (shown_to x last) ≡ most last x
shown_more last None = refl
shown_more last (Some before) = ap Some (omega arith)

-- the last of bytes that were written
pub shown_bytes : (at b : ℕ) (bytes : List ℕ) (x : Option ℕ) → Some (shown_to x (at + suc (length bytes) - 1))
    ≡ shown_write (Write at (b ∷ bytes)) x
shown_bytes at b bytes x = ap (λ (n : ℕ). Some (shown_to x n)) (omega arith) ∙ shown_more (at + length bytes) x
