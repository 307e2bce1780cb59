-- A client's changes of one object: a pending cut, and dirty bytes over it (this project's profile).
use Rattle.std.specs.Prelude.{ℕ, zero, suc, ◌-◌, ◌^◌, max, nat_lt, nat_le, ◌==◌, ◌&&◌, ◌||◌, if◌then◌else◌, Bool, true, false, not, List}
use Rattle.std.specs.Prelude.{[], ◌∷◌, length, map, filter, Option, Some, None, is_some}
use Rattle.lu_base.specs.declared.locks.Extent.{Extent}
use Rattle.lu_spec_entries.specs.declared.changes.Dirty.{Dirty}
use Rattle.lu_spec_entries.specs.declared.changes.Flush.{Flush}
use Rattle.lu_spec_entries.specs.declared.changes.Flush.TheVariants.{Cut, Put}
use Rattle.lu_spec_machine.specs.Places.{Places, found_at, below, laid, inside, end_of}
use Rattle.lu_spec_client.specs.Bytes.{first_run}

-- What is under way of a write-back: the cut to a size, or the bytes that fly.
pub data Flying : Type 0 where
  CutFlies : (size : ℕ) → Flying
  BytesFly : Flying

pub record Patch : Type 0 where
  pub pending : Option ℕ
  pub dirty : Places Dirty
  pub flight : Option Flying

abbrev pub clean : Patch
clean = record { pending = None; dirty = []; flight = None }

-- ---- what a change leaves

-- bytes that were written and not sent
abbrev pub fresh : List ℕ → List Dirty
fresh bs = map {A = ℕ} {B = Dirty} (λ b. record { byte = b; flies = false }) bs

abbrev pub written : ℕ → List ℕ → Patch → Patch
written at bs p = record p { dirty = laid at (fresh bs) p.dirty }

-- the byte before n is 0 where the patch has none
abbrev pub ended : ℕ → Patch → Patch
ended zero p = p
ended (suc n) p = if is_some (found_at p.dirty n) then p else written n (0 ∷ []) p

-- a lesser cut is pending already: the object is made longer again by its last byte
abbrev pub cut_over : ℕ → Patch → Option ℕ → Patch
cut_over n p None = record p { pending = Some n }
cut_over n p (Some q) = if nat_lt q n then ended n p else record p { pending = Some n }

-- what stood from n on goes
abbrev pub cut : ℕ → Patch → Patch
cut n p = cut_over n (record p { dirty = below n p.dirty }) p.pending

-- ---- what the patch makes of the object

abbrev pub base : Option ℕ → ℕ → ℕ
base None server = server
base (Some q) server = q

-- the object's size, where the server's is known
abbrev pub size_over : ℕ → Patch → ℕ
size_over server p = max (base p.pending server) (end_of p.dirty)

abbrev pub cut_at : Option ℕ → ℕ → Option ℕ → Option ℕ
cut_at None p x = x
cut_at (Some q) p x = if nat_lt p q then x else Some 0

-- a byte as a read takes it, over what is known of the object
abbrev pub over_at : Option Dirty → Option ℕ → ℕ → Option ℕ → Option ℕ
over_at (Some d) pending p known = Some d.byte
over_at None pending p known = cut_at pending p known

abbrev pub reads_at : Patch → ℕ → Option ℕ → Option ℕ
reads_at patch p known = over_at (found_at patch.dirty p) patch.pending p known

-- ---- write-back

-- a cut changes the positions from one before it on
abbrev pub to_end : ℕ → Extent
to_end n = record { first = n; last = 2 ^ 64 - 1 }

abbrev pub cut_extent : ℕ → Extent
cut_extent n = to_end (n - 1)

abbrev pub holds_extent : Extent → Extent → Bool
holds_extent outer inner = nat_le outer.first inner.first && nat_le inner.last outer.last

abbrev pub cut_within : Extent → Option ℕ → Option ℕ
cut_within extent None = None
cut_within extent (Some q) = if holds_extent extent (cut_extent q) then Some q else None

abbrev pub bytes_of : List Dirty → List ℕ
bytes_of run = map (λ (d : Dirty). d.byte) run

abbrev pub put_of : Option (ℕ × List Dirty) → Option Flush
put_of None = None
put_of (Some run) = Some (Put run.0 (bytes_of run.1))

abbrev pub flush_with : Option ℕ → Places Dirty → Option Flush
flush_with (Some q) m = Some (Cut q)
flush_with None m = put_of (first_run m)

-- the next write-back under a lock: the cut first, then the dirty run of least offset, which ends with its page
-- and with the lock
abbrev pub next_flush : Extent → Patch → Option Flush
next_flush extent p = flush_with (cut_within extent p.pending) (inside extent p.dirty)

-- there is a change under the lock
abbrev pub has_change : Extent → Patch → Bool
has_change extent p = is_some (cut_within extent p.pending) || is_some (first_run (inside extent p.dirty))

-- how many dirty bytes are under a lock
abbrev pub dirty_in : Extent → Patch → ℕ
dirty_in extent p = length (inside extent p.dirty)

-- bytes that were sent
abbrev pub sent : List ℕ → List Dirty
sent bs = map {A = ℕ} {B = Dirty} (λ b. record { byte = b; flies = true }) bs

abbrev pub flown : Flush → Patch → Patch
flown (Cut n) p = record p { flight = Some (CutFlies n) }
flown (Put at bs) p = record { pending = p.pending; dirty = laid at (sent bs) p.dirty; flight = Some BytesFly }

-- the patch once what is to be written back, if anything, is under way
abbrev pub taken : Option Flush → Patch → Patch
taken None p = p
taken (Some flush) p = flown flush p

-- its answer takes away what was in flight and wasn't touched since; a cut of another number stays
abbrev pub other_cut : ℕ → Option ℕ → Option ℕ
other_cut n None = None
other_cut n (Some q) = if q == n then None else Some q

abbrev pub landed : Places Dirty → Places Dirty
landed m = filter (λ (e : ℕ × Dirty). not e.1.flies) m

abbrev pub acked_flight : Patch → Option Flying → Patch
acked_flight p None = p
acked_flight p (Some (CutFlies n)) = record { pending = other_cut n p.pending; dirty = p.dirty; flight = None }
acked_flight p (Some BytesFly) = record { pending = p.pending; dirty = landed p.dirty; flight = None }

abbrev pub acked : Patch → Patch
acked p = acked_flight p p.flight

abbrev pub in_flight : Patch → Bool
in_flight p = is_some p.flight
