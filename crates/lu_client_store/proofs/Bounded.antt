-- An object's changes stay below 2^40: what each step makes of a patch that lies below it, and what is written back.
use Rattle.std.proofs.Common.{◌≡◌, ℕ, zero, suc, ◌+◌, ◌-◌, ◌%◌, ◌^◌, ◌≤◌, ◌==◌, nat_lt, nat_le, Bool, true, false, cond, List, [], ◌∷◌}
use Rattle.std.proofs.Common.{◌++◌, length, filter, take, Option, Some, None, is_some, refl, sym, subst, arith}
use Rattle.std.specs.Prelude.{max, min, not, if◌then◌else◌, IfSome, Result, Ok, Err, IfOk, OnOk, OnErr}
use Rattle.std.proofs.lemmas.List.{length-map, length-take}
use Rattle.std.proofs.lemmas.Bool.Decides.{nat_tests}
use Rattle.lu_base.specs.declared.locks.Extent.{Extent}
use Rattle.lu_spec_entries.specs.declared.changes.Dirty.{Dirty}
use Rattle.lu_spec_entries.specs.declared.changes.Flush.{Flush}
use Rattle.lu_spec_entries.specs.declared.changes.Flush.TheVariants.{Cut, Put}
use Rattle.lu_spec_machine.specs.Places.{Places, found_at, below, from, placed, laid, is_in, inside, end_of}
use Rattle.lu_spec_client.specs.Bytes.{page_size, run_from}
use Rattle.lu_spec_client.specs.Patches.{Patch, Flying, CutFlies, BytesFly, clean, fresh, written, ended, cut_over, cut, base, size_over}
use Rattle.lu_spec_client.specs.Patches.{cut_extent, holds_extent, cut_within, bytes_of, flush_with, next_flush, sent, flown, taken}
use Rattle.lu_spec_client.specs.Patches.{other_cut, landed, acked_flight, acked}
use Rattle.lu_spec_client.specs.Caches.{made}
use Rattle.lu_client_store.specs.Stored.{IsInFile}
use Rattle.lu_client_store.specs.Bounds.{IsBounded}

-- ---- the end of what stands at places

pub end_filtered : {A : Type 0} (test : ℕ × A → Bool) (m : Places A) → end_of (filter test m) ≤ end_of m
end_filtered test [] = omega arith
end_filtered {A} test (e ∷ m) = by (test e) (end_filtered test m)
  where
    by : (v : Bool) → end_of (filter test m) ≤ end_of m → end_of (cond v (e ∷ filter test m) (filter test m)) ≤ max (e.0 + 1) (end_of m)
    by true rest = omega (arith, rest)
    by false rest = omega (arith, rest)

end_on : {A : Type 0} (a b : Places A) → end_of (a ++ b) ≡ max (end_of a) (end_of b)
end_on [] b = omega arith
end_on (e ∷ a) b = let rest : end_of (a ++ b) ≡ max (end_of a) (end_of b) = end_on a b in omega (arith, rest)

end_placed : {A : Type 0} (at : ℕ) (xs : List A) → end_of (placed at xs) ≤ at + length xs
end_placed at [] = omega arith
end_placed at (x ∷ xs) = let rest : end_of (placed (at + 1) xs) ≤ at + 1 + length xs = end_placed (at + 1) xs in omega (arith, rest)

pub end_laid : {A : Type 0} (n at : ℕ) (xs : List A) (m : Places A) → at + length xs ≤ n → end_of m ≤ n → end_of (laid at xs m) ≤ n
end_laid {A} n at xs m fits short =
    let low : end_of (below at m) ≤ end_of m = end_filtered (λ (e : ℕ × A). nat_lt e.0 at) m in
    let high : end_of (from (at + length xs) m) ≤ end_of m = end_filtered (λ (e : ℕ × A). nat_le (at + length xs) e.0) m in
    let put : end_of (placed at xs) ≤ at + length xs = end_placed at xs in
    let all : end_of (laid at xs m) ≡ max (end_of (below at m)) (end_of (placed at xs ++ from (at + length xs) m)) =
    end_on (below at m) (placed at xs ++ from (at + length xs) m) in
    let rest : end_of (placed at xs ++ from (at + length xs) m) ≡ max (end_of (placed at xs)) (end_of (from (at + length xs) m)) =
    end_on (placed at xs) (from (at + length xs) m) in
    omega (arith, fits, short, low, high, put, all, rest)

-- an unbroken run ends before the end
run_ends : {A : Type 0} (p : ℕ) (m : Places A) → p + length (run_from p m) ≤ max p (end_of m)
run_ends p [] = omega arith
run_ends {A} p (e ∷ m) = by (e.0 == p) refl (run_ends (p + 1) m)
  where
    by : (v : Bool) → (e.0 == p) ≡ v → p + 1 + length (run_from (p + 1) m) ≤ max (p + 1) (end_of m)
        → p + length (if v then e.1 ∷ run_from (p + 1) m else []) ≤ max p (max (e.0 + 1) (end_of m))
    by true is rest = let same : e.0 ≡ p = grind (arith, nat_tests) in omega (arith, same, rest)
    by false is rest = omega arith

-- ---- a change

pub bounded_written : (at : ℕ) (bs : List ℕ) (p : Patch) → at + length bs ≤ 2 ^ 40 → IsBounded p → IsBounded (written at bs p)
bounded_written at bs p fits good =
    let count : length (fresh bs) ≡ length bs = length-map bs (λ (b : ℕ). record { byte = b; flies = false }) in
    record { pending = good.pending; dirty = end_laid (2 ^ 40) at (fresh bs) p.dirty (omega (arith, fits, count)) good.dirty }

bounded_ended : (n : ℕ) (p : Patch) → n ≤ 2 ^ 40 → IsBounded p → IsBounded (ended n p)
bounded_ended zero p fits good = good
bounded_ended (suc n) p fits good = by (is_some (found_at p.dirty n))
  where
    by : (v : Bool) → IsBounded (if v then p else written n (0 ∷ []) p)
    by true = good
    by false = bounded_written n (0 ∷ []) p (omega (arith, fits)) good

bounded_cut_over : (n : ℕ) (p : Patch) (pending : Option ℕ) → n ≤ 2 ^ 40 → IsBounded p → IsBounded (cut_over n p pending)
bounded_cut_over n p None fits good = record { pending = fits; dirty = good.dirty }
bounded_cut_over n p (Some q) fits good = by (nat_lt q n)
  where
    by : (v : Bool) → IsBounded (if v then ended n p else record p { pending = Some n })
    by true = bounded_ended n p fits good
    by false = record { pending = fits; dirty = good.dirty }

bounded_cut : (n : ℕ) (p : Patch) → n ≤ 2 ^ 40 → IsBounded p → IsBounded (cut n p)
bounded_cut n p fits good =
    let low : end_of (below n p.dirty) ≤ end_of p.dirty = end_filtered (λ (e : ℕ × Dirty). nat_lt e.0 n) p.dirty in
    bounded_cut_over n (record p { dirty = below n p.dirty }) p.pending fits
    (record { pending = good.pending; dirty = omega (arith, low, good.dirty) })

bounded_made : (change : Flush) (p : Patch) → IsInFile change → IsBounded p → IsBounded (made change p)
bounded_made (Cut n) p fits good = bounded_cut n p fits good
bounded_made (Put at bs) p fits good = bounded_written at bs p fits good

-- ---- a write-back

-- what is written back lies below it
within_pending : (within : Extent) (pending : Option ℕ) → IfSome pending (λ (n : ℕ). n ≤ 2 ^ 40)
    → IfSome (cut_within within pending) (λ (n : ℕ). n ≤ 2 ^ 40)
within_pending within None good = tt
within_pending within (Some q) good = by (holds_extent within (cut_extent q))
  where
    by : (v : Bool) → IfSome (if v then Some q else None) (λ (n : ℕ). n ≤ 2 ^ 40)
    by true = good
    by false = tt

flush_in_file : (o : Option ℕ) (m : Places Dirty) → IfSome o (λ (n : ℕ). n ≤ 2 ^ 40) → end_of m ≤ 2 ^ 40 → IfSome (flush_with o m) IsInFile
flush_in_file (Some q) m good short = good
flush_in_file None [] good short = tt
flush_in_file None (e ∷ m) good short =
    let run : List Dirty = take (page_size - e.0 % page_size) (run_from e.0 (e ∷ m)) in
    let count : length (bytes_of run) ≡ length run = length-map run (λ (d : Dirty). d.byte) in
    let less : length run ≡ min (page_size - e.0 % page_size) (length (run_from e.0 (e ∷ m))) =
    length-take (page_size - e.0 % page_size) (run_from e.0 (e ∷ m)) in
    let ends : e.0 + length (run_from e.0 (e ∷ m)) ≤ max e.0 (end_of (e ∷ m)) = run_ends e.0 (e ∷ m) in
    omega (arith, count, less, ends, short)

pub next_in_file : (within : Extent) (p : Patch) → IsBounded p → IfSome (next_flush within p) IsInFile
next_in_file within p good =
    let less : end_of (inside within p.dirty) ≤ end_of p.dirty = end_filtered (λ (e : ℕ × Dirty). is_in within e.0) p.dirty in
    flush_in_file (cut_within within p.pending) (inside within p.dirty) (within_pending within p.pending good.pending)
    (omega (arith, less, good.dirty))

bounded_flown : (flush : Flush) (p : Patch) → IsInFile flush → IsBounded p → IsBounded (flown flush p)
bounded_flown (Cut n) p fits good = record { pending = good.pending; dirty = good.dirty }
bounded_flown (Put at bs) p fits good =
    let count : length (sent bs) ≡ length bs = length-map bs (λ (b : ℕ). record { byte = b; flies = true }) in
    record { pending = good.pending; dirty = end_laid (2 ^ 40) at (sent bs) p.dirty (omega (arith, fits, count)) good.dirty }

pub bounded_taken : (flush : Option Flush) (p : Patch) → IfSome flush IsInFile → IsBounded p → IsBounded (taken flush p)
bounded_taken None p fits good = good
bounded_taken (Some flush) p fits good = bounded_flown flush p fits good

-- ---- its answer

other_short : (n : ℕ) (pending : Option ℕ) → IfSome pending (λ (q : ℕ). q ≤ 2 ^ 40) → IfSome (other_cut n pending) (λ (q : ℕ). q ≤ 2 ^ 40)
other_short n None good = tt
other_short n (Some q) good = by (q == n)
  where
    by : (v : Bool) → IfSome (if v then None else Some q) (λ (k : ℕ). k ≤ 2 ^ 40)
    by true = tt
    by false = good

pub bounded_acked : (p : Patch) → IsBounded p → IsBounded (acked p)
bounded_acked p good = by p.flight
  where
    less : end_of (landed p.dirty) ≤ end_of p.dirty
    less = end_filtered (λ (e : ℕ × Dirty). not e.1.flies) p.dirty

    by : (flight : Option Flying) → IsBounded (acked_flight p flight)
    by None = good
    by (Some (CutFlies n)) = record { pending = other_short n p.pending good.pending; dirty = good.dirty }
    by (Some BytesFly) = record { pending = good.pending; dirty = omega (arith, less, good.dirty) }

-- ---- what is seen of it

pub size_short : (server : ℕ) (p : Patch) → IsBounded p → server ≤ 2 ^ 40 → size_over server p ≤ 2 ^ 40
size_short server p good less = by p.pending good.pending
  where
    by : (pending : Option ℕ) → IfSome pending (λ (n : ℕ). n ≤ 2 ^ 40) → max (base pending server) (end_of p.dirty) ≤ 2 ^ 40
    by None none = omega (arith, less, good.dirty)
    by (Some q) short = omega (arith, short, good.dirty)

pub bounded_clean : IsBounded clean
bounded_clean = record { pending = tt; dirty = omega arith }

-- ---- a change that may have failed

made_or_kept : {T E : Type 0} (r : Result T E) (old made new : Patch) → OnOk r (new ≡ made) → OnErr r (new ≡ old) → IsBounded made
    → IsBounded old → IsBounded new
made_or_kept (Ok x) old made new ok err good before = subst IsBounded (sym ok) good
made_or_kept (Err x) old made new ok err good before = subst IsBounded (sym err) before

pub bounded_changed : {T E : Type 0} (r : Result T E) (change : Flush) (old new : Patch) → OnOk r (new ≡ made change old)
    → OnErr r (new ≡ old) → IsInFile change → IsBounded old → IsBounded new
bounded_changed r change old new ok err fits good = made_or_kept r old (made change old) new ok err (bounded_made change old fits good) good

pub bounded_sent : {E : Type 0} (r : Result (Option Flush) E) (within : Extent) (old new : Patch)
    → IfOk r (λ flush. flush ≡ next_flush within old) → IfOk r (λ flush. new ≡ taken flush old) → OnErr r (new ≡ old) → IsBounded old
    → IsBounded new
bounded_sent (Ok flush) within old new is ok err good = subst IsBounded (sym ok)
    (bounded_taken flush old (subst (λ (o : Option Flush). IfSome o IsInFile) (sym is) (next_in_file within old good)) good)
bounded_sent (Err x) within old new is ok err good = subst IsBounded (sym err) good
