-- What an answer takes away, by event.
use Rattle.std.proofs.Common.{◌≡◌, ℕ, zero, suc, ◌+◌, ◌-◌, ◌<◌, ◌≤◌, ◌⊎◌, inl, inr, Bool, true, false, List, [], ◌∷◌, length, Option, Some}
use Rattle.std.proofs.Common.{None, refl, sym, ap, subst, ◌∙◌, arith}
use Rattle.std.specs.Prelude.{nat_eq, nat_lt, ◌==◌, is_some, not, slice_index, if◌then◌else◌}
use Rattle.std.proofs.lemmas.Bool.Decides.{nat_tests}
use Rattle.std.proofs.lemmas.List.{length-map}
use Rattle.lu_spec_entries.specs.declared.changes.Dirty.{Dirty}
use Rattle.lu_spec_entries.specs.declared.changes.Flush.TheVariants.{Cut, Put}
use Rattle.lu_spec_machine.specs.Places.{Places, found_at, RisingFrom, below, laid}
use Rattle.lu_spec_machine.proofs.Places.{overlay, found_filter, found_laid, before_run, past_run, rising_below, rising_laid}
use Rattle.lu_spec_client.specs.Patches.{Patch, Flying, CutFlies, BytesFly, fresh, sent, written, ended, cut_over, cut, flown, landed}
use Rattle.lu_spec_client.specs.Patches.{acked_flight, acked}
use Rattle.lu_patch.specs.Changes.{Change, Write, CutTo, changed, changed_by, LeavesAt, LeaveAt}
use Rattle.lu_patch.specs.ChangeLaws.{UntouchedLands, UnsentStays, WrittenStays}
use Rattle.lu_patch.proofs.Landings.{at_rest, found_landed, fresh_at, sent_at}

-- a byte that flies at q
abbrev pub Flies : ℕ → ℕ → Patch → Type 0
Flies q b p =
    record {
      flight : p.flight ≡ Some BytesFly;
      rises : RisingFrom 0 p.dirty;
      found : found_at p.dirty q ≡ Some (record { byte = b; flies = true });
    }

module _ (q b : ℕ) where
  write_leaves : (at : ℕ) (bs : List ℕ) (p : Patch) → LeavesAt q (Write at bs) → Flies q b p → Flies q b (written at bs p)
  write_leaves at bs p h f =
      record {
        flight = f.flight;
        rises = rising_laid at (fresh bs) p.dirty f.rises;
        found = found_laid at (fresh bs) p.dirty q ∙ by h ∙ f.found;
      }
    where
      by : (q < at) ⊎ (at + length bs ≤ q) → overlay at (fresh bs) q (found_at p.dirty q) ≡ found_at p.dirty q
      by (inl less) = before_run at (fresh bs) q (found_at p.dirty q) less
      by (inr less) =
          let count : length (fresh bs) ≡ length bs = length-map bs (λ b. record { byte = b; flies = false }) in
          past_run at (fresh bs) q (found_at p.dirty q) (omega (arith, count, less))

  end_leaves : (n : ℕ) (p : Patch) → Flies q b p → Flies q b (ended n p)
  end_leaves zero p f = f
  end_leaves (suc n) p f = by (nat_lt q n) (nat_lt n q) (found_at p.dirty n) refl refl refl
    where
      by : (v w : Bool) (x : Option Dirty) → nat_lt q n ≡ v → nat_lt n q ≡ w → found_at p.dirty n ≡ x
          → Flies q b (if is_some x then p else written n (0 ∷ []) p)
      by v w (Some d) low high is = f
      by true w None low high is = write_leaves n (0 ∷ []) p (inl (grind (arith, nat_tests))) f
      by false true None low high is = let less : n < q = grind (arith, nat_tests)
          in write_leaves n (0 ∷ []) p (inr (omega (arith, less))) f
      by false false None low high is =
          let same : q ≡ n = grind (arith, nat_tests) in
          absurd (cc (f.found, is, ap (λ k. found_at p.dirty k) same))

  cut_leaves : (n : ℕ) (p : Patch) → q < n → Flies q b p → Flies q b (cut n p)
  cut_leaves n p less f = by p.pending
    where
      kept : Flies q b (record p { dirty = below n p.dirty })
      kept =
          let test : nat_lt q n ≡ true = grind (arith, nat_tests, less) in
          record {
            flight = f.flight;
            rises = rising_below 0 n p.dirty f.rises;
            found = found_filter (λ k. nat_lt k n) p.dirty q ∙ rw test f.found;
          }

      again : (pending : Option ℕ) → Flies q b (record { pending = pending; dirty = below n p.dirty; flight = p.flight })
      again pending = record { flight = kept.flight; rises = kept.rises; found = kept.found }

      longer : (v : Bool) → Flies q b (if v then ended n (record p { dirty = below n p.dirty })
          else record { pending = Some n; dirty = below n p.dirty; flight = p.flight })
      longer true = end_leaves n (record p { dirty = below n p.dirty }) kept
      longer false = again (Some n)

      by : (pending : Option ℕ) → Flies q b (cut_over n (record p { dirty = below n p.dirty }) pending)
      by None = again (Some n)
      by (Some c) = longer (nat_lt c n)

  change_leaves : (c : Change) (p : Patch) → LeavesAt q c → Flies q b p → Flies q b (changed c p)
  change_leaves (Write at bs) p h f = write_leaves at bs p h f
  change_leaves (CutTo n) p h f = cut_leaves n p h f

  changes_leave : (cs : List Change) (p : Patch) → LeaveAt q cs → Flies q b p → Flies q b (changed_by cs p)
  changes_leave [] p h f = f
  changes_leave (c ∷ cs) p h f = changes_leave cs (changed c p) h.1 (change_leaves c p h.0 f)

  lands : (p : Patch) → Flies q b p → found_at (acked p).dirty q ≡ None
  lands p f = rw (f.flight) (found_landed 0 p.dirty q f.rises ∙ ap at_rest f.found)

pub untouched_lands : UntouchedLands
untouched_lands at bs p since k rises less leave =
    lands (at + k) (slice_index bs k) (changed_by since (flown (Put at bs) p))
    (changes_leave (at + k) (slice_index bs k) since (flown (Put at bs) p) leave
    (record {
      flight = refl;
      rises = rising_laid at (sent bs) p.dirty rises;
      found = found_laid at (sent bs) p.dirty (at + k) ∙ sent_at at bs k (found_at p.dirty (at + k)) less;
    }))

pub written_stays : WrittenStays
written_stays at bs p k rises less = by p.flight
  where
    here : found_at (laid at (fresh bs) p.dirty) (at + k) ≡ Some (record { byte = slice_index bs k; flies = false })
    here = found_laid at (fresh bs) p.dirty (at + k) ∙ fresh_at at bs k (found_at p.dirty (at + k)) less

    by : (flight : Option Flying) → found_at (acked_flight (written at bs p) flight).dirty (at + k)
        ≡ Some (record { byte = slice_index bs k; flies = false })
    by None = here
    by (Some (CutFlies n)) = here
    by (Some BytesFly) = found_landed 0 (laid at (fresh bs) p.dirty) (at + k) (rising_laid at (fresh bs) p.dirty rises) ∙ ap at_rest here

pub unsent_stays : UnsentStays
unsent_stays p q d rises found rest = by p.flight
  where
    kept : at_rest (Some d) ≡ Some d
    kept = rw rest refl

    by : (flight : Option Flying) → found_at (acked_flight p flight).dirty q ≡ Some d
    by None = found
    by (Some (CutFlies n)) = found
    by (Some BytesFly) = found_landed 0 p.dirty q rises ∙ ap at_rest found ∙ kept
