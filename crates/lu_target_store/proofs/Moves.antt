-- What goes to the disk, and what a store shows once it is there.
use Rattle.std.proofs.Common.{◌≡◌, ◌≢◌, ℕ, zero, suc, ◌≤◌, Bool, true, false, List, [], ◌∷◌, ◌++◌, Option, Some, None, length, map, min}
use Rattle.std.proofs.Common.{take, drop, refl, sym, ap, subst, ◌∙◌, arith}
use Rattle.std.specs.Option.{is_some}
use Rattle.std.specs.Prelude.{if◌then◌else◌}
use Rattle.lu_base.specs.declared.ids.Who.{Who}
use Rattle.lu_msg.specs.declared.commits.Batch.{Batch}
use Rattle.lu_spec_entries.specs.Carried.{Deed}
use Rattle.lu_txn.specs.Slots.{slot_of}
use Rattle.lu_txn.specs.Journals.{JournalState, IsSound, with_slot, without_slot}
use Rattle.lu_txn.specs.Commits.{batch_of, after_commit}
use Rattle.lu_spec_target.specs.Lives.{without_lives}
use Rattle.lu_spec_target.specs.Stored.{batch_of as rows_batch}
use Rattle.lu_spec_target.specs.States.{Target, after}
use Rattle.lu_spec_target.specs.Leaving.{commits, last_of}
use Rattle.lu_spec_target.specs.Rows.{first_deeds}
use Rattle.lu_target_refines.specs.Journals.{logged_of, AreHeld, IsWithout, ShowsJournal, ShowsDisk}
use Rattle.lu_target_refines.specs.Batches.{dropped, added, left_by, joined_by, AreOnce, AreAmong, AreApart}
use Rattle.lu_target_refines.proofs.Batches as parts
use Rattle.lu_target_refines.proofs.Loads.{commit_stores}
use Rattle.lu_target_store.specs.Taken.{Entries, taken_of}
use Rattle.lu_target_store.specs.Stores.{Serves}
use Rattle.lu_target_store.specs.Commits.{counted, last_in}

-- ---- slots that come and go leave the numbers

abbrev pub Numbers : JournalState → JournalState → Type 0
Numbers j new = (new.committed ≡ j.committed) × (new.newest ≡ j.newest)

pub left_keeps : (gone : List Who) (j : JournalState) → Numbers j (left_by gone j)
left_keeps [] j = (refl, refl)
left_keeps (who ∷ gone) j =
    let one = by (is_some (slot_of who j.slots)) in
    let rest = left_keeps gone (dropped j who) in
    (rest.0 ∙ one.0, rest.1 ∙ one.1)
  where
    by : (there : Bool) → Numbers j (if there then without_slot who j else j)
    by true = (refl, refl)
    by false = (refl, refl)

pub joined_keeps : (come : List Who) (j : JournalState) → Numbers j (joined_by come j)
joined_keeps [] j = (refl, refl)
joined_keeps (who ∷ come) j =
    let one = by (is_some (slot_of who j.slots)) in
    let rest = joined_keeps come (added j who) in
    (rest.0 ∙ one.0, rest.1 ∙ one.1)
  where
    by : (there : Bool) → Numbers j (if there then j else with_slot who j)
    by true = (refl, refl)
    by false = (refl, refl)

pub left_boot : (gone : List Who) (j : JournalState) → (left_by gone j).boot ≡ j.boot
left_boot [] j = refl
left_boot (who ∷ gone) j = left_boot gone (dropped j who) ∙ by (is_some (slot_of who j.slots)) where
  by : (there : Bool) → (if there then without_slot who j else j).boot ≡ j.boot
  by true = refl
  by false = refl

pub joined_boot : (come : List Who) (j : JournalState) → (joined_by come j).boot ≡ j.boot
joined_boot [] j = refl
joined_boot (who ∷ come) j = joined_boot come (added j who) ∙ by (is_some (slot_of who j.slots)) where
  by : (there : Bool) → (if there then j else with_slot who j).boot ≡ j.boot
  by true = refl
  by false = refl

-- ---- the first transactions

pub append_nothing : (log : List Deed) → log ++ [] ≡ log
append_nothing [] = refl
append_nothing (d ∷ log) = ap (λ more. d ∷ more) (append_nothing log)

pub take_all : (log : List Deed) → take (length log) log ≡ log
take_all [] = refl
take_all (d ∷ log) = ap (λ more. d ∷ more) (take_all log)

take_none : (n : ℕ) → take {A = Deed} n [] ≡ []
take_none zero = refl
take_none (suc n) = refl

min_zero : (n : ℕ) → min n 0 ≡ 0
min_zero n = omega arith

min_suc : (n m : ℕ) → min (suc n) (suc m) ≡ suc (min n m)
min_suc n m = omega arith

take_least : (log : List Deed) (count : ℕ) → take (min (length log) count) log ≡ take count log
take_least [] count = take_none (min 0 count) ∙ sym (take_none count)
take_least (d ∷ log) zero = ap (λ n. take n (d ∷ log)) (min_zero (suc (length log)))
take_least (d ∷ log) (suc count) = ap (λ n. take n (d ∷ log)) (min_suc (length log) count) ∙ ap (λ more. d ∷ more) (take_least log count)

pub first_is : (count : Option ℕ) (log : List Deed) → take (counted count (length log)) log ≡ first_deeds count log
first_is None log = take_all log
first_is (Some count) log = take_least log count

pub counted_fits : (count : Option ℕ) (all : ℕ) → counted count all ≤ all
counted_fits None all = omega arith
counted_fits (Some count) all = omega arith

pub last_first : (n : ℕ) (log : List Deed) (k : ℕ) → last_in n (take k (map logged_of log)) ≡ last_of (take k log) n
last_first n [] zero = refl
last_first n [] (suc k) = refl
last_first n (d ∷ log) zero = refl
last_first n (d ∷ log) (suc k) = last_first d.reply.txn.0 log k

pub cut_at : (k : ℕ) (log : List Deed) → log ≡ take k log ++ drop k log
cut_at zero log = refl
cut_at (suc k) [] = refl
cut_at (suc k) (d ∷ log) = ap (λ more. d ∷ more) (cut_at k log)

pub length_logged : (log : List Deed) → length (map logged_of log) ≡ length log
length_logged [] = refl
length_logged (d ∷ log) = ap suc (length_logged log)

pub some_first : (k : ℕ) (log : List Deed) → suc k ≤ length log → take (suc k) log ≢ []
some_first k [] le e = omega (arith, le)
some_first k (d ∷ log) le e = cc

-- ---- the batch

pub stored_is : (taken : Entries) (j : JournalState) (v : Target) (ds rest : List Deed) (gone come : List Who) (to : ℕ)
    → ShowsJournal (taken_of taken) j v → IsSound j → v.log ≡ ds ++ rest → AreOnce gone → AreAmong v.lives gone → AreOnce come
    → AreApart (without_lives gone v.lives) come
    → to ≡ last_of ds v.committed → batch_of to (joined_by come (left_by gone j)) ≡ rows_batch ds gone come
stored_is taken j v ds rest gone come to shows sound log once among new apart is_to =
    ap (λ it. batch_of it (joined_by come (left_by gone j))) is_to
    ∙ parts.batches (taken_of taken) j v ds rest gone come shows sound log once among new apart

-- ---- once it is on the disk

pub stored_shows : (taken new_taken : Entries) (j new_j : JournalState) (batches new_batches : List Batch) (n m : ℕ) (v : Target)
    (ds rest : List Deed) (gone come : List Who) (to : ℕ)
    → Serves (record { journal = j; taken = taken; batches = batches; faults = n }) v → IsSound j → v.log ≡ ds ++ rest
    → AreHeld (without_lives gone v.lives) rest
    → AreOnce gone → AreAmong v.lives gone → AreOnce come → AreApart (without_lives gone v.lives) come
    → IsWithout gone (taken_of taken) (taken_of new_taken)
    → to ≡ last_of ds v.committed → new_j ≡ after_commit to (joined_by come (left_by gone j)) → new_batches ≡ batches
    ++ batch_of to (joined_by come (left_by gone j)) ∷ [] → IsSound new_j
    → Serves (record { journal = new_j; taken = new_taken; batches = new_batches; faults = m }) (after v (commits v ds gone come))
stored_shows taken new_taken j new_j batches new_batches n m v ds rest gone come to s sound log held once among new apart without is_to
    is_new is_batches sound_new =
    let moved = joined_by come (left_by gone j) in
    let now : new_j ≡ after_commit (last_of ds v.committed) moved = is_new ∙ ap (λ it. after_commit it moved) is_to in
    let disk : new_batches ≡ batches ++ rows_batch ds gone come ∷ [] =
    is_batches ∙ ap (λ batch. batches ++ batch ∷ []) (stored_is taken j v ds rest gone come to s.journal sound log once among new apart
    is_to) in
    record {
      journal = subst (λ it. ShowsJournal (taken_of new_taken) it (after v (commits v ds gone come))) (sym now)
          (parts.committed (taken_of taken) (taken_of new_taken) j v ds rest gone come s.journal sound log held once among new apart
          without);
      disk = subst (λ it. ShowsDisk it (after v (commits v ds gone come))) (sym disk)
          (commit_stores (taken_of taken) j v ds rest gone come batches s.journal sound log s.disk);
      sound = sound_new;
    }
