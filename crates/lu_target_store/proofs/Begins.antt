-- What a store shows at the start of a run, and at a boot over its disk.
use Rattle.std.proofs.Common.{◌≡◌, ℕ, ◌+◌, max, List, [], ◌∷◌, ◌++◌, refl, sym, ap, subst, ◌∙◌, arith}
use Rattle.std.specs.List.{fold}
use Rattle.lu_base.specs.declared.ids.Who.{Who}
use Rattle.lu_msg.specs.declared.commits.Batch.{Batch}
use Rattle.lu_spec_entries.specs.Carried.{Disk}
use Rattle.lu_spec_entries.specs.Words.{Boot}
use Rattle.lu_txn.specs.Journals.{JournalState, fresh, IsSound}
use Rattle.lu_txn.specs.Commits.{batch_of, after_commit}
use Rattle.lu_txn.specs.Loads.{loaded, stored_by}
use Rattle.lu_spec_target.specs.Stored.{stored}
use Rattle.lu_spec_target.specs.States.{Setting, Target, after, lives_from, first_batch, started, empty_disk}
use Rattle.lu_spec_target.specs.Disks.{boot_batch, loaded_on}
use Rattle.lu_target_refines.specs.Journals.{IsUntaken, ShowsJournal, ShowsDisk, ShowsWindow}
use Rattle.lu_target_refines.proofs.Loads as parts
use Rattle.lu_target_store.specs.Taken.{Entries, taken_of}
use Rattle.lu_target_store.specs.Commits.{last_boot}
use Rattle.lu_target_store.specs.Stores.{Serves, Recovers}

-- what goes to the disk at the start is the slots
pub begun_stored : (clients : ℕ) (first : List Who) (j : JournalState) (old batches : List Batch) → first ≡ lives_from 0 clients → j
    ≡ fresh first → old ≡ []
    → batches ≡ old ++ batch_of 0 j ∷ [] → batches ≡ first_batch clients ∷ []
begun_stored clients first j old batches lives is_fresh none is_batches =
    is_batches ∙ ap (λ before. before ++ batch_of 0 j ∷ []) none
    ∙ ap (λ (it : JournalState). batch_of 0 it ∷ []) (is_fresh ∙ ap fresh lives)
    ∙ ap (λ (batch : Batch). batch ∷ []) (parts.first_batch_is clients)

pub begun : (setting : Setting) (clients : ℕ) (first : List Who) (j new_j : JournalState) (taken : Entries) (old batches : List Batch)
    (n : ℕ)
    → first ≡ lives_from 0 clients → j ≡ fresh first → new_j ≡ after_commit 0 j → old ≡ [] → batches ≡ old ++ batch_of 0 j ∷ []
    → IsUntaken (taken_of taken) → IsSound new_j
    → Serves (record { journal = new_j; taken = taken; batches = batches; faults = n }) (started setting clients)
begun setting clients first j new_j taken old batches n lives is_fresh is_new none is_batches untaken sound =
    let now : new_j ≡ after_commit 0 (fresh (lives_from 0 clients)) = is_new ∙ ap (after_commit 0) (is_fresh ∙ ap fresh lives) in
    let disk = begun_stored clients first j old batches lives is_fresh none is_batches in
    record {
      journal = subst (λ it. ShowsJournal (taken_of taken) it (started setting clients)) (sym now)
          (parts.starts (taken_of taken) setting clients untaken);
      disk = subst (λ it. ShowsDisk it (started setting clients)) (sym disk) (parts.start_stores setting clients);
      sound = sound;
    }

-- ---- the last boot is that of the disk

turned : (a b : ℕ) → max a b ≡ max b a
turned a b = omega arith

boot_on : (osts : ℕ) (disk : Disk) (batches : List Batch) → (loaded_on osts disk batches).boot
    ≡ fold (λ boot (batch : Batch). max batch.boot boot) disk.boot batches
boot_on osts disk [] = refl
boot_on osts disk (batch ∷ batches) =
    boot_on osts (stored osts batch disk) batches ∙ ap (λ boot. fold (λ boot (batch : Batch). max batch.boot boot) boot batches)
    (turned disk.boot batch.boot)

pub boot_is : (batches : List Batch) (v : Target) → ShowsDisk batches v → v.disk.boot ≡ last_boot batches
boot_is batches v shows = ap (λ (disk : Disk). disk.boot) shows.disk ∙ boot_on v.setting.osts empty_disk batches

pub booted : (old batches : List Batch) (v : Target) (boot to : ℕ) (j new_j : JournalState) (taken : Entries) (n : ℕ) → ShowsDisk old v
    → boot ≡ last_boot old + 1 → IsUntaken (taken_of taken) → IsSound new_j → j ≡ loaded old boot → to ≡ j.committed → new_j
    ≡ after_commit to j → batches ≡ old ++ batch_of to j ∷ []
    → Recovers (record { journal = new_j; taken = taken; batches = batches; faults = n }) (after v (Boot (v.disk.boot + 1) v.disk))
booted old batches v boot to j new_j taken n shows is_boot untaken sound is_loaded is_to is_new is_batches =
    let next : boot ≡ v.disk.boot + 1 = is_boot ∙ ap (λ last. last + 1) (sym (boot_is old v shows)) in
    let is : j ≡ loaded old (v.disk.boot + 1) = is_loaded ∙ ap (loaded old) next in
    let number : to ≡ (stored_by old).committed = is_to ∙ ap (λ (it : JournalState). it.committed) is in
    let now : new_j ≡ after_commit (stored_by old).committed (loaded old (v.disk.boot + 1)) = is_new ∙ ap (λ it. after_commit it j) number
    ∙ ap (after_commit (stored_by old).committed) is in
    let disk : batches ≡ old ++ boot_batch (v.disk.boot + 1) ∷ [] =
    is_batches ∙ ap (λ it. old ++ batch_of it j ∷ []) number ∙ ap (λ (it : JournalState). old ++ batch_of (stored_by old).committed it ∷ [])
    is in
    record {
      journal = subst (λ it. ShowsWindow it (after v (Boot (v.disk.boot + 1) v.disk))) (sym now) (parts.boot_committed old v shows);
      disk = subst (λ it. ShowsDisk it (after v (Boot (v.disk.boot + 1) v.disk))) (sym disk) (parts.boot_stores old v shows);
      untaken = untaken;
      sound = sound;
      newest = ap (λ (it : JournalState). it.newest) now ∙ sym (ap (λ (it : JournalState). it.committed) now);
    }

-- what goes to the disk is the boot
pub boot_stored : (old batches : List Batch) (boot to : ℕ) (j : JournalState) → boot ≡ last_boot old + 1 → j ≡ loaded old boot → to
    ≡ j.committed → batches ≡ old ++ batch_of to j ∷ []
    → batches ≡ old ++ boot_batch (last_boot old + 1) ∷ []
boot_stored old batches boot to j is_boot is_loaded is_to is_batches =
    is_batches ∙ ap (λ it. old ++ batch_of it j ∷ []) is_to ∙ ap (λ (it : JournalState). old ++ batch_of it.committed it ∷ []) is_loaded
    ∙ ap (λ (batch : Batch). old ++ batch ∷ []) (parts.boot_batch_is old boot) ∙ ap (λ n. old ++ boot_batch n ∷ []) is_boot
