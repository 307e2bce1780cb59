-- The close of the recovery window: kept transactions are the journal's again, one after another, and go to the disk with the
-- lives that leave and come.
use Rattle.std.proofs.Common.{◌≡◌, ℕ, Bool, true, false, List, [], ◌∷◌, ◌++◌, Option, None, refl, sym, ap, subst, ◌∙◌}
use Rattle.std.specs.Prelude.{if◌then◌else◌}
use Rattle.std.proofs.lemmas.List.Sums.{fold-append}
use Rattle.lu_base.specs.declared.ids.Who.{Who}
use Rattle.lu_msg.specs.declared.commits.Batch.{Batch}
use Rattle.lu_spec_entries.specs.Carried.{Deed}
use Rattle.lu_spec_entries.specs.Words.{Close}
use Rattle.lu_txn.specs.Journals.{JournalState, IsSound}
use Rattle.lu_txn.specs.Commits.{batch_of, after_commit}
use Rattle.lu_spec_target.specs.Lives.{is_life, lives_of as gone_of}
use Rattle.lu_spec_target.specs.Stored.{batch_of as rows_batch}
use Rattle.lu_spec_target.specs.Windows.{Settled}
use Rattle.lu_spec_target.specs.States.{Target, turn}
use Rattle.lu_spec_target.specs.Leaving.{last_of}
use Rattle.lu_spec_target.specs.Outcomes.{outcome_by}
use Rattle.lu_spec_target.specs.Recovery.{commit_of}
use Rattle.lu_target_refines.specs.Journals.{Taken, IsUntaken, IsWithout, ShowsJournal, ShowsDisk}
use Rattle.lu_target_refines.specs.Batches.{left_by, joined_by, appended_one, all_appended, IsClosing}
use Rattle.lu_target_refines.proofs.Closes as parts
use Rattle.lu_target_store.specs.Taken.{Entries, taken_of}
use Rattle.lu_target_store.specs.Stores.{StoreState, Serves, Recovers, Redoes}

-- nothing is kept
pub begins : (s : StoreState) (v : Target) → Recovers s v → Redoes [] s v
begins s v shows = record {
  before = s.journal;
  window = shows.journal;
  sound = shows.sound;
  journal = refl;
  disk = shows.disk;
  untaken =
      shows.untaken;
}

-- one more is kept
pub one_more : (j new_j : JournalState) (taken : Entries) (batches : List Batch) (n m : ℕ) (v : Target) (deeds : List Deed) (d : Deed)
    → new_j ≡ appended_one j d → Redoes deeds (record { journal = j; taken = taken; batches = batches; faults = n }) v
    → Redoes (deeds ++ d ∷ []) (record { journal = new_j; taken = taken; batches = batches; faults = m }) v
one_more j new_j taken batches n m v deeds d added shows = record {
  before = shows.before;
  window = shows.window;
  sound = shows.sound;
  journal = added ∙ ap (λ it. appended_one it d) shows.journal ∙ sym (fold-append appended_one shows.before deeds (d ∷ []));
  disk = shows.disk;
  untaken = shows.untaken;
}

untaken_still : (taken new : Entries) (gone : List Who) → IsUntaken (taken_of taken) → IsWithout gone (taken_of taken) (taken_of new)
    → IsUntaken (taken_of new)
untaken_still taken new gone untaken without who tag = without who tag
    ∙ by (is_life who gone) (taken_of taken who tag) (untaken who tag) where
      by : (v : Bool) (found : Option Taken) → found ≡ None → (if v then None else found) ≡ None
      by true found e = refl
      by false found e = e

pub closed_is : (taken : Entries) (j : JournalState) (batches : List Batch) (n : ℕ) (v : Target) (deeds : List Deed) (gone come : List Who)
    (to : ℕ)
    → Redoes deeds (record { journal = j; taken = taken; batches = batches; faults = n }) v → IsSound j → IsClosing v deeds gone come → to
    ≡ last_of deeds v.committed
    → batch_of to (joined_by come (left_by gone j)) ≡ rows_batch deeds gone come
closed_is taken j batches n v deeds gone come to shows sound closing is_to =
    ap (λ number. batch_of number (joined_by come (left_by gone j))) is_to
    ∙ ap (λ it. batch_of (last_of deeds v.committed) (joined_by come (left_by gone it))) shows.journal
    ∙ parts.close_batch shows.before v deeds gone come shows.window (subst IsSound shows.journal sound) closing

pub closed_shows : (taken new_taken : Entries) (j new_j : JournalState) (batches new_batches : List Batch) (n m : ℕ) (v : Target)
    (deeds : List Deed) (s : Settled) (gone come : List Who) (to : ℕ)
    → Redoes deeds (record { journal = j; taken = taken; batches = batches; faults = n }) v → IsSound j
    → IsWithout gone (taken_of taken) (taken_of new_taken)
    → gone_of s.gone ≡ gone → s.joins ≡ come → IsClosing v deeds gone come
    → to ≡ last_of deeds v.committed → new_j ≡ after_commit to (joined_by come (left_by gone j)) → new_batches ≡ batches
    ++ batch_of to (joined_by come (left_by gone j)) ∷ [] → IsSound new_j
    → Serves (record { journal = new_j; taken = new_taken; batches = new_batches; faults = m })
    (turn v (Close (outcome_by v deeds s) ∷ commit_of (outcome_by v deeds s) ∷ []))
closed_shows taken new_taken j new_j batches new_batches n m v deeds s gone come to shows sound without is_gone is_come closing is_to is_new
    is_batches sound_new =
    let start : JournalState = shows.before in
    let last = last_of deeds v.committed in
    let all : JournalState = all_appended deeds start in
    let moved : joined_by come (left_by gone j) ≡ joined_by s.joins (left_by (gone_of s.gone) all) =
    ap (λ it. joined_by come (left_by gone it)) shows.journal ∙ ap (λ lives. joined_by lives (left_by gone all)) (sym is_come)
    ∙ ap (λ lives. joined_by s.joins (left_by lives all)) (sym is_gone) in
    let sound_all : IsSound all = subst IsSound shows.journal sound in
    let closing_s : IsClosing v deeds (gone_of s.gone) s.joins =
    subst (λ lives. IsClosing v deeds lives s.joins) (sym is_gone) (subst (λ lives. IsClosing v deeds gone lives) (sym is_come) closing) in
    let now : new_j ≡ after_commit last (joined_by s.joins (left_by (gone_of s.gone) all)) =
    is_new ∙ ap (λ number. after_commit number (joined_by come (left_by gone j))) is_to ∙ ap (after_commit last) moved in
    let disk : new_batches ≡ batches ++ _ ∷ [] =
    is_batches ∙ ap (λ batch. batches ++ batch ∷ [])
    (ap (λ number. batch_of number (joined_by come (left_by gone j))) is_to ∙ ap (batch_of last) moved
    ∙ parts.close_batch start v deeds (gone_of s.gone) s.joins shows.window sound_all closing_s) in
    let after_close = turn v (Close (outcome_by v deeds s) ∷ commit_of (outcome_by v deeds s) ∷ []) in
    record {
      journal = subst (λ it. ShowsJournal (taken_of new_taken) it after_close) (sym now)
          (parts.closes (taken_of new_taken) batches start v deeds s (untaken_still taken new_taken gone shows.untaken without) shows.disk
          shows.window shows.sound sound_all closing_s);
      disk = subst (λ it. ShowsDisk it after_close) (sym disk) (parts.close_stores batches start v deeds s shows.disk shows.window
          shows.sound sound_all closing_s);
      sound = sound_new;
    }
