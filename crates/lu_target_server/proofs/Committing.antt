-- What goes to the disk while the target serves: the first transactions, without lives that leave or come.
use Rattle.std.proofs.Common.{◌≡◌, ◌≢◌, ℕ, Bool, true, false, cond, not, List, [], ◌∷◌, ◌++◌, filter, take, Option, Some, None, refl, sym}
use Rattle.std.proofs.Common.{ap, subst, ◌∙◌}
use Rattle.std.specs.Prelude.{All}
use Rattle.lu_base.specs.declared.ids.Txn.{Txn}
use Rattle.lu_base.specs.declared.ids.Who.{Who}
use Rattle.lu_base.specs.declared.locks.Lock.{Lock}
use Rattle.lu_spec_machine.specs.Footprint.{Every}
use Rattle.lu_msg.specs.declared.commits.Batch.{Batch}
use Rattle.lu_msg.specs.declared.messages.Post.{Post}
use Rattle.lu_msg.specs.declared.messages.Request.{Request}
use Rattle.lu_trace.specs.declared.entries.Entry.{Entry as PrintedEntry}
use Rattle.lu_trace.specs.declared.entries.Entry.TheVariants as line
use Rattle.lu_trace.specs.declared.traces.Step.{Step}
use Rattle.lu_trace.specs.Turns.{Making, with_line, then_step}
use Rattle.lu_spec_entries.specs.Carried.{Deed, Called, Glimpse}
use Rattle.lu_spec_entries.specs.Given.{line_of, step_of, step_posts, giving}
use Rattle.lu_spec_entries.specs.Printed.{printed_entry}
use Rattle.lu_spec_entries.specs.Words.{Entry, Commit, Skip, Fail}
use Rattle.lu_spec_target.specs.Disks.{batches_of}
use Rattle.lu_spec_target.specs.Leaving.{commits, last_of}
use Rattle.lu_spec_target.specs.Rows.{first_deeds, row_commits}
use Rattle.lu_spec_target.specs.Stored.{batch_of}
use Rattle.lu_spec_target.specs.States.{Target, after, turn}
use Rattle.lu_target_refines.specs.Callbacks.{ShowsCalls}
use Rattle.lu_target_refines.specs.Callbacks.{Shows as CallsShow}
use Rattle.lu_target_refines.proofs.Lists.{every_all, filter_all}
use Rattle.lu_target_refines.proofs.Locks.{locks_same}
use Rattle.lu_target_store.specs.Stores.{StoreState, Serves, HasTaken, KeepsTaken, IsCommit}
use Rattle.lu_target_locks.specs.Servers as locking
use Rattle.lu_target_locks.specs.Servers.{ServerState as LockState}
use Rattle.lu_target_invariant.proofs.Commits.{sound_leaves}
use Rattle.lu_target_server.specs.Commits.{commit_line}
use Rattle.lu_target_server.specs.Servers.{ServerState, Shows, Makes, KeepsBatches}
use Rattle.lu_target_server.specs.Middles.{KeepsFirst}
use Rattle.lu_target_server.proofs.Middles.{noted}
use Rattle.lu_target_server.proofs.MovedLives.{keeps_all, keeps_one}

-- ---- nobody leaves

stays : {A : Type 0} (test : A → Bool) → ((x : A) → test x ≡ true) → (xs : List A) → filter test xs ≡ xs
stays test all xs = filter_all test xs (every_all (λ x. test x ≡ true) all xs)

module _ (v : Target) (deeds : List Deed) where
  abbrev pub w : Target
  w = after v (commits v deeds [] [])

  granted_stay : w.granted ≡ v.granted
  granted_stay = stays _ (λ x. refl) v.granted

  waiting_stay : w.waiting ≡ v.waiting
  waiting_stay = stays _ (λ x. refl) v.waiting

  called_stay : w.called ≡ v.called
  called_stay = stays _ (λ x. refl) v.called

  glimpses_stay : w.glimpses ≡ v.glimpses
  glimpses_stay = stays _ (λ x. refl) v.glimpses

  queue_stays : w.queue ≡ v.queue
  queue_stays = stays _ (λ x. refl) v.queue

  locks_stay : (s : LockState) → locking.Shows s v → locking.Shows s w
  locks_stay s shows = record {
    locks = locks_same s.space v w granted_stay waiting_stay refl shows.locks;
    calls = subst (λ (called : List Called). CallsShow s.asked called w.glimpses w.granted) (sym called_stay)
        (subst (λ (gs : List Glimpse). CallsShow s.asked v.called gs w.granted) (sym glimpses_stay)
        (subst (λ (locks : List Lock). CallsShow s.asked v.called v.glimpses locks) (sym granted_stay) shows.calls));
    boot = shows.boot;
    counted = shows.counted;
    cookie = shows.cookie;
    ticks = shows.ticks;
  }

  pub committed_shows : (s now : ServerState) → Shows s v → Serves now.store w → KeepsTaken s.store now.store → now
      ≡ record s { store = now.store } → Shows now w
  committed_shows s now shows store takes same = subst (λ (it : ServerState). Shows it w) (sym same) (record {
    id = shows.id;
    kind = shows.kind;
    expire = shows.expire;
    boot = shows.boot;
    store = store;
    locks = locks_stay s.locks shows.locks;
    contents = shows.contents;
    requests = queue_stays ∙ shows.requests;
    taken = λ k r within. takes _ _ (shows.taken k r within);
    sound = sound_leaves s.kind v (last_of deeds v.committed) (batch_of deeds [] []) refl shows.sound;
  })

-- ---- the row

row_some : (v : Target) (deeds : List Deed) → deeds ≢ [] → row_commits v deeds ≡ commits v deeds [] [] ∷ []
row_some v [] some = absurd (some refl)
row_some v (d ∷ deeds) some = refl

number_is : (number : Txn) (n : ℕ) → number.0 ≡ n → number ≡ record { 0 = n }
number_is number n e = ap (λ (m : ℕ). record { 0 = m }) e

-- the line of the commit up to this number
pub told_commit : (number : Txn) (n : ℕ) (batch : Batch) (before afterwards : Making) → number.0 ≡ n → afterwards.at ≡ before.at
    → afterwards.step ≡ with_line before.at before.step (line.Commit number) → afterwards ≡ giving before (Commit n batch ∷ [])
told_commit number n batch before afterwards e at step =
    noted before afterwards (Commit n batch) (line.Commit number) (ap (λ (m : Txn). Some (line.Commit m)) (sym (number_is number n e))) refl
    at step

pub commits_some :
    (s now : ServerState) (count : Option ℕ) (number : Txn) (before afterwards : Making) → IsCommit count (Some number) s.store now.store
    → KeepsTaken s.store now.store
    → now ≡ record s { store = now.store } → afterwards.step ≡ with_line before.at before.step (line.Commit number) → afterwards.at
    ≡ before.at
    → Makes (λ v. row_commits v (first_deeds count v.log)) s now before afterwards
commits_some s now count number before afterwards is takes same step at = record {
  gives = λ v shows.
      let deeds = first_deeds count v.log in
      let some = is.some v number shows.store refl in
      told_commit number (last_of deeds v.committed) (batch_of deeds [] []) before afterwards some.1 at step
      ∙ ap (giving before) (sym (row_some v deeds some.0));
  shows = λ v shows.
      let deeds = first_deeds count v.log in
      let some = is.some v number shows.store refl in
      subst (λ (es : List Entry). Shows now (turn v es)) (sym (row_some v deeds some.0))
      (committed_shows v deeds s now shows (is.shows v number shows.store refl) takes same);
}

pub commits_none :
    (s now : ServerState) (count : Option ℕ) (before afterwards : Making) → IsCommit count None s.store now.store
    → now ≡ record s { store = now.store } → afterwards.step ≡ with_line before.at before.step line.Skip → afterwards.at ≡ before.at
    → Makes (λ v. row_commits v (first_deeds count v.log)) s now before afterwards
commits_none s now count before afterwards is same step at = record {
  gives = λ v shows.
      noted before afterwards Skip line.Skip refl refl at step
      ∙ ap (λ (deeds : List Deed). giving before (row_commits v deeds)) (sym (is.nothing v shows.store refl).0);
  shows = λ v shows.
      let nothing = is.nothing v shows.store refl in
      let unchanged : now ≡ s = same ∙ ap (λ (it : StoreState). record s { store = it }) nothing.1 in
      subst (λ (it : ServerState). Shows it (turn v (row_commits v (first_deeds count v.log)))) (sym unchanged)
      (subst (λ (deeds : List Deed). Shows s (turn v (row_commits v deeds))) (sym nothing.0) shows);
}

pub commits_made :
    (s now : ServerState) (count : Option ℕ) (to : Option Txn) (before afterwards : Making) → IsCommit count to s.store now.store
    → KeepsTaken s.store now.store
    → now ≡ record s { store = now.store } → afterwards.step ≡ with_line before.at before.step (commit_line to) → afterwards.at ≡ before.at
    → Makes (λ v. row_commits v (first_deeds count v.log)) s now before afterwards
commits_made s now count (Some number) before afterwards is takes same step at =
    commits_some s now count number before afterwards is takes same step at
commits_made s now count None before afterwards is takes same step at = commits_none s now count before afterwards is same step at

-- ---- it was made, and then memory was wanting

kept_one : (s now : ServerState) (count : Option ℕ) (number : Txn) → IsCommit count (Some number) s.store now.store
    → KeepsBatches (λ v. row_commits v (first_deeds count v.log)) s now
kept_one s now count number is =
    λ v shows.
    let deeds = first_deeds count v.log in
    subst (λ (es : List Entry). KeepsFirst (batches_of es) s.store now.store) (sym (row_some v deeds (is.some v number shows.store refl).0))
    (keeps_one s.store now.store (batch_of deeds [] []) [] (is.batches v number shows.store refl))

kept_none : (s now : ServerState) (count : Option ℕ) → IsCommit count None s.store now.store
    → KeepsBatches (λ v. row_commits v (first_deeds count v.log)) s now
kept_none s now count is =
    λ v shows. keeps_all s.store now.store (batches_of (row_commits v (first_deeds count v.log)))
    (ap (λ (it : StoreState). it.batches) (is.nothing v shows.store refl).1)

pub commit_kept : (s now : ServerState) (count : Option ℕ) (to : Option Txn) → IsCommit count to s.store now.store
    → KeepsBatches (λ v. row_commits v (first_deeds count v.log)) s now
commit_kept s now count (Some number) is = kept_one s now count number is
commit_kept s now count None is = kept_none s now count is
