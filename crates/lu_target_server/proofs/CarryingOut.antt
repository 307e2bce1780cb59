-- What a window decided is carried out as a whole.
use Rattle.std.proofs.Common.{◌≡◌, ℕ, List, [], ◌∷◌, ◌++◌, map, take, refl, sym, ap, subst, ◌∙◌}
use Rattle.lu_base.specs.declared.ids.At.{At}
use Rattle.lu_base.specs.declared.ids.Who.{Who}
use Rattle.lu_base.specs.declared.locks.Lock.{Lock}
use Rattle.lu_msg.specs.declared.commits.Batch.{Batch}
use Rattle.lu_trace.specs.Turns.{Making}
use Rattle.lu_spec_entries.specs.Words.{Entry, Close, Fail}
use Rattle.lu_spec_target.specs.Disks.{batches_of}
use Rattle.lu_spec_target.specs.Lives.{lives_of as gone_of}
use Rattle.lu_spec_target.specs.Stored.{batch_of}
use Rattle.lu_spec_target.specs.Windows.{Window, Settled, settled}
use Rattle.lu_spec_target.specs.Outcomes.{window_of, outcome_of}
use Rattle.lu_spec_target.specs.Recovery.{commit_of, kept_lines, restore_lines, answers_all, row_close}
use Rattle.lu_spec_target.specs.States.{Target}
use Rattle.lu_target_refines.specs.Windows.{settled_of}
use Rattle.lu_window.specs.Shown.{kept_replay}
use Rattle.lu_window.specs.States.{State}
use Rattle.lu_window.specs.declared.outcomes.Outcome.{Outcome}
use Rattle.lu_target_store.specs.Stores as stores
use Rattle.lu_target_store.specs.Stores.{Serves}
use Rattle.lu_target_locks.specs.Servers as locking
use Rattle.lu_target_locks.specs.Servers.{ShowsCounts, ServerState as LockState}
use Rattle.lu_target_locks.specs.Standing.{AreOrdered, StandAgain}
use Rattle.lu_spec_entries.specs.Given.{giving}
use Rattle.lu_target_server.specs.Middles.{KeepsFirst}
use Rattle.lu_target_server.specs.Passing.{IsClosed, HasBatches, StopsAt}
use Rattle.lu_target_server.specs.Recovering.{Gathers}
use Rattle.lu_target_server.specs.Servers.{ServerState, Shows, DiskFailed}
use Rattle.lu_target_server.specs.Closing.{Settles, Decides, IsKept, HasSome, closed_at, close_lines, gone_in}
use Rattle.lu_target_server.proofs.Composing.{giving_more}
use Rattle.lu_target_server.proofs.MovedLives.{keeps_first}
use Rattle.lu_target_server.proofs.WholeClose.{decides, row_is, state_is, tail_is, closed_shows}
use Rattle.lu_target_server.proofs.WindowClose.{are_ordered, stand_again}

-- ---- what was decided

module _ (s : ServerState) (o : Outcome) (v : Target) (it : Settles s o v) where
  pub locks_so : o.locks ≡ (settled (window_of v)).locks
  locks_so = ap (λ (x : Settled). x.locks) it.settled

  -- the locks may stand again
  pub ordered_so : (at : At) → AreOrdered o.locks
  ordered_so at = subst AreOrdered (sym locks_so) (are_ordered s it.window v it.gathers at)

  pub stands_so : (at : At) → StandAgain o.locks v (closed_at at v)
  stands_so at = subst (λ (locks : List Lock). StandAgain locks v (closed_at at v)) (sym locks_so) (stand_again s it.window v it.gathers at)

-- ---- it is done

module _ (s mid new : ServerState) (o : Outcome) (lives out : List Who) (before between now : Making) (is_out : out ≡ gone_in o.evicted)
    (kept : IsKept (Decides (map kept_replay o.kept) out o.joins s) out o.joins s mid before between) where
  -- some states of the parts
  locks_stay : mid.locks ≡ s.locks
  locks_stay = ap (λ (x : ServerState). x.locks) kept.same

  boot_stays : mid.boot ≡ s.boot
  boot_stays = ap (λ (x : ServerState). x.boot) kept.same

  module _ (are_lives : (v : Target) → stores.Recovers s.store v → lives ≡ v.lives)
      (told : (v : Target) → Serves mid.store v → now ≡ giving between
      (close_lines mid.boot v.committed lives out o.evicted o.locks o.joins)) where
    gives_so : (v : Target) → Settles s o v → now ≡ giving before (row_close before.at v)
    gives_so v it =
        let at : At = before.at in
        let d : Decides (map kept_replay o.kept) out o.joins s v = decides s o v out is_out it in
        let y : Target = closed_at at v in
        let first : List Entry = Close (outcome_of v at) ∷ commit_of (outcome_of v at) ∷ kept_lines (outcome_of v at).kept in
        let tail : List Entry = restore_lines (outcome_of v at).locks ++ answers_all (outcome_of v at) v.lives y in
        let lines_are : close_lines mid.boot y.committed lives out o.evicted o.locks o.joins ≡ tail =
        tail_is s it.window v it.gathers at mid.boot y.committed lives out o.evicted o.locks o.joins (it.gathers.boot ∙ sym boot_stays) refl
        (are_lives v it.gathers.store) d.leaves
        (ap (λ (x : Settled). x.gone) it.settled) (locks_so s o v it) d.comes in
        told y (kept.store v d) ∙ ap (giving between) lines_are ∙ ap (λ (making : Making). giving making tail) (kept.gives v d)
        ∙ giving_more before first tail
        ∙ ap (giving before) (sym (row_is s it.window v it.gathers at))

    pub carried : ((v w : Target) → ShowsCounts mid.locks v → StandAgain o.locks v w → locking.Shows new.locks w) → new
        ≡ record mid { locks = new.locks }
        → IsClosed (Settles s o) (row_close before.at) new before now
    carried restored same = record {
      gives = λ v it. gives_so v it;
      serves = λ v it.
          let at : At = before.at in
          let d : Decides (map kept_replay o.kept) out o.joins s v = decides s o v out is_out it in
          let counts : ShowsCounts mid.locks v = subst (λ (x : LockState). ShowsCounts x v) (sym locks_stay) it.gathers.locks in
          subst (Shows new) (sym (state_is s it.window v it.gathers at))
          (closed_shows s it.window v it.gathers at mid new kept.same same (kept.store v d) (kept.contents v d)
          (restored v (closed_at at v) counts (stands_so s o v it at)));
    }

  -- it is on the disk
  pub is_written : new.store.batches ≡ mid.store.batches → HasBatches (Settles s o) (row_close before.at) s.store.batches new.store.batches
  is_written same =
      λ v it.
      let d : Decides (map kept_replay o.kept) out o.joins s v = decides s o v out is_out it in
      (1, same ∙ kept.batches v d ∙ ap (λ (bs : List Batch). s.store.batches ++ bs) (own v d))
    where
      own : (v : Target) → Decides (map kept_replay o.kept) out o.joins s v → batch_of (outcome_of v before.at).kept out o.joins ∷ []
          ≡ take 1 (batches_of (row_close before.at v))
      own v d =
          ap (λ (gone : List Who). batch_of (outcome_of v before.at).kept gone o.joins ∷ []) d.leaves
          ∙ ap (λ (come : List Who). batch_of (outcome_of v before.at).kept (gone_of (settled (window_of v)).gone) come ∷ []) d.comes

-- ---- errors

-- it may be on the disk
pub may_be_written : (s new : ServerState) (o : Outcome) (out : List Who) (at : At) → out ≡ gone_in o.evicted
    → HasSome (Decides (map kept_replay o.kept) out o.joins s) (λ v. batch_of (outcome_of v at).kept out o.joins) s new
    → HasBatches (Settles s o) (row_close at) s.store.batches new.store.batches
may_be_written s new o out at is_out some =
    λ v it.
    let d : Decides (map kept_replay o.kept) out o.joins s v = decides s o v out is_out it in
    let own : KeepsFirst (batch_of (outcome_of v at).kept (gone_of (settled (window_of v)).gone) (settled (window_of v)).joins ∷ []) s.store
    new.store =
    subst (λ (gone : List Who). KeepsFirst (batch_of (outcome_of v at).kept gone (settled (window_of v)).joins ∷ []) s.store new.store)
    d.leaves
    (subst (λ (come : List Who). KeepsFirst (batch_of (outcome_of v at).kept out come ∷ []) s.store new.store) d.comes (some v d)) in
    keeps_first s.store new.store (batch_of (outcome_of v at).kept (gone_of (settled (window_of v)).gone) (settled (window_of v)).joins) _
    own

-- the disk failed
pub stops : (s new : ServerState) (o : Outcome) (before now : Making) → DiskFailed s new
    × ((v : Target) → now ≡ giving before (Close (outcome_of v before.at) ∷ Fail ∷ []))
    → DiskFailed s new × StopsAt 0 (Settles s o) (row_close before.at) before now
stops s new o before now failed = (failed.0, λ v it. failed.1 v)

-- ---- the window was closed

pub settles_so : (s : ServerState) (w : State) (o : Outcome) → settled_of o ≡ settled w.window → (v : Target) → Gathers s w v
    → Settles s o v
settles_so s w o e v g = record { window = w; gathers = g; settled = e ∙ ap (λ (x : Window). settled x) g.window }

module _ (P Q : Target → Type 0) (under : (v : Target) → Q v → P v) (row : Target → List Entry) where
  pub closed_under : (new : ServerState) (before now : Making) → IsClosed P row new before now → IsClosed Q row new before now
  closed_under new before now closed = record { gives = λ v it. closed.gives v (under v it); serves = λ v it. closed.serves v (under v it) }

  pub stops_under : (n : ℕ) (before now : Making) → StopsAt n P row before now → StopsAt n Q row before now
  stops_under n before now stop = λ v it. stop v (under v it)

  pub batches_under : (old new : List Batch) → HasBatches P row old new → HasBatches Q row old new
  batches_under old new has = λ v it. has v (under v it)
