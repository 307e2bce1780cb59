-- A close as a whole: its row was told, and what it leaves serves.
use Rattle.std.proofs.Common.{◌≡◌, ℕ, ◌≤◌, max, Bool, true, not, List, [], ◌∷◌, ◌++◌, map, filter, take, refl, sym, ap, subst, ◌∙◌}
use Rattle.std.proofs.Common.{append_assoc}
use Rattle.std.specs.Prelude.{All}
use Rattle.std.proofs.lemmas.List.Elements.{All-nil}
use Rattle.lu_base.specs.declared.ids.At.{At}
use Rattle.lu_base.specs.declared.ids.Who.{Who}
use Rattle.lu_base.specs.declared.locks.Lock.{Lock}
use Rattle.lu_msg.specs.declared.messages.Request.{Request}
use Rattle.lu_trace.specs.Turns.{Making}
use Rattle.lu_spec_entries.specs.Carried.{Deed, Gone, Outcome as RowsOutcome, Contents}
use Rattle.lu_spec_entries.specs.Words.{Entry, Close}
use Rattle.lu_spec_target.specs.Phase.{first_of}
use Rattle.lu_spec_target.specs.Lives.{is_life, lives_of as gone_of}
use Rattle.lu_spec_target.specs.Stored.{forgotten, last_number}
use Rattle.lu_spec_target.specs.Windows.{Replayed, Settled, settled}
use Rattle.lu_spec_target.specs.Outcomes.{window_of, restored, outcome_of}
use Rattle.lu_spec_target.specs.Recovery.{commit_of, kept_lines, restore_lines, evict_lines, ready_lines, joined_lines, answers_all}
use Rattle.lu_spec_target.specs.Recovery.{row_close}
use Rattle.lu_spec_target.specs.States.{Setting, Target, turn}
use Rattle.lu_target_refines.specs.Windows.{settled_of}
use Rattle.lu_window.specs.Shown.{kept_replay, gone}
use Rattle.lu_window.specs.States.{State}
use Rattle.lu_window.specs.declared.outcomes.Eviction.{Eviction}
use Rattle.lu_window.specs.declared.outcomes.Outcome.{Outcome}
use Rattle.lu_target_invariant.proofs.Closing.{sound_closed}
use Rattle.lu_target_store.specs.Stores.{Serves, HasTaken}
use Rattle.lu_target_locks.specs.Servers as locking
use Rattle.lu_target_locks.specs.Standing.{StandAgain}
use Rattle.lu_target_redo.specs.Shown as redo
use Rattle.lu_spec_entries.specs.Given.{giving}
use Rattle.lu_target_server.specs.Servers.{ServerState, Shows}
use Rattle.lu_target_server.specs.Recovering.{Gathers}
use Rattle.lu_target_server.specs.Closing.{Settles, Decides, IsKept, closed_at, close_lines, gone_in, lines, restore_line, evict_line}
use Rattle.lu_target_server.specs.Closing.{stays_line, joined_line}
use Rattle.lu_target_server.proofs.Composing.{giving_more, turn_more}
use Rattle.lu_target_server.proofs.Lines.{restored_are, evicted_are, staying_are, joined_are}
use Rattle.lu_target_server.proofs.WindowClose.{forgotten_twice, no_number, may_be_closed, stand_again, nothing_more, restored_nothing}

-- ---- what the window decided, as the code has it

gone_is : (them : List Eviction) → gone_of (map gone them) ≡ gone_in them
gone_is [] = refl
gone_is (e ∷ them) = ap (λ (more : List Who). e.who ∷ more) (gone_is them)

pub decides : (s : ServerState) (o : Outcome) (v : Target) (out : List Who) → out ≡ gone_in o.evicted → Settles s o v
    → Decides (map kept_replay o.kept) out o.joins s v
decides s o v out is it = record {
  window = it.window;
  gathers = it.gathers;
  keeps = ap (λ (x : Settled). x.kept) it.settled;
  leaves = is ∙ sym (gone_is o.evicted) ∙ ap (λ (x : Settled). gone_of x.gone) it.settled;
  comes = ap (λ (x : Settled). x.joins) it.settled;
}

-- ---- the row

module _ (s : ServerState) (w : State) (v : Target) (g : Gathers s w v) (at : At) where
  x : Target
  x = closed_at at v

  o : RowsOutcome
  o = outcome_of v at

  pub row_is : row_close at v ≡ Close (outcome_of v at) ∷ commit_of (outcome_of v at)
      ∷ (kept_lines (outcome_of v at).kept ++ (restore_lines (outcome_of v at).locks
      ++ answers_all (outcome_of v at) v.lives (closed_at at v)))
  row_is =
      let first : List Entry = kept_lines (outcome_of v at).kept ++ restore_lines (outcome_of v at).locks in
      ap (λ (y : Target). Close (outcome_of v at) ∷ commit_of (outcome_of v at) ∷ (first ++ answers_all (outcome_of v at) v.lives y))
      (restored_nothing s w v g at (outcome_of v at).kept)
      ∙ ap (λ (es : List Entry). Close (outcome_of v at) ∷ commit_of (outcome_of v at) ∷ es)
      (append_assoc (kept_lines (outcome_of v at).kept) (restore_lines (outcome_of v at).locks)
      (answers_all (outcome_of v at) v.lives (closed_at at v)))

  pub state_is : turn v (row_close at v) ≡ closed_at at v
  state_is =
      ap (turn v) row_is
      ∙ nothing_more s w v g at (settled (window_of v)).gone (filter (λ who. not (is_life who (gone_of (settled (window_of v)).gone)))
      v.lives) (settled (window_of v)).joins (outcome_of v at).kept

  -- what the code tells then is the rest of it
  pub tail_is : (boot committed : ℕ) (lives out : List Who) (them : List Eviction) (locks : List Lock) (joins : List Who) → v.boot ≡ boot
      → (closed_at at v).committed ≡ committed → lives ≡ v.lives
      → out ≡ gone_of (settled (window_of v)).gone → map gone them ≡ (settled (window_of v)).gone → locks ≡ (settled (window_of v)).locks
      → joins ≡ (settled (window_of v)).joins
      → close_lines boot committed lives out them locks joins ≡ restore_lines (outcome_of v at).locks
      ++ answers_all (outcome_of v at) v.lives (closed_at at v)
  tail_is boot committed lives out them locks joins is_boot is_committed is_lives is_out is_them is_locks is_joins =
      let y : Target = closed_at at v in
      ap (λ n. close_lines n committed lives out them locks joins) (sym is_boot)
      ∙ ap (λ n. close_lines v.boot n lives out them locks joins) (sym is_committed)
      ∙ ap (λ (xs : List Who). close_lines v.boot y.committed xs out them locks joins) is_lives
      ∙ ap (λ (xs : List Who). close_lines v.boot y.committed v.lives xs them locks joins) is_out
      ∙ ap (λ (xs : List Lock). close_lines v.boot y.committed v.lives (gone_of (settled (window_of v)).gone) them xs joins) is_locks
      ∙ ap (λ (xs : List Who). close_lines v.boot y.committed v.lives (gone_of (settled (window_of v)).gone) them
      (settled (window_of v)).locks xs) is_joins
      ∙ ap (λ (es : List Entry). es ++ (lines (evict_line v.boot) them
      ++ (lines (stays_line (gone_of (settled (window_of v)).gone) v.boot y.committed) v.lives
      ++ lines (joined_line v.boot y.committed) (settled (window_of v)).joins)))
      (restored_are (restored [] (settled (window_of v)).locks))
      ∙ ap (λ (es : List Entry). restore_lines (restored [] (settled (window_of v)).locks)
      ++ (es ++ (lines (stays_line (gone_of (settled (window_of v)).gone) v.boot y.committed) v.lives
      ++ lines (joined_line v.boot y.committed) (settled (window_of v)).joins)))
      (evicted_are y them ∙ ap (evict_lines y) is_them)
      ∙ ap (λ (es : List Entry). restore_lines (restored [] (settled (window_of v)).locks)
      ++ (evict_lines y (settled (window_of v)).gone ++ (es ++ lines (joined_line v.boot y.committed) (settled (window_of v)).joins)))
      (staying_are y (gone_of (settled (window_of v)).gone) v.lives)
      ∙ ap (λ (es : List Entry). restore_lines (restored [] (settled (window_of v)).locks)
      ++ (evict_lines y (settled (window_of v)).gone ++ (ready_lines y
      (filter (λ who. not (is_life who (gone_of (settled (window_of v)).gone))) v.lives) ++ es)))
      (joined_are y (settled (window_of v)).joins)

  -- what stands then serves
  pub closed_shows : (mid new : ServerState) → mid ≡ record s { store = mid.store; contents = mid.contents } → new
      ≡ record mid { locks = new.locks } → Serves mid.store (closed_at at v)
      → redo.Shows mid.kind v.setting.osts (first_of v.boot) mid.contents (outcome_of v at).disk.contents
      → locking.Shows new.locks (closed_at at v) → Shows new (closed_at at v)
  closed_shows mid new same more serves contents locks =
      let whole : new ≡ record s { store = mid.store; contents = mid.contents; locks = new.locks } = more
      ∙ ap (λ (it : ServerState). record it { locks = new.locks }) same in
      let y : Target = closed_at at v in
      let is : Shows (record s { store = mid.store; contents = mid.contents; locks = new.locks }) y = record {
        id = g.id;
        kind = g.kind;
        expire = g.expire;
        boot = g.boot;
        store = serves;
        locks = locks;
        contents =
            subst (λ n. redo.Shows s.kind v.setting.osts n mid.contents y.contents) (sym (no_number s w v g))
            (subst (λ (c : Contents). redo.Shows s.kind v.setting.osts (first_of v.boot) mid.contents c) (sym (twice v))
            (subst (λ kind. redo.Shows kind v.setting.osts (first_of v.boot) mid.contents (outcome_of v at).disk.contents)
            (ap (λ (it : ServerState). it.kind) same) contents));
        requests = sym g.requests;
        taken = subst (All (λ (r : Request). HasTaken r.who r.tag mid.store)) (sym g.requests)
            (All-nil (λ (r : Request). HasTaken r.who r.tag mid.store));
        sound = sound_closed s.kind v (outcome_of v at).kept (settled (window_of v)) (may_be_closed s w v g);
      } in
      subst (λ (it : ServerState). Shows it y) (sym whole) is
    where
      twice : (u : Target) → forgotten (gone_of (settled (window_of v)).gone) (outcome_of v at).disk.contents
          ≡ (outcome_of v at).disk.contents
      twice u = forgotten_twice (gone_of (settled (window_of v)).gone) _
