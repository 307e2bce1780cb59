-- The kept replays stand again: what each step of that asks for, and what it leaves.
use Rattle.std.proofs.Common.{◌≡◌, ◌≤◌, max, List, [], ◌∷◌, ◌++◌, map, take, refl, sym, ap, subst, ◌∙◌}
use Rattle.lu_base.specs.declared.ids.At.{At}
use Rattle.lu_base.specs.declared.ids.Txn.{Txn}
use Rattle.lu_base.specs.declared.ids.Who.{Who}
use Rattle.lu_msg.specs.declared.commits.Batch.{Batch}
use Rattle.lu_service.specs.declared.services.Kind.{Kind}
use Rattle.lu_service.specs.Contents.{Contents as Own}
use Rattle.lu_trace.specs.declared.entries.Entry.TheVariants as line
use Rattle.lu_trace.specs.Turns.{Making, with_line}
use Rattle.lu_spec_entries.specs.Carried.{Deed}
use Rattle.lu_spec_entries.specs.Words.{Close}
use Rattle.lu_spec_target.specs.Phase.{first_of}
use Rattle.lu_spec_target.specs.Lives.{lives_of as gone_of}
use Rattle.lu_spec_target.specs.Leaving.{last_of}
use Rattle.lu_spec_target.specs.Stored.{transaction_of, batch_of, last_number}
use Rattle.lu_spec_target.specs.Windows.{Replayed, settled}
use Rattle.lu_spec_target.specs.Outcomes.{window_of, outcome_of}
use Rattle.lu_spec_target.specs.Recovery.{commit_of, kept_lines}
use Rattle.lu_spec_target.specs.States.{Target}
use Rattle.lu_target_refines.specs.Batches.{IsClosing}
use Rattle.lu_target_refines.specs.Contents.{transaction_again}
use Rattle.lu_target_refines.specs.Journals.{AreRising}
use Rattle.lu_target_refines.proofs.Loads.{stored_committed, last_same}
use Rattle.lu_target_refines.proofs.RisingNumbers.{rising_below}
use Rattle.lu_target_store.specs.Stores as stores
use Rattle.lu_target_store.specs.Stores.{StoreState, Redoes, MayMove, KeepsDisk}
use Rattle.lu_target_redo.specs.Shown as redo
use Rattle.lu_target_redo.proofs.Steps.{last_shown, shows_above}
use Rattle.lu_target_server.specs.Commits.{IsMoved, KeepsMoved}
use Rattle.lu_spec_entries.specs.Given.{giving}
use Rattle.lu_target_server.specs.Middles.{KeepsFirst}
use Rattle.lu_target_server.specs.Servers.{ServerState}
use Rattle.lu_target_server.specs.Closing.{lines, kept_line, numbers_of, MayPerform, MayRedo, CanRedo, Decides, IsKept, HasSome}
use Rattle.lu_target_server.proofs.Composing.{giving_more}
use Rattle.lu_target_server.proofs.Lines.{kept_are}
use Rattle.lu_target_server.proofs.Notes.{noted_more}
use Rattle.lu_target_server.proofs.WindowClose.{is_closing, can_redo, last_early, may_move, redo_rises}

-- ---- what is kept is performed again

module _ (kept : List Replayed) (gone : List Who) (s : ServerState) (v : Target) (may : MayPerform kept gone s v) where
  -- it rises from above all that the service has used
  pub rises_own : AreRising s.contents.last (map {A = Replayed} transaction_again kept)
  rises_own =
      rising_below s.contents.last (max 1 v.disk.committed) (map {A = Replayed} transaction_again kept)
      (last_shown s.kind v.setting.osts (max 1 v.disk.committed) s.contents v.disk.contents may.contents) may.rising

-- ---- what the window decided may be done

module _ (kept : List Replayed) (gone joins : List Who) (s : ServerState) (v : Target) (d : Decides kept gone joins s v) (at : At) where
  pub closing_so : IsClosing v (outcome_of v at).kept gone joins
  closing_so =
      subst (λ (out : List Who). IsClosing v (outcome_of v at).kept out joins) (sym d.leaves)
      (subst (λ (come : List Who). IsClosing v (outcome_of v at).kept (gone_of (settled (window_of v)).gone) come) (sym d.comes)
      (is_closing s d.window v d.gathers at))

  pub redoes_so : MayRedo v.lives (first_of v.boot) v.committed (outcome_of v at).kept
  redoes_so = can_redo s d.window v d.gathers at

  -- at a server of the same store
  pub can_redo_so : (deeds : List Deed) (now : ServerState) → deeds ≡ (outcome_of v at).kept → now.store ≡ s.store → CanRedo deeds now v
  can_redo_so deeds now is same = (
    subst (λ (st : StoreState). stores.Recovers st v) (sym same) d.gathers.store,
    subst (MayRedo v.lives (first_of v.boot) v.committed) (sym is) redoes_so,
  )

  -- no number of this boot is given yet
  pub shows_first : (kind : Kind) (own : Own)
      → redo.Shows kind v.setting.osts (last_number (map {A = Replayed} transaction_again kept) (max 1 v.disk.committed)) own
      (outcome_of v at).disk.contents
      → redo.Shows kind v.setting.osts (first_of v.boot) own (outcome_of v at).disk.contents
  shows_first kind own shows =
      shows_above kind v.setting.osts (last_number (map {A = Replayed} transaction_again kept) (max 1 v.disk.committed)) (first_of v.boot)
      own (outcome_of v at).disk.contents
      (subst (λ (rs : List Replayed). last_number (map {A = Replayed} transaction_again rs) (max 1 v.disk.committed) ≤ first_of v.boot)
      (sym d.keeps) (last_early s d.window v d.gathers)) shows

  -- the number of the last that is on the disk then
  pub last_so : (outcome_of v at).disk.committed ≡ last_of (outcome_of v at).kept v.committed
  last_so =
      let deeds : List Deed = (outcome_of v at).kept in
      let disk : v.disk.committed ≡ v.committed = d.gathers.store.disk.committed in
      stored_committed v.setting.osts v.disk (batch_of deeds (gone_of (settled (window_of v)).gone) (settled (window_of v)).joins)
      (subst (λ n. AreRising n (map {A = Deed} transaction_of deeds)) (sym disk)
      (redo_rises v.lives (first_of v.boot) v.committed deeds redoes_so))
      ∙ ap (last_number (map {A = Deed} transaction_of deeds)) disk ∙ sym (last_same v.committed deeds)

-- ---- they stand again

pub record StoodAgain (kept : List Replayed) (gone : List Who) (s mid : ServerState) (numbers : List Txn) (at : At) : Type 0 where
  pub numbers_are : (v : Target) (joins : List Who) → Decides kept gone joins s v → numbers ≡ numbers_of (outcome_of v at).kept
  pub redone : (v : Target) (joins : List Who) → Decides kept gone joins s v → Redoes (outcome_of v at).kept mid.store v
  pub contents : (v : Target) (joins : List Who) → Decides kept gone joins s v
      → redo.Shows mid.kind v.setting.osts (first_of v.boot) mid.contents (outcome_of v at).disk.contents
  pub same : mid ≡ record s { store = mid.store; contents = mid.contents }
  pub disk : KeepsDisk s.store mid.store

pub stood_at : (kept : List Replayed) (gone : List Who) (s mid : ServerState) (numbers : List Txn) (a b : At) → a ≡ b
    → StoodAgain kept gone s mid numbers a → StoodAgain kept gone s mid numbers b
stood_at kept gone s mid numbers a b same stood = subst (StoodAgain kept gone s mid numbers) same stood

-- ---- they go to the disk

module _ (kept : List Replayed) (gone joins : List Who) (s mid : ServerState) (numbers : List Txn) (before : Making)
    (stood : StoodAgain kept gone s mid numbers before.at) where
  -- the lives may move
  pub may_move_so : (v : Target) → Decides kept gone joins s v → MayMove gone joins mid.store
  may_move_so v d = may_move (outcome_of v before.at).kept mid.store v gone joins (stood.redone v joins d)
      (closing_so kept gone joins s v d before.at)

  -- the batch may be there
  pub may_be_there : (new : ServerState) → KeepsMoved gone joins mid.store new.store
      → HasSome (Decides kept gone joins s) (λ v. batch_of (outcome_of v before.at).kept gone joins) s new
  may_be_there new keeps =
      λ v d.
      let some : KeepsFirst (batch_of (outcome_of v before.at).kept gone joins ∷ []) mid.store new.store =
      keeps.closing v (outcome_of v before.at).kept (stood.redone v joins d) (closing_so kept gone joins s v d before.at) in (
        some.0,
        some.1 ∙ ap (λ (bs : List Batch). bs ++ take some.0 (batch_of (outcome_of v before.at).kept gone joins ∷ []))
            stood.disk.batches,
      )

  -- or it is
  module _ (new : ServerState) (between told : Making) (moved : IsMoved gone joins mid new between told) where
    there : (v : Target) → Decides kept gone joins s v → new.store.batches ≡ s.store.batches
        ++ batch_of (outcome_of v before.at).kept gone joins ∷ []
    there v d =
        moved.closed.batches v (outcome_of v before.at).kept (stood.redone v joins d) (closing_so kept gone joins s v d before.at)
        ∙ ap (λ (bs : List Batch). bs ++ batch_of (outcome_of v before.at).kept gone joins ∷ []) stood.disk.batches

    pub is_there : HasSome (Decides kept gone joins s) (λ v. batch_of (outcome_of v before.at).kept gone joins) s new
    is_there = λ v d. (1, there v d)

    whole : new ≡ record s { store = new.store; contents = new.contents }
    whole =
        let own : new.contents ≡ mid.contents = ap (λ (it : ServerState). it.contents) moved.same in
        moved.same ∙ ap (λ (it : ServerState). record it { store = new.store }) stood.same
        ∙ ap (λ (c : Own). record s { store = new.store; contents = c }) (sym own)

    module _ (now : Making) (same : between.at ≡ before.at) (noted_close : between.step ≡ with_line before.at before.step line.Close)
        (noted_kept : now ≡ giving told (lines kept_line numbers)) where
      gives_so : (v : Target) → Decides kept gone joins s v
          → now ≡ giving before (Close (outcome_of v before.at) ∷ commit_of (outcome_of v before.at)
          ∷ kept_lines (outcome_of v before.at).kept)
      gives_so v d =
          let deeds : List Deed = (outcome_of v before.at).kept in
          let commits : told ≡ giving between (commit_of (outcome_of v before.at) ∷ []) =
          moved.told_close v deeds (settled (window_of v)) (stood.redone v joins d) (last_so kept gone joins s v d before.at) in
          let kept_told : now ≡ giving told (kept_lines deeds) =
          noted_kept ∙ ap (λ (ns : List Txn). giving told (lines kept_line ns)) (stood.numbers_are v joins d)
          ∙ ap (giving told) (kept_are deeds) in
          let rest : now ≡ giving between (commit_of (outcome_of v before.at) ∷ kept_lines deeds) =
          kept_told ∙ ap (λ (making : Making). giving making (kept_lines deeds)) commits
          ∙ giving_more between (commit_of (outcome_of v before.at) ∷ []) (kept_lines deeds) in
          noted_more (Close (outcome_of v before.at)) (commit_of (outcome_of v before.at) ∷ kept_lines deeds) line.Close before between now
          refl same noted_close rest

      pub is_kept : IsKept (Decides kept gone joins s) gone joins s new before now
      is_kept = record {
        gives = λ v d. gives_so v d;
        store = λ v d.
            moved.closed.shows v (outcome_of v before.at).kept (settled (window_of v)) (stood.redone v joins d) (sym d.leaves) (sym d.comes)
            (closing_so kept gone joins s v d before.at);
        contents = λ v d.
            subst (λ (it : ServerState). redo.Shows it.kind v.setting.osts (first_of v.boot) it.contents
            (outcome_of v before.at).disk.contents) (sym moved.same) (stood.contents v joins d);
        batches = λ v d. there v d;
        same = whole;
      }

-- ---- the same lives, told otherwise

module _ (a gone c joins : List Who) (is_gone : a ≡ gone) (is_joins : c ≡ joins) where
  pub may_as : (st : StoreState) → MayMove gone joins st → MayMove a c st
  may_as st may = subst (λ (xs : List Who). MayMove xs c st) (sym is_gone)
      (subst (λ (xs : List Who). MayMove gone xs st) (sym is_joins) may)

  pub keeps_as : (old new : StoreState) → KeepsMoved a c old new → KeepsMoved gone joins old new
  keeps_as old new keeps = subst (λ (xs : List Who). KeepsMoved gone xs old new) is_joins
      (subst (λ (xs : List Who). KeepsMoved xs c old new) is_gone keeps)

  pub moved_as : (old new : ServerState) (before now : Making) → IsMoved a c old new before now → IsMoved gone joins old new before now
  moved_as old new before now moved =
      subst (λ (xs : List Who). IsMoved gone xs old new before now) is_joins
      (subst (λ (xs : List Who). IsMoved xs c old new before now) is_gone moved)
