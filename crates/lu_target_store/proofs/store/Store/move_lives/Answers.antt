-- All that wasn't on the disk is there, and the lives have left and come.
use Rattle.std.proofs.Common.{◌≡◌, ℕ, ◌≤◌, ◌++◌, [], ◌∷◌, List, length, map, take, sym, ap, subst, ◌∙◌, rules}
use Rattle.lu_base.specs.declared.ids.Who.{Who}
use Rattle.lu_txn.specs.declared.logs.Logged.{Logged}
use Rattle.lu_txn.specs.Slots.{lives_of}
use Rattle.lu_txn.specs.Commits.{batch_of, after_commit}
use Rattle.lu_txn.specs.Journals.{JournalState}
use Rattle.lu_msg.specs.declared.commits.Batch.{Batch}
use Rattle.lu_spec_target.specs.Lives.{without_lives}
use Rattle.lu_spec_target.specs.Stored.{batch_of as rows_batch}
use Rattle.lu_spec_target.specs.States.{Target}
use Rattle.lu_spec_target.specs.Leaving.{last_of}
use Rattle.lu_target_refines.specs.Batches.{left_by, joined_by, AreAmong, AreApart}
use Rattle.lu_target_store.specs.Commits.{last_in}
use Rattle.lu_target_store.specs.Stores.{StoreState, Serves, Redoes, HasTaken}
use Rattle.lu_spec_entries.specs.Carried.{Deed}
use Rattle.lu_target_refines.specs.Journals.{logged_of}
use Rattle.lu_target_refines.proofs.Closes.{closing_log, closing_committed}
use Rattle.lu_target_store.proofs.Closing.{closed_shows, closed_is}
use Rattle.lu_target_store.proofs.Keeping.{without_keeps}
use Rattle.lu_target_store.proofs.Moves.{Numbers, left_keeps, joined_keeps, take_all, last_first, append_nothing, length_logged, stored_is}
use Rattle.lu_target_store.proofs.Moves.{stored_shows}
use Rattle.lu_target_store.proofs.store.Store.move_lives.Goals as goal

-- the numbers are those of before
pub write-requires-clause-order : goal.write-requires-clause-order
write-requires-clause-order g c =
    let j = c.self.inside.journal in
    let left : c.drop_slots.new.journal ≡ left_by c.args.gone.now j = c.drop_slots.ensures.left in
    let joined : c.add_slots.new.journal ≡ joined_by c.args.come.now c.drop_slots.new.journal = search rules in
    let is : c.add_slots.new.journal ≡ joined_by c.args.come.now (left_by c.args.gone.now j) = joined ∙ ap (joined_by c.args.come.now) left
    in
    let numbers : Numbers j (joined_by c.args.come.now (left_by c.args.gone.now j)) = (
      (joined_keeps c.args.come.now (left_by c.args.gone.now j)).0 ∙ (left_keeps c.args.gone.now j).0,
      (joined_keeps c.args.come.now (left_by c.args.gone.now j)).1 ∙ (left_keeps c.args.gone.now j).1,
    ) in
    subst (λ (n : ℕ). n ≤ c.last_of_first-to.result.0) (sym (ap (λ (it : JournalState). it.committed) is ∙ numbers.0))
    c.last_of_first-to.ensures.order

pub write-requires-clause-given : goal.write-requires-clause-given
write-requires-clause-given g c =
    let j = c.self.inside.journal in
    let left : c.drop_slots.new.journal ≡ left_by c.args.gone.now j = c.drop_slots.ensures.left in
    let joined : c.add_slots.new.journal ≡ joined_by c.args.come.now c.drop_slots.new.journal = search rules in
    let is : c.add_slots.new.journal ≡ joined_by c.args.come.now (left_by c.args.gone.now j) = joined ∙ ap (joined_by c.args.come.now) left
    in
    let numbers : Numbers j (joined_by c.args.come.now (left_by c.args.gone.now j)) = (
      (joined_keeps c.args.come.now (left_by c.args.gone.now j)).0 ∙ (left_keeps c.args.gone.now j).0,
      (joined_keeps c.args.come.now (left_by c.args.gone.now j)).1 ∙ (left_keeps c.args.gone.now j).1,
    ) in
    subst (λ (n : ℕ). c.last_of_first-to.result.0 ≤ n) (sym (ap (λ (it : JournalState). it.newest) is ∙ numbers.1))
    c.last_of_first-to.ensures.given

pub returns-clause-moved : goal.returns-clause-moved
returns-clause-moved g c =
    let j = c.self.inside.journal in
    let taken = c.self.inside.taken in
    let gone = c.args.gone.now in
    let come = c.args.come.now in
    let to = c.last_of_first-to.result in
    let own : StoreState = record {
      journal = j;
      taken = taken;
      batches = g.D.Disk.batches c.self.inside.disk;
      faults =
          g.D.Disk.faults c.self.inside.disk;
    } in
    let back : (v : Target) → Serves c.args.self.now v → Serves own v =
    (λ v s. subst (λ (it : StoreState). Serves it v) (sym c.self.view_is) s) in
    let lives : (v : Target) → Serves own v → lives_of c.args.self.now.journal.slots ≡ v.lives =
    (λ v s. ap (λ (it : StoreState). lives_of it.journal.slots) (sym c.self.view_is) ∙ sym s.journal.booted.lives) in
    let number_is : (v : Target) → Serves own v → to.0 ≡ last_of v.log v.committed =
    (λ v s. c.last_of_first-to.ensures.last
    ∙ ap (λ (ts : List Logged). last_in j.committed (take c.uncommitted_count-all.result ts)) s.journal.log
    ∙ last_first j.committed v.log c.uncommitted_count-all.result
    ∙ ap (λ n. last_of (take n v.log) j.committed) (c.uncommitted_count-all.ensures.count
    ∙ ap (λ (ts : List Logged). length ts) s.journal.log ∙ length_logged v.log)
    ∙ ap (λ log. last_of log j.committed) (take_all v.log)
    ∙ ap (last_of v.log) (sym s.journal.booted.committed)) in
    let left : c.drop_slots.new.journal ≡ left_by gone j = c.drop_slots.ensures.left in
    let joined : c.add_slots.new.journal ≡ joined_by come c.drop_slots.new.journal = search rules in
    let is : c.add_slots.new.journal ≡ joined_by come (left_by gone j) = joined ∙ ap (joined_by come) left in
    record {
      number = λ v s. number_is v (back v s);
      shows = λ v s. let own_s = back v s in
          stored_shows taken c.forget.new.self j c.write.new.journal _ _ _ _ v v.log [] gone come to.0 own_s
          c.uncommitted_count-all.ensures.sound
          (sym (append_nothing v.log)) tt
          c.requires.may.once (subst (λ (all : List Who). AreAmong all gone) (lives v own_s) c.requires.may.among) c.requires.may.new
          (subst (λ (all : List Who). AreApart (without_lives gone all) come) (lives v own_s) c.requires.may.apart) c.forget.ensures.without
          (number_is v own_s)
          (c.in_ok-write.ensures.committed ∙ ap (after_commit to.0) is)
          (c.in_ok-write.ensures.stored ∙ ap (λ (it : JournalState). own.batches ++ batch_of to.0 it ∷ []) is)
          (c.in_ok-write.ensures.sound);
      batches = λ v s. let own_s = back v s in
          c.in_ok-write.ensures.stored
          ∙ ap (λ (it : JournalState). own.batches ++ batch_of to.0 it ∷ []) is
          ∙ ap (λ (batch : Batch). own.batches ++ batch ∷ [])
          (stored_is taken j v v.log [] gone come to.0 own_s.journal c.uncommitted_count-all.ensures.sound (sym (append_nothing v.log))
          c.requires.may.once (subst (λ (all : List Who). AreAmong all gone) (lives v own_s) c.requires.may.among) c.requires.may.new
          (subst (λ (all : List Who). AreApart (without_lives gone all) come) (lives v own_s) c.requires.may.apart) (number_is v own_s))
          ∙ ap (λ (it : StoreState). it.batches ++ rows_batch v.log gone come ∷ []) c.self.view_is;
    }

pub returns-clause-closed : goal.returns-clause-closed
returns-clause-closed g c =
    let j = c.self.inside.journal in
    let taken = c.self.inside.taken in
    let gone = c.args.gone.now in
    let come = c.args.come.now in
    let to = c.last_of_first-to.result in
    let own : StoreState = record {
      journal = j;
      taken = taken;
      batches = g.D.Disk.batches c.self.inside.disk;
      faults =
          g.D.Disk.faults c.self.inside.disk;
    } in
    let back : (v : Target) (deeds : List Deed) → Redoes deeds c.args.self.now v → Redoes deeds own v =
    (λ v deeds shows. subst (λ (it : StoreState). Redoes deeds it v) (sym c.self.view_is) shows) in
    let log_is : (v : Target) (deeds : List Deed) → Redoes deeds own v → j.transactions ≡ map logged_of deeds =
    (λ v deeds shows. ap (λ (it : JournalState). it.transactions) shows.journal ∙ closing_log shows.before v deeds shows.window) in
    let committed_is : (v : Target) (deeds : List Deed) → Redoes deeds own v → j.committed ≡ v.committed =
    (λ v deeds shows. ap (λ (it : JournalState). it.committed) shows.journal ∙ sym (closing_committed shows.before v deeds shows.window)) in
    let number_is : (v : Target) (deeds : List Deed) → Redoes deeds own v → to.0 ≡ last_of deeds v.committed =
    (λ v deeds shows. c.last_of_first-to.ensures.last
    ∙ ap (λ (ts : List Logged). last_in j.committed (take c.uncommitted_count-all.result ts)) (log_is v deeds shows)
    ∙ last_first j.committed deeds c.uncommitted_count-all.result
    ∙ ap (λ n. last_of (take n deeds) j.committed) (c.uncommitted_count-all.ensures.count
    ∙ ap (λ (ts : List Logged). length ts) (log_is v deeds shows) ∙ length_logged deeds)
    ∙ ap (λ log. last_of log j.committed) (take_all deeds)
    ∙ ap (last_of deeds) (committed_is v deeds shows)) in
    let left : c.drop_slots.new.journal ≡ left_by gone j = c.drop_slots.ensures.left in
    let joined : c.add_slots.new.journal ≡ joined_by come c.drop_slots.new.journal = search rules in
    let is : c.add_slots.new.journal ≡ joined_by come (left_by gone j) = joined ∙ ap (joined_by come) left in
    record {
      number = λ v deeds shows. number_is v deeds (back v deeds shows);
      shows = λ v deeds s shows is_gone is_come closing.
          closed_shows taken c.forget.new.self j c.write.new.journal _ _ _ _ v deeds s gone come to.0 (back v deeds shows)
          c.uncommitted_count-all.ensures.sound c.forget.ensures.without
          is_gone is_come closing (number_is v deeds (back v deeds shows)) (c.in_ok-write.ensures.committed ∙ ap (after_commit to.0) is)
          (c.in_ok-write.ensures.stored ∙ ap (λ (it : JournalState). own.batches ++ batch_of to.0 it ∷ []) is)
          (c.in_ok-write.ensures.sound);
      batches = λ v deeds shows closing.
          c.in_ok-write.ensures.stored
          ∙ ap (λ (it : JournalState). own.batches ++ batch_of to.0 it ∷ []) is
          ∙ ap (λ (batch : Batch). own.batches ++ batch ∷ [])
          (closed_is taken j own.batches own.faults v deeds gone come to.0 (back v deeds shows) c.uncommitted_count-all.ensures.sound
          closing (number_is v deeds (back v deeds shows)))
          ∙ ap (λ (it : StoreState). it.batches ++ rows_batch deeds gone come ∷ []) c.self.view_is;
    }

pub returns-clause-takes : goal.returns-clause-takes
returns-clause-takes g c =
    λ who tag apart some.
    without_keeps c.args.gone.now c.self.inside.taken c.forget.new.self c.forget.ensures.without who tag apart
    (subst (λ (it : StoreState). HasTaken who tag it) (sym c.self.view_is) some)
