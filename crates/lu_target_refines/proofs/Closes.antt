-- The close of a recovery window: the kept replays are appended to the loaded journal, lives leave and come, and with the
-- commit of all that the target serves. Nothing was taken yet.
use Rattle.std.proofs.Common.{◌≡◌, ℕ, suc, ◌+◌, ◌-◌, ◌*◌, ◌^◌, ◌<◌, ◌≤◌, ◌==◌, ◌&&◌, ◌||◌, Bool, true, false, List, [], ◌∷◌, ◌++◌, map}
use Rattle.std.proofs.Common.{length, Option, Some, None, refl, sym, ap, subst, ◌∙◌, arith}
use Rattle.std.specs.Prelude.{if◌then◌else◌, not, All, IsSome}
use Rattle.std.specs.List.{list_any, fold}
use Rattle.lu_base.specs.declared.ids.Who.{Who}
use Rattle.lu_msg.specs.declared.commits.Batch.{Batch}
use Rattle.lu_msg.specs.declared.commits.KeptReply.{KeptReply}
use Rattle.lu_msg.specs.declared.commits.Transaction.{Transaction}
use Rattle.lu_msg.specs.declared.messages.Reply.{Reply}
use Rattle.lu_txn.specs.declared.logs.Logged.{Logged}
use Rattle.lu_txn.specs.Slots.{slot_of, reply_at, lives_of, with_lives as slots_with, without_lives as slots_gone}
use Rattle.lu_txn.specs.Logs.{number, above}
use Rattle.lu_txn.specs.Journals.{JournalState, IsSound}
use Rattle.lu_txn.specs.Commits.{is_for, reply_for, is_made_by, after_commit}
use Rattle.lu_txn.specs.Commits as journal_commit
use Rattle.lu_txn.proofs.SlotLaws.{lives-with_reply, tags-with_reply}
use Rattle.lu_txn.proofs.Lookups.{reply_after}
use Rattle.lu_spec_entries.specs.Carried.{Deed, Slot, LifeSlot}
use Rattle.lu_spec_entries.specs.Words.{Close, same_life}
use Rattle.lu_spec_target.specs.Phase.{first_of}
use Rattle.lu_spec_target.specs.Lives.{is_life, life_before, with_lives, without_lives, lives_of as gone_of, no_slot, slot_in, with_slot}
use Rattle.lu_spec_target.specs.Lives.{slots_kept, slots_without}
use Rattle.lu_spec_target.specs.Stored.{transaction_of, batch_of, replies_of, same_kept, kept_before, last_number}
use Rattle.lu_spec_target.specs.Windows.{Settled}
use Rattle.lu_spec_target.specs.States.{Target, after, turn}
use Rattle.lu_spec_target.specs.Leaving.{last_of, is_over}
use Rattle.lu_spec_target.specs.Outcomes.{outcome_by}
use Rattle.lu_spec_target.specs.Recovery.{commit_of}
use Rattle.lu_target_refines.specs.Journals.{logged_of, TakenBy, slot_shown, AreShown, IsUntaken, IsWithout, IsSettled, ShowsBoot}
use Rattle.lu_target_refines.specs.Journals.{ShowsWindow, AreHeld, ShowsJournal, AreRising, ShowsDisk}
use Rattle.lu_target_refines.specs.Batches.{left_by, joined_by, AreOnce, AreAmong, AreApart, appended_one, all_appended, IsClosing}
use Rattle.lu_target_refines.proofs.Slots.{same_back, slot_put, slot_without}
use Rattle.lu_target_refines.proofs.Rising.{AllAfter, Rises, none_after, after_beside}
use Rattle.lu_target_refines.proofs.LifeLists.{any_append, any_with_lives, or_turned, or_twice, life_without, has_slot, one_lives}
use Rattle.lu_target_refines.proofs.LifeLists.{rises_from, rises_with_lives, rises_without, lives_with_all, lives_gone_all}
use Rattle.lu_target_refines.proofs.Moving.{append_none, append_one, left_as, joined_as}
use Rattle.lu_target_refines.proofs.Replies.{kept_order, rises_replies, reply_in, key, reply_found, newer, replies_for}
use Rattle.lu_target_refines.proofs.RisingNumbers.{late_rising}
use Rattle.lu_target_refines.proofs.Batches.{rising_from, transactions_of, above_log, cut_rest, batch_is, moved_is, slots_moved, held_more}
use Rattle.lu_target_refines.proofs.Loads.{last_same, stored_committed, of_replies, below_front, given_below, stores}

-- ---- the journal with the kept replays

pub record IsBeside (j new : JournalState) : Type 0 where
  pub boot : new.boot ≡ j.boot
  pub stored : new.boot_stored ≡ j.boot_stored
  pub committed : new.committed ≡ j.committed
  pub added : new.added ≡ j.added
  pub dropped : new.dropped ≡ j.dropped
  pub removed : new.removed ≡ j.removed

appended_beside : (ds : List Deed) (j : JournalState) → IsBeside j (all_appended ds j)
appended_beside [] j = record { boot = refl; stored = refl; committed = refl; added = refl; dropped = refl; removed = refl }
appended_beside (d ∷ ds) j =
    let rest : IsBeside (appended_one j d) (all_appended ds (appended_one j d)) = appended_beside ds (appended_one j d) in
    record {
      boot = rest.boot;
      stored = rest.stored;
      committed = rest.committed;
      added = rest.added;
      dropped = rest.dropped;
      removed =
          rest.removed;
    }

appended_log : (ds : List Deed) (j : JournalState) → (all_appended ds j).transactions ≡ j.transactions ++ map logged_of ds
appended_log [] j = sym (append_none j.transactions)
appended_log (d ∷ ds) j = appended_log ds (appended_one j d) ∙ append_one j.transactions (logged_of d) (map logged_of ds)

appended_newest : (ds : List Deed) (j : JournalState) → (all_appended ds j).newest ≡ last_of ds j.newest
appended_newest [] j = refl
appended_newest (d ∷ ds) j = appended_newest ds (appended_one j d)

appended_lives : (ds : List Deed) (j : JournalState) → lives_of (all_appended ds j).slots ≡ lives_of j.slots
appended_lives [] j = refl
appended_lives (d ∷ ds) j = appended_lives ds (appended_one j d) ∙ lives-with_reply d.reply.who d.tag d.reply j.slots

appended_replies : (w : Who) (t : ℕ) (ds : List Deed) (j : JournalState) → AreHeld (lives_of j.slots) ds
    → All (λ logged. logged.transaction.tag < 8) (map logged_of ds)
    → All (λ slot. length slot.replies ≡ 8) j.slots → reply_at w t (all_appended ds j).slots
    ≡ fold (newer w t) (reply_at w t j.slots) (map logged_of ds)
appended_replies w t [] j held tags eight = refl
appended_replies w t (d ∷ ds) j held tags eight =
    let there : IsSome (slot_of d.reply.who j.slots) = has_slot d.reply.who j.slots ∙ held.0 in
    appended_replies w t ds (appended_one j d)
    (subst (λ lives. AreHeld lives ds) (sym (lives-with_reply d.reply.who d.tag d.reply j.slots)) held.1)
    (λ k e within. tags (suc k) e (omega arith))
    (tags-with_reply d.reply.who d.tag d.reply j.slots eight)
    ∙ ap (λ before. fold (newer w t) before (map logged_of ds))
    (reply_after d.reply.who d.tag d.reply j.slots w t (tags 0 (logged_of d) (omega arith)) eight there)

-- ---- a slot once replies are kept in order of life and tag

abbrev over_slot : Option Reply → Slot → Slot
over_slot None slot = slot
over_slot (Some reply) slot = record { taken = reply.xid.0; reply = Some reply }

for_key : (w : Who) (t : ℕ) (k : KeptReply) → is_for w t k ≡ (same_life w k.who && t == k.tag)
for_key w t k = ap (λ same. same && t == k.tag) (same_back k.who w)

none_later : (w : Who) (t : ℕ) (k : KeptReply) (kept : List KeptReply) → (same_life w k.who && t == k.tag) ≡ true
    → AllAfter kept_before k kept → reply_for w t kept ≡ None
none_later w t k kept e all =
    reply_found w t k.reply kept
    ∙ ap reply_in (none_after same_kept kept_before kept_order (key w t k.reply) kept
    (after_beside same_kept kept_before kept_order (key w t k.reply) k kept e all))

slot_kept : (w : Who) (t : ℕ) (kept : List KeptReply) (slots : List LifeSlot) → Rises kept_before kept → slot_in (slots_kept kept slots) w t
    ≡ over_slot (reply_for w t kept) (slot_in slots w t)
slot_kept w t [] slots rises = refl
slot_kept w t (k ∷ kept) slots rises =
    slot_kept w t kept (with_slot k.who k.tag (record { taken = k.reply.xid.0; reply = Some k.reply }) slots) rises.1
    ∙ ap (over_slot (reply_for w t kept)) (slot_put k.who k.tag (record { taken = k.reply.xid.0; reply = Some k.reply }) slots w t)
    ∙ by (same_life w k.who && t == k.tag) refl where
      by : (here : Bool) → (same_life w k.who && t == k.tag) ≡ here
          → over_slot (reply_for w t kept) (if here then record { taken = k.reply.xid.0; reply = Some k.reply } else slot_in slots w t)
          ≡ over_slot (if is_for w t k then Some k.reply else reply_for w t kept) (slot_in slots w t)
      by true e = rw (none_later w t k kept e rises.0, for_key w t k ∙ e) refl
      by false e = rw (for_key w t k ∙ e) refl

abbrev later_of : Option Reply → Option Reply → Option Reply
later_of None before = before
later_of (Some reply) before = Some reply

fold_newer : (w : Who) (t : ℕ) (ls : List Logged) (before : Option Reply) → fold (newer w t) before ls
    ≡ later_of (fold (newer w t) None ls) before
fold_newer w t [] before = refl
fold_newer w t (l ∷ ls) before = by (is_made_by w t l) (fold_newer w t ls) where
  twice : (x : Option Reply) → later_of x (Some l.reply) ≡ later_of (later_of x (Some l.reply)) before
  twice None = refl
  twice (Some reply) = refl

  by : (here : Bool) → ((now : Option Reply) → fold (newer w t) now ls ≡ later_of (fold (newer w t) None ls) now)
      → fold (newer w t) (if here then Some l.reply else before) ls
      ≡ later_of (fold (newer w t) (if here then Some l.reply else None) ls) before
  by true rest = rest (Some l.reply) ∙ twice (fold (newer w t) None ls) ∙ ap (λ found. later_of found before) (sym (rest (Some l.reply)))
  by false rest = rest before

over_shown : (found before : Option Reply) → over_slot found (slot_shown None before) ≡ slot_shown None (later_of found before)
over_shown None before = refl
over_shown (Some reply) before = refl

shown_redone : (j : JournalState) (v : Target) (ds : List Deed) → ShowsWindow j v → AreHeld (lives_of j.slots) ds
    → All (λ logged. logged.transaction.tag < 8) (map logged_of ds)
    → All (λ slot. length slot.replies ≡ 8) j.slots → (w : Who) (t : ℕ) → slot_in (slots_kept (replies_of ds []) v.disk.slots) w t
    ≡ slot_shown None (reply_at w t (all_appended ds j).slots)
shown_redone j v ds shows held tags eight w t =
    slot_kept w t (replies_of ds []) v.disk.slots (rises_replies ds [] tt)
    ∙ ap (λ found. over_slot found (slot_in v.disk.slots w t)) (replies_for w t ds [])
    ∙ ap (over_slot (fold (newer w t) None (map logged_of ds))) (shows.slots w t)
    ∙ over_shown (fold (newer w t) None (map logged_of ds)) (reply_at w t j.slots)
    ∙ ap (slot_shown None) (sym (appended_replies w t ds j held tags eight ∙ fold_newer w t (map logged_of ds) (reply_at w t j.slots)))

-- ---- what the rows do twice

twice_without : (gone : List Who) (slots : List LifeSlot) (w : Who) (t : ℕ) → slot_in (slots_without gone (slots_without gone slots)) w t
    ≡ slot_in (slots_without gone slots) w t
twice_without gone slots w t =
    slot_without gone (slots_without gone slots) w t
    ∙ ap (λ rest. if is_life w gone then no_slot else rest) (slot_without gone slots w t)
    ∙ by (is_life w gone) (slot_in slots w t)
    ∙ sym (slot_without gone slots w t) where
      by : (out : Bool) (slot : Slot) → (if out then no_slot else (if out then no_slot else slot)) ≡ (if out then no_slot else slot)
      by true slot = refl
      by false slot = refl

moved_twice : (gone come lives : List Who) → Rises life_before lives
    → with_lives come (without_lives gone (with_lives come (without_lives gone lives))) ≡ with_lives come (without_lives gone lives)
moved_twice gone come lives rises =
    let once : Rises life_before (with_lives come (without_lives gone lives)) =
    rises_with_lives come (without_lives gone lives) (rises_without gone lives rises) in
    one_lives (with_lives come (without_lives gone (with_lives come (without_lives gone lives))))
    (with_lives come (without_lives gone lives))
    (rises_with_lives come (without_lives gone (with_lives come (without_lives gone lives)))
    (rises_without gone (with_lives come (without_lives gone lives)) once)) once
    (λ z. any_with_lives (same_life z) come (without_lives gone (with_lives come (without_lives gone lives)))
    ∙ ap (λ rest. is_life z come || rest) (life_without z gone (with_lives come (without_lives gone lives))
    ∙ ap (λ rest. not (is_life z gone) && rest) (any_with_lives (same_life z) come (without_lives gone lives)
    ∙ ap (λ rest. is_life z come || rest) (life_without z gone lives)))
    ∙ by (is_life z come) (is_life z gone) (is_life z lives)
    ∙ sym (any_with_lives (same_life z) come (without_lives gone lives)
    ∙ ap (λ rest. is_life z come || rest) (life_without z gone lives))) where
      by : (c g l : Bool) → (c || (not g && (c || (not g && l)))) ≡ (c || (not g && l))
      by true g l = refl
      by false true l = refl
      by false false l = refl

-- ---- the close

last_early : (n most : ℕ) (ds : List Deed) → n ≤ most → All (λ (d : Deed). d.reply.txn.0 ≤ most) ds → last_of ds n ≤ most
last_early n most [] below all = below
last_early n most (d ∷ ds) below all = last_early d.reply.txn.0 most ds (all 0 d (omega arith)) (λ k e within. all (suc k) e (omega arith))

pub closing_log : (j : JournalState) (v : Target) (ds : List Deed) → ShowsWindow j v → (all_appended ds j).transactions ≡ map logged_of ds
closing_log j v ds shows = appended_log ds j ∙ ap (λ log. log ++ map logged_of ds) shows.log

closing_settled : (j : JournalState) (v : Target) (ds : List Deed) → ShowsWindow j v → IsSettled (all_appended ds j)
closing_settled j v ds shows =
    let beside : IsBeside j (all_appended ds j) = appended_beside ds j in
    record {
      stored = beside.stored ∙ shows.settled.stored;
      added = beside.added ∙ shows.settled.added;
      dropped = beside.dropped
          ∙ shows.settled.dropped;
    }

pub closing_lives : (j : JournalState) (v : Target) (ds : List Deed) → ShowsWindow j v → v.lives ≡ lives_of (all_appended ds j).slots
closing_lives j v ds shows = shows.booted.lives ∙ sym (appended_lives ds j)

pub closing_committed : (j : JournalState) (v : Target) (ds : List Deed) → ShowsWindow j v → v.committed ≡ (all_appended ds j).committed
closing_committed j v ds shows = shows.booted.committed ∙ sym (appended_beside ds j).committed

closing_rises : (j : JournalState) (v : Target) (ds : List Deed) → ShowsWindow j v → IsSound (all_appended ds j)
    → AreRising v.committed (map transaction_of ds)
closing_rises j v ds shows sound =
    subst (λ n. AreRising n (map transaction_of ds)) (sym (closing_committed j v ds shows))
    (subst (AreRising (all_appended ds j).committed) (ap (map {A = Logged} {B = Transaction} (λ l. l.transaction))
    (closing_log j v ds shows) ∙ transactions_of ds)
    (rising_from (all_appended ds j).committed (all_appended ds j).transactions sound.rising sound.uncommitted))

-- the batch that the journal gives is that of the rows
pub close_batch : (j : JournalState) (v : Target) (ds : List Deed) (gone come : List Who) → ShowsWindow j v → IsSound (all_appended ds j)
    → IsClosing v ds gone come
    → journal_commit.batch_of (last_of ds v.committed) (joined_by come (left_by gone (all_appended ds j))) ≡ batch_of ds gone come
close_batch j v ds gone come shows sound closing =
    ap (λ n. journal_commit.batch_of (last_of ds n) (joined_by come (left_by gone (all_appended ds j)))) (closing_committed j v ds shows)
    ∙ batch_is (all_appended ds j) ds [] gone come (closing_settled j v ds shows) sound
    (closing_log j v ds shows ∙ ap (map logged_of) (sym (append_none ds)))
    closing.once (subst (λ lives. AreAmong lives gone) (closing_lives j v ds shows) closing.among)
    closing.new (subst (λ lives. AreApart (without_lives gone lives) come) (closing_lives j v ds shows) closing.apart)

-- its number is the outcome's
pub close_committed : (batches : List Batch) (j : JournalState) (v : Target) (ds : List Deed) (s : Settled) → ShowsDisk batches v
    → ShowsWindow j v → IsSound (all_appended ds j)
    → (outcome_by v ds s).disk.committed ≡ last_of ds v.committed
close_committed batches j v ds s disk shows sound =
    stored_committed v.setting.osts v.disk (batch_of ds (gone_of s.gone) s.joins)
    (subst (λ n. AreRising n (map transaction_of ds)) (sym disk.committed) (closing_rises j v ds shows sound))
    ∙ ap (last_number (map transaction_of ds)) disk.committed
    ∙ sym (last_same v.committed ds)

abbrev closed : Target → List Deed → Settled → Target
closed v ds s = turn v (Close (outcome_by v ds s) ∷ commit_of (outcome_by v ds s) ∷ [])

closed_lives : (batches : List Batch) (j : JournalState) (v : Target) (ds : List Deed) (gone come : List Who) → ShowsDisk batches v
    → ShowsWindow j v → IsSound j
    → with_lives come (without_lives gone (with_lives come (without_lives gone v.disk.lives)))
    ≡ with_lives come (without_lives gone v.lives)
closed_lives batches j v ds gone come disk shows sound =
    moved_twice gone come v.disk.lives (subst (Rises life_before) (sym (disk.lives ∙ shows.booted.lives))
    (rises_from (lives_of j.slots) sound.lives))
    ∙ ap (λ lives. with_lives come (without_lives gone lives)) disk.lives

closed_over : (batches : List Batch) (v : Target) (gone : List Who) → ShowsDisk batches v → (who : Who)
    → list_any (is_over who) (with_lives gone (with_lives gone v.disk.removed))
    ≡ (list_any (is_over who) gone || list_any (is_over who) v.removed)
closed_over batches v gone disk who =
    any_with_lives (is_over who) gone (with_lives gone v.disk.removed)
    ∙ ap (λ rest. list_any (is_over who) gone || rest) (any_with_lives (is_over who) gone v.disk.removed
    ∙ ap (λ rest. list_any (is_over who) gone || rest) (disk.over who))
    ∙ or_twice (list_any (is_over who) gone) (list_any (is_over who) v.removed)

closed_number : (boot newest own_boot own_newest number : ℕ) → own_boot ≡ boot → number ≡ first_of boot + (newest - boot * 2 ^ 32)
    → newest - boot * 2 ^ 32 ≡ 0 → own_newest ≤ first_of boot
    → number ≡ first_of own_boot + (own_newest - own_boot * 2 ^ 32)
closed_number boot newest own_boot own_newest number e f g le = omega (arith, e, f, g, le)

newest_early : (boot newest : ℕ) → newest - boot * 2 ^ 32 ≡ 0 → newest ≤ first_of boot
newest_early boot newest e = omega (arith, e)

closed_boot : (batches : List Batch) (j : JournalState) (v : Target) (ds : List Deed) (s : Settled) → ShowsDisk batches v → ShowsWindow j v
    → IsSound j → IsSound (all_appended ds j)
    → IsClosing v ds (gone_of s.gone) s.joins
    → ShowsBoot (after_commit (last_of ds v.committed) (joined_as s.joins (left_as (gone_of s.gone) (all_appended ds j)))) (closed v ds s)
closed_boot batches j v ds s disk shows sound_before sound closing =
    let beside : IsBeside j (all_appended ds j) = appended_beside ds j in
    let rises : Rises life_before (lives_of (all_appended ds j).slots) = rises_from (lives_of (all_appended ds j).slots) sound.lives in
    let early : last_of ds j.newest ≤ first_of j.boot =
    last_early j.newest (first_of j.boot) ds (newest_early j.boot j.newest shows.none_yet)
    (subst (λ boot. All (λ (d : Deed). d.reply.txn.0 ≤ first_of boot) ds) shows.booted.boot closing.earlier) in
    record {
      boot = shows.booted.boot ∙ sym beside.boot;
      begun = subst (λ n. 0 < n) (sym beside.boot) shows.booted.begun;
      number = closed_number j.boot j.newest (all_appended ds j).boot (all_appended ds j).newest v.number beside.boot shows.booted.number
          shows.none_yet
          (subst (λ n. n ≤ first_of j.boot) (sym (appended_newest ds j)) early);
      lives =
          closed_lives batches j v ds (gone_of s.gone) s.joins disk shows sound_before
          ∙ ap (λ lives. with_lives s.joins (without_lives (gone_of s.gone) lives)) (closing_lives j v ds shows)
          ∙ ap (with_lives s.joins) (sym (lives_gone_all (gone_of s.gone) (all_appended ds j).slots rises))
          ∙ sym (lives_with_all s.joins (slots_gone (gone_of s.gone) (all_appended ds j).slots));
      over = λ who. closed_over batches v (gone_of s.gone) disk who
          ∙ ap (λ rest. list_any (is_over who) (gone_of s.gone) || rest)
          (shows.booted.over who ∙ ap (list_any (is_over who)) (sym beside.removed))
          ∙ or_turned (list_any (is_over who) (gone_of s.gone)) (list_any (is_over who) (all_appended ds j).removed)
          ∙ sym (any_append (is_over who) (all_appended ds j).removed (gone_of s.gone));
      committed = close_committed batches j v ds s disk shows sound;
    }

closed_slots : (taken : TakenBy) (j : JournalState) (v : Target) (ds : List Deed) (gone come : List Who) → IsUntaken taken → ShowsWindow j v
    → IsSound j → IsSound (all_appended ds j) → AreHeld v.lives ds
    → AreShown taken (slots_with come (slots_gone gone (all_appended ds j).slots))
    (slots_without gone (slots_without gone (slots_kept (replies_of ds []) v.disk.slots)))
closed_slots taken j v ds gone come untaken shows sound_before sound held w t =
    twice_without gone (slots_kept (replies_of ds []) v.disk.slots) w t
    ∙ slots_moved taken taken (all_appended ds j).slots (slots_kept (replies_of ds []) v.disk.slots) gone come redone without rises w
    t where
      rises : Rises life_before (lives_of (all_appended ds j).slots)
      rises = rises_from (lives_of (all_appended ds j).slots) sound.lives

      without : IsWithout gone taken taken
      without who tag = by (is_life who gone) where
        by : (out : Bool) → taken who tag ≡ (if out then None else taken who tag)
        by true = untaken who tag
        by false = refl

      redone : AreShown taken (all_appended ds j).slots (slots_kept (replies_of ds []) v.disk.slots)
      redone who tag =
          shown_redone j v ds shows (subst (λ lives. AreHeld lives ds) shows.booted.lives held)
          (subst (All (λ logged. logged.transaction.tag < 8)) (closing_log j v ds shows) sound.tagged) sound_before.tags who tag
          ∙ ap (λ found. slot_shown found (reply_at who tag (all_appended ds j).slots)) (sym (untaken who tag))

-- after both entries the journal shows what the rows have
pub closes : (taken : TakenBy) (batches : List Batch) (j : JournalState) (v : Target) (ds : List Deed) (s : Settled) → IsUntaken taken
    → ShowsDisk batches v → ShowsWindow j v
    → IsSound j → IsSound (all_appended ds j) → IsClosing v ds (gone_of s.gone) s.joins
    → ShowsJournal taken (after_commit (last_of ds v.committed) (joined_by s.joins (left_by (gone_of s.gone) (all_appended ds j))))
    (turn v (Close (outcome_by v ds s) ∷ commit_of (outcome_by v ds s) ∷ []))
closes taken batches j v ds s untaken disk shows sound_before sound closing =
    let is : joined_by s.joins (left_by (gone_of s.gone) (all_appended ds j))
    ≡ joined_as s.joins (left_as (gone_of s.gone) (all_appended ds j)) =
    moved_is (gone_of s.gone) s.joins (all_appended ds j) (closing_settled j v ds shows) sound closing.once
    (subst (λ lives. AreAmong lives (gone_of s.gone)) (closing_lives j v ds shows) closing.among) closing.new
    (subst (λ lives. AreApart (without_lives (gone_of s.gone) lives) s.joins) (closing_lives j v ds shows) closing.apart) in
    let rises : AreRising v.committed (map transaction_of (ds ++ [])) =
    subst (λ all. AreRising v.committed (map transaction_of all)) (sym (append_none ds)) (closing_rises j v ds shows sound) in
    let none_left : above (last_of ds v.committed) (all_appended ds j).transactions ≡ [] =
    ap (above (last_of ds v.committed)) (closing_log j v ds shows ∙ ap (map logged_of) (sym (append_none ds)))
    ∙ above_log (last_of ds v.committed) (ds ++ [])
    ∙ ap (map logged_of) (cut_rest v.committed ds [] rises) in
    subst (λ (it : JournalState). ShowsJournal taken (after_commit (last_of ds v.committed) it) (closed v ds s)) (sym is) (record {
      booted = closed_boot batches j v ds s disk shows sound_before sound closing;
      settled = record { stored = refl; added = refl; dropped = refl };
      log = none_left;
      slots = closed_slots taken j v ds (gone_of s.gone) s.joins untaken shows sound_before sound closing.held;
      held = tt;
      late = tt;
    })

-- and the disk what its batches tell
pub close_stores : (batches : List Batch) (j : JournalState) (v : Target) (ds : List Deed) (s : Settled) → ShowsDisk batches v
    → ShowsWindow j v
    → IsSound j → IsSound (all_appended ds j) → IsClosing v ds (gone_of s.gone) s.joins
    → ShowsDisk (batches ++ batch_of ds (gone_of s.gone) s.joins ∷ [])
    (turn v (Close (outcome_by v ds s) ∷ commit_of (outcome_by v ds s) ∷ []))
close_stores batches j v ds s disk shows sound_before sound closing =
    let below : All (λ logged. number logged < (v.boot + 1) * 2 ^ 32) (map logged_of ds) =
    given_below (all_appended ds j).newest ((v.boot + 1) * 2 ^ 32) (map logged_of ds)
    (subst (λ boot. (all_appended ds j).newest < (boot + 1) * 2 ^ 32) ((appended_beside ds j).boot ∙ sym shows.booted.boot) sound.newest)
    (subst (All (λ logged. number logged ≤ (all_appended ds j).newest)) (closing_log j v ds shows) sound.given) in
    let alone : ShowsDisk (batches ++ batch_of ds (gone_of s.gone) s.joins ∷ []) (after v (commit_of (outcome_by v ds s))) =
    stores batches v (outcome_by v ds s).disk.committed (batch_of ds (gone_of s.gone) s.joins) disk
    (close_committed batches j v ds s disk shows sound ∙ last_same v.committed ds) (omega arith)
    (late_rising v.committed ds (closing_rises j v ds shows sound) closing.late)
    (below_front ((v.boot + 1) * 2 ^ 32) ds [] (subst (λ all. All (λ logged. number logged < (v.boot + 1) * 2 ^ 32) (map logged_of all))
    (sym (append_none ds)) below))
    (of_replies (with_lives s.joins v.lives) ds [] tt (held_more s.joins v.lives ds closing.held)
    (subst (All (λ logged. logged.transaction.tag < 8)) (closing_log j v ds shows) sound.tagged)) in
    record {
      disk = alone.disk;
      boot = alone.boot;
      committed = refl;
      lives = alone.lives ∙ sym (closed_lives batches j v ds (gone_of s.gone) s.joins disk shows sound_before);
      over = λ who. any_with_lives (is_over who) (gone_of s.gone) v.disk.removed
          ∙ ap (λ rest. list_any (is_over who) (gone_of s.gone) || rest) (disk.over who)
          ∙ sym (closed_over batches v (gone_of s.gone) disk who);
      rising = alone.rising;
      below = alone.below;
      replies = alone.replies;
    }
