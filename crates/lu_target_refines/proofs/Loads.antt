-- The disk: what stands there once a batch is there too, what a journal loads of its batches at a boot, and the start of a run.
use Rattle.std.proofs.Common.{◌≡◌, ℕ, zero, suc, ◌+◌, ◌*◌, ◌^◌, ◌<◌, ◌≤◌, ◌==◌, ◌&&◌, ◌||◌, Bool, true, false, cond, List, [], ◌∷◌, ◌++◌}
use Rattle.std.proofs.Common.{map, filter, get_or, Some, None, refl, sym, ap, subst, ◌∙◌, arith}
use Rattle.std.specs.Prelude.{if◌then◌else◌, not, max, nat_lt, All, IsSome}
use Rattle.std.specs.List.{list_any, fold}
use Rattle.std.proofs.lemmas.Bool.Decides.{nat_tests}
use Rattle.std.proofs.lemmas.List.Elements.{All-cons, All-push}
use Rattle.lu_base.specs.declared.ids.Who.{Who}
use Rattle.lu_msg.specs.declared.commits.Batch.{Batch}
use Rattle.lu_msg.specs.declared.commits.KeptReply.{KeptReply}
use Rattle.lu_msg.specs.declared.commits.Transaction.{Transaction}
use Rattle.lu_txn.specs.declared.logs.Logged.{Logged}
use Rattle.lu_txn.specs.declared.slots.Slot.{Slot as SlotOf}
use Rattle.lu_txn.specs.Slots.{slot_of, reply_at, lives_of, with_reply, with_replies, with_lives as slots_with, without_lives as slots_gone}
use Rattle.lu_txn.specs.Logs.{number}
use Rattle.lu_txn.specs.Journals.{JournalState, fresh, IsSound}
use Rattle.lu_txn.specs.Commits.{after_commit}
use Rattle.lu_txn.specs.Commits as journal_commit
use Rattle.lu_txn.specs.Loads.{Stored, nothing, last_number as last_from, with_batch, stored_by, loaded, AreBelow}
use Rattle.lu_txn.proofs.SlotLaws.{lives-with_reply}
use Rattle.lu_txn.proofs.Lookups.{reply_after}
use Rattle.lu_txn.proofs.Loading.{IsTidy, tidy-nothing, tidy-with_lives, tidy-without_lives, tidy-with_replies}
use Rattle.lu_spec_entries.specs.Carried.{Deed, LifeSlot, Disk}
use Rattle.lu_spec_entries.specs.Words.{Commit, Boot, same_life}
use Rattle.lu_spec_target.specs.Lives.{is_life, life_before, with_lives, without_lives, slot_in, with_slot, slots_kept, slots_without}
use Rattle.lu_spec_target.specs.Stored.{transaction_of, last_number, stored, batch_of, with_kept, replies_of, same_kept, kept_before}
use Rattle.lu_spec_target.specs.States.{Setting, Target, lives_from, empty_disk, first_batch, started, after}
use Rattle.lu_spec_target.specs.Leaving.{last_of, commits, is_over}
use Rattle.lu_spec_target.specs.Disks.{boot_batch, loaded_on}
use Rattle.lu_target_refines.specs.Journals.{logged_of, TakenBy, slot_shown, AreShown, IsUntaken, IsWithout, ShowsBoot, ShowsWindow}
use Rattle.lu_target_refines.specs.Journals.{AreHeld, AreLate, ShowsJournal, AreRising, AllRising, last_in, AreOf, AllOf, ShowsDisk}
use Rattle.lu_target_refines.proofs.Slots.{slot_put}
use Rattle.lu_target_refines.proofs.Rising.{AllAfter, Rises}
use Rattle.lu_target_refines.proofs.LifeLists.{any_append, any_with_lives, or_turned, life_without, has_slot, one_lives, rises_from}
use Rattle.lu_target_refines.proofs.LifeLists.{rises_with_lives, rises_without, without_none, lives_with_all, lives_gone_all}
use Rattle.lu_target_refines.proofs.Moving.{reply_with_all}
use Rattle.lu_target_refines.proofs.Replies.{kept_of}
use Rattle.lu_target_refines.proofs.RisingNumbers.{rising_below, late_rising, all_rising_below, last_in_max, rising_push}
use Rattle.lu_target_refines.proofs.Batches.{log_rising, rising_front, late_front, held_front, held_more, slots_moved}

-- ---- numbers

same_last : (n : ℕ) (ts : List Transaction) → last_from n ts ≡ last_number ts n
same_last n [] = refl
same_last n (t ∷ ts) = same_last t.txn.0 ts

pub last_same : (n : ℕ) (ds : List Deed) → last_of ds n ≡ last_number (map transaction_of ds) n
last_same n [] = refl
last_same n (d ∷ ds) = last_same d.reply.txn.0 ds

all_new : (n m : ℕ) (ts : List Transaction) → n ≤ m → AreRising m ts → filter (λ t. nat_lt n t.txn.0) ts ≡ ts
all_new n m [] below rises = refl
all_new n m (t ∷ ts) below rises =
    let order : n < t.txn.0 = omega (arith, below, rises.0) in
    let new : nat_lt n t.txn.0 ≡ true = grind (arith, nat_tests) in
    rw new (ap (λ more. t ∷ more) (all_new n t.txn.0 ts (omega (arith, order)) rises.1))

pub stored_committed : (osts : ℕ) (disk : Disk) (batch : Batch) → AreRising disk.committed batch.transactions
    → (stored osts batch disk).committed ≡ last_number batch.transactions disk.committed
stored_committed osts disk batch rises = ap (λ ts. last_number ts disk.committed)
    (all_new disk.committed disk.committed batch.transactions (omega arith) rises)

loaded_committed : (osts : ℕ) (disk : Disk) (batches : List Batch) → AllRising disk.committed batches
    → (loaded_on osts disk batches).committed ≡ last_in disk.committed batches
loaded_committed osts disk [] rises = refl
loaded_committed osts disk (batch ∷ batches) rises =
    let last : (stored osts batch disk).committed ≡ last_number batch.transactions disk.committed = stored_committed osts disk batch rises.0
    in
    loaded_committed osts (stored osts batch disk) batches (subst (λ n. AllRising n batches) (sym last) rises.1)
    ∙ ap (λ n. last_in n batches) last

abbrev lives_in : List Who → List Batch → List Who
lives_in lives [] = lives
lives_in lives (batch ∷ batches) = lives_in (with_lives batch.added (without_lives batch.removed lives)) batches

loaded_lives : (osts : ℕ) (disk : Disk) (batches : List Batch) → (loaded_on osts disk batches).lives ≡ lives_in disk.lives batches
loaded_lives osts disk [] = refl
loaded_lives osts disk (batch ∷ batches) = loaded_lives osts (stored osts batch disk) batches

-- ---- a batch more

loaded_push : (osts : ℕ) (disk : Disk) (batches : List Batch) (batch : Batch) → loaded_on osts disk (batches ++ batch ∷ [])
    ≡ stored osts batch (loaded_on osts disk batches)
loaded_push osts disk [] batch = refl
loaded_push osts disk (b ∷ batches) batch = loaded_push osts (stored osts b disk) batches batch

of_push : (lives : List Who) (batches : List Batch) (batch : Batch) → AllOf lives batches
    → AreOf (with_lives batch.added (lives_in lives batches)) batch.replies → AllOf lives (batches ++ batch ∷ [])
of_push lives [] batch all new = (new, tt)
of_push lives (b ∷ batches) batch all new = (all.0, of_push (with_lives b.added (without_lives b.removed lives)) batches batch all.1 new)

abbrev Below : ℕ → Batch → Type 0
Below boot batch = All (λ t. t.txn.0 < boot * 2 ^ 32) batch.transactions

shown_last : (batches : List Batch) (v : Target) → ShowsDisk batches v → last_in 1 batches ≡ max 1 v.committed
shown_last batches v shows =
    last_in_max 1 0 batches shows.rising
    ∙ ap (max 1) (sym (loaded_committed v.setting.osts empty_disk batches (all_rising_below 0 1 batches (omega arith) shows.rising)))
    ∙ ap (λ (disk : Disk). max 1 disk.committed) (sym shows.disk)
    ∙ ap (max 1) shows.committed

shown_lives : (batches : List Batch) (v : Target) → ShowsDisk batches v → lives_in [] batches ≡ v.lives
shown_lives batches v shows = sym (loaded_lives v.setting.osts empty_disk batches) ∙ ap (λ (disk : Disk). disk.lives) (sym shows.disk)
    ∙ shows.lives

pub stores : (batches : List Batch) (v : Target) (to : ℕ) (batch : Batch) → ShowsDisk batches v → to
    ≡ last_number batch.transactions v.committed → batch.boot ≤ v.boot
    → AreRising (max 1 v.committed) batch.transactions → All (λ t. t.txn.0 < (v.boot + 1) * 2 ^ 32) batch.transactions
    → AreOf (with_lives batch.added v.lives) batch.replies
    → ShowsDisk (batches ++ batch ∷ []) (after v (Commit to batch))
stores batches v to batch shows last boot rises below replies = record {
  disk = ap (stored v.setting.osts batch) shows.disk ∙ sym (loaded_push v.setting.osts empty_disk batches batch);
  boot = greatest v.disk.boot batch.boot v.boot shows.boot boot;
  committed = stored_committed v.setting.osts v.disk batch (subst (λ n. AreRising n batch.transactions) (sym shows.committed)
      (rising_below v.committed (max 1 v.committed) batch.transactions (omega arith) rises))
      ∙ ap (last_number batch.transactions) shows.committed ∙ sym last;
  lives = ap (λ lives. with_lives batch.added (without_lives batch.removed lives)) shows.lives;
  over = λ who. any_with_lives (is_over who) batch.removed v.disk.removed
      ∙ ap (λ rest. list_any (is_over who) batch.removed || rest) (shows.over who)
      ∙ sym (any_with_lives (is_over who) batch.removed v.removed);
  rising = rising_push 1 batches batch shows.rising (subst (λ n. AreRising n batch.transactions) (sym (shown_last batches v shows)) rises);
  below = All-push (Below (v.boot + 1)) batches batch shows.below below;
  replies = of_push [] batches batch shows.replies (subst (λ lives. AreOf (with_lives batch.added lives) batch.replies)
      (sym (shown_lives batches v shows)) replies);
} where
  greatest : (a b c : ℕ) → a ≡ c → b ≤ c → max a b ≡ c
  greatest a b c e le = omega (arith, e, le)

-- ---- a commit while the target serves

of_with : (lives : List Who) (k : KeptReply) (kept : List KeptReply) → (k.tag < 8) × (is_life k.who lives ≡ true) → AreOf lives kept
    → AreOf lives (with_kept k kept)
of_with lives k [] one all = (one, tt)
of_with lives k (x ∷ kept) one all = by (same_kept k x) (kept_before k x) (of_with lives k kept one all.1) where
  by : (own first : Bool) → AreOf lives (with_kept k kept) → AreOf lives
      (if own then k ∷ kept else (if first then k ∷ x ∷ kept else x ∷ with_kept k kept))
  by true first rest = (one, all.1)
  by false true rest = (one, all)
  by false false rest = (all.0, rest)

pub of_replies : (lives : List Who) (ds : List Deed) (kept : List KeptReply) → AreOf lives kept → AreHeld lives ds
    → All (λ logged. logged.transaction.tag < 8) (map logged_of ds) → AreOf lives (replies_of ds kept)
of_replies lives [] kept all held tags = all
of_replies lives (d ∷ ds) kept all held tags =
    of_replies lives ds (with_kept (kept_of d) kept) (of_with lives (kept_of d) kept (tags 0 (logged_of d) (omega arith), held.0) all)
    held.1 (λ k e within. tags (suc k) e (omega arith))

pub tags_front : (ds rest : List Deed) → All (λ logged. logged.transaction.tag < 8) (map logged_of (ds ++ rest))
    → All (λ logged. logged.transaction.tag < 8) (map logged_of ds)
tags_front [] rest all = λ k d within. absurd (omega arith)
tags_front (d ∷ ds) rest all = All-cons (λ logged. logged.transaction.tag < 8) (logged_of d) (map logged_of ds)
    (all 0 (logged_of d) (omega arith)) (tags_front ds rest (λ k e within. all (suc k) e (omega arith)))

pub below_front : (bound : ℕ) (ds rest : List Deed) → All (λ logged. number logged < bound) (map logged_of (ds ++ rest))
    → All (λ t. t.txn.0 < bound) (map transaction_of ds)
below_front bound [] rest all = λ k d within. absurd (omega arith)
below_front bound (d ∷ ds) rest all = All-cons (λ t. t.txn.0 < bound) (transaction_of d) (map transaction_of ds)
    (all 0 (logged_of d) (omega arith)) (below_front bound ds rest (λ k e within. all (suc k) e (omega arith)))

pub given_below : (most bound : ℕ) (ts : List Logged) → most < bound → All (λ logged. number logged ≤ most) ts
    → All (λ logged. number logged < bound) ts
given_below most bound ts less all = λ k d within. let one : number (get_or ts k d) ≤ most = all k d within in omega (arith, less, one)

pub commit_stores : (taken : TakenBy) (j : JournalState) (v : Target) (ds rest : List Deed) (gone come : List Who) (batches : List Batch)
    → ShowsJournal taken j v → IsSound j
    → v.log ≡ ds ++ rest → ShowsDisk batches v → ShowsDisk (batches ++ batch_of ds gone come ∷ []) (after v (commits v ds gone come))
commit_stores taken j v ds rest gone come batches shows sound log disk =
    let all : j.transactions ≡ map logged_of (ds ++ rest) = shows.log ∙ ap (map logged_of) log in
    let given : All (λ logged. number logged < (v.boot + 1) * 2 ^ 32) j.transactions =
    given_below j.newest ((v.boot + 1) * 2 ^ 32) j.transactions
    (subst (λ boot. j.newest < (boot + 1) * 2 ^ 32) (sym shows.booted.boot) sound.newest) sound.given in
    stores batches v (last_of ds v.committed) (batch_of ds gone come) disk (last_same v.committed ds) (omega arith)
    (late_rising v.committed ds (rising_front v.committed ds rest
    (subst (λ log. AreRising v.committed (map transaction_of log)) log (log_rising taken j v shows sound)))
    (late_front ds rest (subst AreLate log shows.late)))
    (below_front ((v.boot + 1) * 2 ^ 32) ds rest (subst (All (λ logged. number logged < (v.boot + 1) * 2 ^ 32)) all given))
    (of_replies (with_lives come v.lives) ds [] tt (held_more come v.lives ds
    (held_front v.lives ds rest (subst (AreHeld v.lives) log shows.held)))
    (tags_front ds rest (subst (All (λ logged. logged.transaction.tag < 8)) all sound.tagged)))

-- ---- what batches tell a journal, and what stands on the disk

abbrev pub none_taken : TakenBy
none_taken who tag = None

pub record IsTold (disk : Disk) (s : Stored) : Type 0 where
  pub committed : disk.committed ≡ s.committed
  pub lives : disk.lives ≡ lives_of s.slots
  pub over : (who : Who) → list_any (is_over who) disk.removed ≡ list_any (is_over who) s.removed
  pub slots : AreShown none_taken s.slots disk.slots
  pub tidy : IsTidy s.slots

lives_kept : (kept : List KeptReply) (slots : List SlotOf) → lives_of (with_replies kept slots) ≡ lives_of slots
lives_kept [] slots = refl
lives_kept (k ∷ kept) slots = lives_kept kept (with_reply k.who k.tag k.reply slots) ∙ lives-with_reply k.who k.tag k.reply slots

shown_reply : (k : KeptReply) (own : List SlotOf) (slots : List LifeSlot) → k.tag < 8 → is_life k.who (lives_of own) ≡ true → IsTidy own
    → AreShown none_taken own slots
    → AreShown none_taken (with_reply k.who k.tag k.reply own) (with_slot k.who k.tag
    (record { taken = k.reply.xid.0; reply = Some k.reply }) slots)
shown_reply k own slots small life tidy shown w t =
    slot_put k.who k.tag (record { taken = k.reply.xid.0; reply = Some k.reply }) slots w t
    ∙ by (same_life w k.who && t == k.tag) refl where
      there : IsSome (slot_of k.who own)
      there = has_slot k.who own ∙ life

      reply : reply_at w t (with_reply k.who k.tag k.reply own) ≡ cond (same_life w k.who && t == k.tag) (Some k.reply) (reply_at w t own)
      reply = reply_after k.who k.tag k.reply own w t small tidy.tags there

      by : (here : Bool) → (same_life w k.who && t == k.tag) ≡ here
          → (if here then record { taken = k.reply.xid.0; reply = Some k.reply } else slot_in slots w t)
          ≡ slot_shown None (reply_at w t (with_reply k.who k.tag k.reply own))
      by true e = sym (rw (reply, e) refl)
      by false e = shown w t ∙ sym (rw (reply, e) refl)

pub shown_kept : (kept : List KeptReply) (own : List SlotOf) (slots : List LifeSlot) → AreOf (lives_of own) kept → IsTidy own
    → AreShown none_taken own slots
    → AreShown none_taken (with_replies kept own) (slots_kept kept slots)
shown_kept [] own slots all tidy shown = shown
shown_kept (k ∷ kept) own slots all tidy shown =
    shown_kept kept (with_reply k.who k.tag k.reply own) (with_slot k.who k.tag (record { taken = k.reply.xid.0; reply = Some k.reply })
    slots)
    (subst (λ lives. AreOf lives kept) (sym (lives-with_reply k.who k.tag k.reply own)) all.1)
    (tidy-with_replies (k ∷ []) own tidy)
    (shown_reply k own slots all.0.0 all.0.1 tidy shown)

-- lives that come, before the others leave and after
come_twice : (added removed lives : List Who) → Rises life_before lives
    → with_lives added (without_lives removed lives) ≡ with_lives added (without_lives removed (with_lives added lives))
come_twice added removed lives rises =
    one_lives (with_lives added (without_lives removed lives)) (with_lives added (without_lives removed (with_lives added lives)))
    (rises_with_lives added (without_lives removed lives) (rises_without removed lives rises))
    (rises_with_lives added (without_lives removed (with_lives added lives))
    (rises_without removed (with_lives added lives) (rises_with_lives added lives rises)))
    (λ z. any_with_lives (same_life z) added (without_lives removed lives)
    ∙ ap (λ rest. is_life z added || rest) (life_without z removed lives)
    ∙ by (is_life z added) (is_life z removed) (is_life z lives)
    ∙ sym (any_with_lives (same_life z) added (without_lives removed (with_lives added lives))
    ∙ ap (λ rest. is_life z added || rest) (life_without z removed (with_lives added lives)
    ∙ ap (λ rest. not (is_life z removed) && rest) (any_with_lives (same_life z) added lives)))) where
      by : (a r l : Bool) → (a || (not r && l)) ≡ (a || (not r && (a || l)))
      by true r l = refl
      by false r l = refl

untaken_without : (gone : List Who) → IsWithout gone none_taken none_taken
untaken_without gone w t = by (is_life w gone) where
  by : (out : Bool) → none_taken w t ≡ (if out then None else none_taken w t)
  by true = refl
  by false = refl

told_batch : (osts : ℕ) (disk : Disk) (s : Stored) (batch : Batch) → IsTold disk s → AreRising disk.committed batch.transactions
    → AreOf (with_lives batch.added disk.lives) batch.replies → IsTold (stored osts batch disk) (with_batch s batch)
told_batch osts disk s batch told rises replies =
    let come_tidy : IsTidy (slots_with batch.added s.slots) = tidy-with_lives batch.added s.slots told.tidy in
    let kept_tidy : IsTidy (with_replies batch.replies (slots_with batch.added s.slots)) =
    tidy-with_replies batch.replies (slots_with batch.added s.slots) come_tidy in
    let come_lives : lives_of (slots_with batch.added s.slots) ≡ with_lives batch.added disk.lives = lives_with_all batch.added s.slots
    ∙ ap (with_lives batch.added) (sym told.lives) in
    let kept_lives : lives_of (with_replies batch.replies (slots_with batch.added s.slots)) ≡ with_lives batch.added disk.lives =
    lives_kept batch.replies (slots_with batch.added s.slots) ∙ come_lives in
    let first : Rises life_before (lives_of s.slots) = rises_from (lives_of s.slots) told.tidy.lives in
    let rest : Rises life_before (lives_of (with_replies batch.replies (slots_with batch.added s.slots))) =
    rises_from (lives_of (with_replies batch.replies (slots_with batch.added s.slots))) kept_tidy.lives in
    record {
      committed = stored_committed osts disk batch rises ∙ ap (last_number batch.transactions) told.committed
          ∙ sym (same_last s.committed batch.transactions);
      lives =
          come_twice batch.added batch.removed disk.lives (subst (Rises life_before) (sym told.lives) first)
          ∙ ap (λ lives. with_lives batch.added (without_lives batch.removed lives)) (sym kept_lives)
          ∙ ap (with_lives batch.added) (sym (lives_gone_all batch.removed (with_replies batch.replies (slots_with batch.added s.slots))
          rest))
          ∙ sym (lives_with_all batch.added (slots_gone batch.removed (with_replies batch.replies (slots_with batch.added s.slots))));
      over = λ who. any_with_lives (is_over who) batch.removed disk.removed
          ∙ ap (λ more. list_any (is_over who) batch.removed || more) (told.over who)
          ∙ or_turned (list_any (is_over who) batch.removed) (list_any (is_over who) s.removed)
          ∙ sym (any_append (is_over who) s.removed batch.removed);
      slots =
          slots_moved none_taken none_taken (with_replies batch.replies (slots_with batch.added s.slots))
          (slots_kept batch.replies disk.slots) batch.removed batch.added
          (shown_kept batch.replies (slots_with batch.added s.slots) disk.slots
          (subst (λ lives. AreOf lives batch.replies) (sym come_lives) replies) come_tidy
          (λ w t. told.slots w t ∙ sym (ap (slot_shown None) (reply_with_all w t batch.added s.slots first))))
          (untaken_without batch.removed) rest;
      tidy = tidy-with_lives batch.added (slots_gone batch.removed (with_replies batch.replies (slots_with batch.added s.slots)))
          (tidy-without_lives batch.removed (with_replies batch.replies (slots_with batch.added s.slots)) kept_tidy);
    }

told_all : (osts : ℕ) (batches : List Batch) (disk : Disk) (s : Stored) → IsTold disk s → AllRising disk.committed batches
    → AllOf disk.lives batches → IsTold (loaded_on osts disk batches) (fold with_batch s batches)
told_all osts [] disk s told rises all = told
told_all osts (batch ∷ batches) disk s told rises all =
    told_all osts batches (stored osts batch disk) (with_batch s batch) (told_batch osts disk s batch told rises.0 all.0)
    (subst (λ n. AllRising n batches) (sym (stored_committed osts disk batch rises.0)) rises.1) all.1

pub told : (batches : List Batch) (v : Target) → ShowsDisk batches v → IsTold v.disk (stored_by batches)
told batches v shows =
    subst (λ disk. IsTold disk (stored_by batches)) (sym shows.disk)
    (told_all v.setting.osts batches empty_disk nothing (record
    { committed = refl; lives = refl; over = λ who. refl; slots = λ who tag. refl; tidy = tidy-nothing })
    (all_rising_below 0 1 batches (omega arith) shows.rising) shows.replies)

-- ---- a boot

last_below : (bound n : ℕ) (ts : List Transaction) → n ≤ bound → All (λ t. t.txn.0 < bound) ts → last_from n ts ≤ bound
last_below bound n [] below all = below
last_below bound n (t ∷ ts) below all =
    let this : t.txn.0 < bound = all 0 t (omega arith) in
    last_below bound t.txn.0 ts (omega (arith, this)) (λ k d within. all (suc k) d (omega arith))

told_below : (boot : ℕ) (batches : List Batch) (s : Stored) → s.committed ≤ boot * 2 ^ 32 → AreBelow boot batches
    → (fold with_batch s batches).committed ≤ boot * 2 ^ 32
told_below boot [] s below all = below
told_below boot (batch ∷ batches) s below all =
    told_below boot batches (with_batch s batch) (last_below (boot * 2 ^ 32) s.committed batch.transactions below
    (all 0 batch (omega arith))) (λ k d within. all (suc k) d (omega arith))

-- what `new` of the journal requires
pub boot_below : (batches : List Batch) (v : Target) → ShowsDisk batches v → AreBelow (v.disk.boot + 1) batches
boot_below batches v shows = subst (λ boot. AreBelow (boot + 1) batches) (sym shows.boot) shows.below

boot_last : (batches : List Batch) (v : Target) → ShowsDisk batches v → (stored_by batches).committed ≤ (v.disk.boot + 1) * 2 ^ 32
boot_last batches v shows = told_below (v.disk.boot + 1) batches nothing (omega arith) (boot_below batches v shows)

pub boots : (batches : List Batch) (v : Target) → ShowsDisk batches v
    → ShowsBoot (loaded batches (v.disk.boot + 1)) (after v (Boot (v.disk.boot + 1) v.disk))
boots batches v shows =
    let told_here : IsTold v.disk (stored_by batches) = told batches v shows in
    record {
      boot = refl;
      begun = omega arith;
      number = omega (arith, boot_last batches v shows);
      lives = told_here.lives;
      over = told_here.over;
      committed = told_here.committed;
    }

-- its batch
pub boot_batch_is : (batches : List Batch) (boot : ℕ) → journal_commit.batch_of (stored_by batches).committed (loaded batches boot)
    ≡ boot_batch boot
boot_batch_is batches boot = refl

-- once that is on the disk
pub boot_committed : (batches : List Batch) (v : Target) → ShowsDisk batches v
    → ShowsWindow (after_commit (stored_by batches).committed (loaded batches (v.disk.boot + 1))) (after v (Boot (v.disk.boot + 1) v.disk))
boot_committed batches v shows =
    let told_here : IsTold v.disk (stored_by batches) = told batches v shows in
    record {
      booted = record {
        boot = refl;
        begun = omega arith;
        number = omega (arith, boot_last batches v shows);
        lives = told_here.lives;
        over = told_here.over;
        committed = told_here.committed;
      };
      settled = record { stored = refl; added = refl; dropped = refl };
      none_yet = omega (arith, boot_last batches v shows);
      log = refl;
      slots = told_here.slots;
    }

slots_all : (slots : List LifeSlot) → slots_without [] slots ≡ slots
slots_all [] = refl
slots_all (s ∷ slots) = ap (λ more. s ∷ more) (slots_all slots)

abbrev disk_with : Disk → (boot : ℕ) → List Who → List LifeSlot → Disk
disk_with disk boot lives slots = record {
  boot = boot;
  contents = disk.contents;
  committed = disk.committed;
  lives = lives;
  removed =
      disk.removed;
  slots = slots;
}

boot_on : (osts : ℕ) (disk : Disk) → stored osts (boot_batch (disk.boot + 1)) disk ≡ disk_with disk (disk.boot + 1) disk.lives disk.slots
boot_on osts disk =
    ap (λ boot. disk_with disk boot (without_lives [] disk.lives) (slots_without [] disk.slots)) (greater disk.boot)
    ∙ ap (λ lives. disk_with disk (disk.boot + 1) lives (slots_without [] disk.slots)) (without_none disk.lives)
    ∙ ap (λ slots. disk_with disk (disk.boot + 1) disk.lives slots) (slots_all disk.slots) where
      greater : (n : ℕ) → max n (n + 1) ≡ n + 1
      greater n = omega arith

below_more : (boot : ℕ) (batches : List Batch) → AreBelow boot batches → AreBelow (boot + 1) batches
below_more boot batches all = λ k batch within. λ i t inside. later _ (all k batch within i t inside) where
  later : (n : ℕ) → n < boot * 2 ^ 32 → n < (boot + 1) * 2 ^ 32
  later n less = omega (arith, less)

pub boot_stores : (batches : List Batch) (v : Target) → ShowsDisk batches v
    → ShowsDisk (batches ++ boot_batch (v.disk.boot + 1) ∷ []) (after v (Boot (v.disk.boot + 1) v.disk))
boot_stores batches v shows = record {
  disk = sym (boot_on v.setting.osts v.disk) ∙ ap (stored v.setting.osts (boot_batch (v.disk.boot + 1))) shows.disk
      ∙ sym (loaded_push v.setting.osts empty_disk batches (boot_batch (v.disk.boot + 1)));
  boot = refl;
  committed = refl;
  lives = refl;
  over = λ who. refl;
  rising = rising_push 1 batches (boot_batch (v.disk.boot + 1)) shows.rising tt;
  below = All-push (Below (v.disk.boot + 1 + 1)) batches (boot_batch (v.disk.boot + 1))
      (below_more (v.disk.boot + 1) batches (boot_below batches v shows)) (λ k d within. absurd (omega arith));
  replies = of_push [] batches (boot_batch (v.disk.boot + 1)) shows.replies tt;
}

-- ---- the start of a run

client_before : (c d : ℕ) → c < d → life_before (record { client = c; life = 1 }) (record { client = d; life = 1 }) ≡ true
client_before c d less = grind (arith, nat_tests)

after_first : (c d n : ℕ) → c < d → AllAfter life_before (record { client = c; life = 1 }) (lives_from d n)
after_first c d zero less = tt
after_first c d (suc n) less = (client_before c d less, after_first c (d + 1) n (omega (arith, less)))

rises_start : (c n : ℕ) → Rises life_before (lives_from c n)
rises_start c zero = tt
rises_start c (suc n) = (after_first c (c + 1) n (omega arith), rises_start (c + 1) n)

start_lives : (c n : ℕ) → with_lives (lives_from c n) [] ≡ lives_from c n
start_lives c n =
    one_lives (with_lives (lives_from c n) []) (lives_from c n) (rises_with_lives (lives_from c n) [] tt) (rises_start c n)
    (λ z. any_with_lives (same_life z) (lives_from c n) [] ∙ by (is_life z (lives_from c n))) where
      by : (a : Bool) → (a || false) ≡ a
      by true = refl
      by false = refl

fresh_lives : (clients : ℕ) → lives_of (slots_with (lives_from 0 clients) []) ≡ lives_from 0 clients
fresh_lives clients = lives_with_all (lives_from 0 clients) [] ∙ start_lives 0 clients

pub first_batch_is : (clients : ℕ) → journal_commit.batch_of 0 (fresh (lives_from 0 clients)) ≡ first_batch clients
first_batch_is clients = ap (λ (lives : List Who). record { boot = 1; transactions = []; replies = []; added = lives; removed = [] })
    (fresh_lives clients)

pub starts : (taken : TakenBy) (setting : Setting) (clients : ℕ) → IsUntaken taken
    → ShowsJournal taken (after_commit 0 (fresh (lives_from 0 clients))) (started setting clients)
starts taken setting clients untaken = record {
  booted = record {
    boot = refl;
    begun = omega arith;
    number = omega arith;
    lives = sym (fresh_lives clients);
    over = λ who. refl;
    committed = refl;
  };
  settled = record { stored = refl; added = refl; dropped = refl };
  log = refl;
  slots = λ w t. sym (ap (λ found. slot_shown found (reply_at w t (slots_with (lives_from 0 clients) []))) (untaken w t)
      ∙ ap (slot_shown None) (reply_with_all w t (lives_from 0 clients) [] tt));
  held = tt;
  late = tt;
}

pub start_stores : (setting : Setting) (clients : ℕ) → ShowsDisk (first_batch clients ∷ []) (started setting clients)
start_stores setting clients = record {
  disk = refl;
  boot = refl;
  committed = refl;
  lives = start_lives 0 clients;
  over = λ who. refl;
  rising = (tt, tt);
  below = All-cons (Below 2) (first_batch clients) [] (λ k d within. absurd (omega arith)) (λ k d within. absurd (omega arith));
  replies = (tt, tt);
}
