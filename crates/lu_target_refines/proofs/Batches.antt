-- Commits: the batch that the journal gives is that of the rows, and once it is on the disk the journal shows what the rows
-- then have.
use Rattle.std.proofs.Common.{◌≡◌, ℕ, suc, ◌<◌, ◌≤◌, ◌||◌, Bool, true, false, cond, List, [], ◌∷◌, ◌++◌, map, filter, None, refl, sym, ap}
use Rattle.std.proofs.Common.{subst, ◌∙◌, arith}
use Rattle.std.specs.Prelude.{if◌then◌else◌, nat_lt, nat_le, All, AllPairs}
use Rattle.std.specs.List.{list_any}
use Rattle.std.proofs.lemmas.Bool.Decides.{nat_tests}
use Rattle.std.proofs.lemmas.List.Elements.{All-cons}
use Rattle.lu_base.specs.declared.ids.Who.{Who}
use Rattle.lu_msg.specs.declared.commits.Batch.{Batch}
use Rattle.lu_msg.specs.declared.commits.KeptReply.{KeptReply}
use Rattle.lu_msg.specs.declared.commits.Transaction.{Transaction}
use Rattle.lu_txn.specs.declared.logs.Logged.{Logged}
use Rattle.lu_txn.specs.declared.slots.Slot.{Slot as SlotOf}
use Rattle.lu_txn.specs.Slots.{lives_of, reply_at, with_lives as slots_with, without_lives as slots_gone}
use Rattle.lu_txn.specs.Logs.{number, up_to, above}
use Rattle.lu_txn.specs.Journals.{JournalState, IsSound}
use Rattle.lu_txn.specs.Commits.{last_replies, after_commit}
use Rattle.lu_txn.specs.Commits as journal_commit
use Rattle.lu_spec_entries.specs.Carried.{Deed, LifeSlot}
use Rattle.lu_spec_entries.specs.Words.{Commit, same_life}
use Rattle.lu_spec_target.specs.Lives.{is_life, life_before, no_slot, slot_in, slots_without, with_lives, without_lives}
use Rattle.lu_spec_target.specs.Stored.{transaction_of, batch_of}
use Rattle.lu_spec_target.specs.States.{Target, after}
use Rattle.lu_spec_target.specs.Leaving.{last_of, commits, is_over}
use Rattle.lu_target_refines.specs.Journals.{logged_of, TakenBy, slot_shown, AreShown, IsWithout, IsSettled, ShowsBoot, AreHeld, AreLate}
use Rattle.lu_target_refines.specs.Journals.{ShowsJournal, AreRising}
use Rattle.lu_target_refines.specs.Batches.{left_by, joined_by, AreOnce, AreAmong, AreApart}
use Rattle.lu_target_refines.proofs.Slots.{slot_without}
use Rattle.lu_target_refines.proofs.Rising.{Rises}
use Rattle.lu_target_refines.proofs.LifeLists.{any_append, any_with_lives, or_turned, rises_from, rises_without, without_none}
use Rattle.lu_target_refines.proofs.LifeLists.{lives_with_all, lives_gone_all}
use Rattle.lu_target_refines.proofs.Moving.{left_as, left_is, joined_as, joined_is, reply_with_all, reply_gone_all}
use Rattle.lu_target_refines.proofs.Replies.{same_replies}

-- ---- numbers of the log

transaction_in : Logged → Transaction
transaction_in l = l.transaction

pub transactions_of : (log : List Deed) → map {A = Logged} {B = Transaction} (λ l. l.transaction) (map logged_of log)
    ≡ map transaction_of log
transactions_of [] = refl
transactions_of (d ∷ log) = ap (λ more. transaction_of d ∷ more) (transactions_of log)

pub rising_from : (n : ℕ) (ts : List Logged) → AllPairs (λ earlier later. number earlier < number later) ts
    → All (λ logged. n < number logged) ts
    → AreRising n (map {A = Logged} {B = Transaction} (λ l. l.transaction) ts)
rising_from n [] pairs all = tt
rising_from n (l ∷ ts) pairs all = (
  all 0 l (omega arith),
  rising_from (number l) ts (λ i j d less within. pairs (suc i) (suc j) d (omega arith) (omega arith))
      (λ k d within. pairs 0 (suc k) d (omega arith) (omega arith)),
)

-- the log rises from the committed number
pub log_rising : (taken : TakenBy) (j : JournalState) (v : Target) → ShowsJournal taken j v → IsSound j
    → AreRising v.committed (map transaction_of v.log)
log_rising taken j v shows sound =
    subst (λ n. AreRising n (map transaction_of v.log)) (sym shows.booted.committed)
    (subst (AreRising j.committed) (ap (map {A = Logged} {B = Transaction} (λ l. l.transaction)) shows.log ∙ transactions_of v.log)
    (rising_from j.committed j.transactions sound.rising sound.uncommitted))

pub last_least : (n : ℕ) (ds : List Deed) → AreRising n (map transaction_of ds) → n ≤ last_of ds n
last_least n [] rises = omega arith
last_least n (d ∷ ds) rises = omega (arith, rises.0, last_least d.reply.txn.0 ds rises.1)

pub last_most : (n most : ℕ) (ds : List Deed) → n ≤ most → All (λ logged. number logged ≤ most) (map logged_of ds) → last_of ds n ≤ most
last_most n most [] below all = below
last_most n most (d ∷ ds) below all = last_most d.reply.txn.0 most ds (all 0 (logged_of d) (omega arith))
    (λ k e within. all (suc k) e (omega arith))

pub rising_front : (n : ℕ) (ds rest : List Deed) → AreRising n (map transaction_of (ds ++ rest)) → AreRising n (map transaction_of ds)
rising_front n [] rest rises = tt
rising_front n (d ∷ ds) rest rises = (rises.0, rising_front d.reply.txn.0 ds rest rises.1)

-- ---- those up to the last of the first ones

none_up : (to n : ℕ) (ds : List Deed) → to ≤ n → AreRising n (map transaction_of ds) → up_to to (map logged_of ds) ≡ []
none_up to n [] below rises = refl
none_up to n (d ∷ ds) below rises =
    let past : nat_le d.reply.txn.0 to ≡ false = by_order (omega (arith, rises.0)) in
    rw past (none_up to d.reply.txn.0 ds (omega (arith, rises.0)) rises.1) where
      by_order : to < d.reply.txn.0 → nat_le d.reply.txn.0 to ≡ false
      by_order less = grind (arith, nat_tests)

pub cut : (n : ℕ) (ds rest : List Deed) → AreRising n (map transaction_of (ds ++ rest)) → up_to (last_of ds n) (map logged_of (ds ++ rest))
    ≡ map logged_of ds
cut n [] rest rises = none_up n n rest (omega arith) rises
cut n (d ∷ ds) rest rises =
    let least : d.reply.txn.0 ≤ last_of ds d.reply.txn.0 = last_least d.reply.txn.0 ds (rising_front d.reply.txn.0 ds rest rises.1) in
    let here : nat_le d.reply.txn.0 (last_of ds d.reply.txn.0) ≡ true = grind (arith, nat_tests) in
    rw here (ap (λ more. logged_of d ∷ more) (cut d.reply.txn.0 ds rest rises.1))

pub above_log : (to : ℕ) (log : List Deed) → above to (map logged_of log) ≡ map logged_of (filter (λ d. nat_lt to d.reply.txn.0) log)
above_log to [] = refl
above_log to (d ∷ log) = by (nat_lt to d.reply.txn.0) (above_log to log) where
  by : (over : Bool) → above to (map logged_of log) ≡ map logged_of (filter (λ d. nat_lt to d.reply.txn.0) log)
      → cond over (logged_of d ∷ above to (map logged_of log)) (above to (map logged_of log))
      ≡ map logged_of (cond over (d ∷ filter (λ d. nat_lt to d.reply.txn.0) log) (filter (λ d. nat_lt to d.reply.txn.0) log))
  by true h = ap (λ more. logged_of d ∷ more) h
  by false h = h

all_front : (test : Logged → Type 0) (ds rest : List Deed) → All test (map logged_of (ds ++ rest)) → All test (map logged_of ds)
all_front test [] rest all = λ k d within. absurd (omega arith)
all_front test (d ∷ ds) rest all = All-cons test (logged_of d) (map logged_of ds) (all 0 (logged_of d) (omega arith))
    (all_front test ds rest (λ k e within. all (suc k) e (omega arith)))

-- ---- lives leave and come

abbrev moved : (gone come : List Who) → JournalState → JournalState
moved gone come j = joined_as come (left_as gone j)

pub moved_is : (gone come : List Who) (j : JournalState) → IsSettled j → IsSound j → AreOnce gone → AreAmong (lives_of j.slots) gone
    → AreOnce come
    → AreApart (without_lives gone (lives_of j.slots)) come → joined_by come (left_by gone j) ≡ joined_as come (left_as gone j)
moved_is gone come j settled sound once among new apart =
    let rises : Rises life_before (lives_of j.slots) = rises_from (lives_of j.slots) sound.lives in
    ap (joined_by come) (left_is gone j settled.added rises once among)
    ∙ joined_is come (left_as gone j) new (subst (λ lives. AreApart lives come) (sym (lives_gone_all gone j.slots rises)) apart)

-- ---- the batch

abbrev batch_with : ℕ → List Transaction → List KeptReply → (added removed : List Who) → Batch
batch_with boot transactions replies added removed = record {
  boot = boot;
  transactions = transactions;
  replies = replies;
  added = added;
  removed = removed;
}

-- `to` is the number of the last of the first transactions, and the journal has dropped and added the slots
pub batch_is : (j : JournalState) (ds rest : List Deed) (gone come : List Who) → IsSettled j → IsSound j → j.transactions
    ≡ map logged_of (ds ++ rest)
    → AreOnce gone → AreAmong (lives_of j.slots) gone → AreOnce come → AreApart (without_lives gone (lives_of j.slots)) come
    → journal_commit.batch_of (last_of ds j.committed) (joined_by come (left_by gone j)) ≡ batch_of ds gone come
batch_is j ds rest gone come settled sound log once among new apart =
    let rises : AreRising j.committed (map transaction_of (ds ++ rest)) =
    subst (AreRising j.committed) (ap (map {A = Logged} {B = Transaction} (λ l. l.transaction)) log ∙ transactions_of (ds ++ rest))
    (rising_from j.committed j.transactions sound.rising sound.uncommitted) in
    let front : up_to (last_of ds j.committed) j.transactions ≡ map logged_of ds = ap (up_to (last_of ds j.committed)) log
    ∙ cut j.committed ds rest rises in
    let tags : All (λ logged. logged.transaction.tag < 8) (map logged_of ds) =
    all_front (λ logged. logged.transaction.tag < 8) ds rest (subst (All (λ logged. logged.transaction.tag < 8)) log sound.tagged) in
    ap (journal_commit.batch_of (last_of ds j.committed)) (moved_is gone come j settled sound once among new apart)
    ∙ ap (λ stored. batch_with (if stored then 0 else j.boot) (map {A = Logged} {B = Transaction} (λ l. l.transaction)
    (up_to (last_of ds j.committed) j.transactions)) (last_replies (up_to (last_of ds j.committed) j.transactions)) come
    (j.dropped ++ gone)) settled.stored
    ∙ ap (λ ts. batch_with 0 (map {A = Logged} {B = Transaction} (λ l. l.transaction) ts) (last_replies ts) come (j.dropped ++ gone)) front
    ∙ ap (λ before. batch_with 0 (map {A = Logged} {B = Transaction} (λ l. l.transaction) (map logged_of ds))
    (last_replies (map logged_of ds)) come (before ++ gone)) settled.dropped
    ∙ ap (λ ts. batch_with 0 ts (last_replies (map logged_of ds)) come gone) (transactions_of ds)
    ∙ ap (λ replies. batch_with 0 (map transaction_of ds) replies come gone) (same_replies ds tags)

pub batches : (taken : TakenBy) (j : JournalState) (v : Target) (ds rest : List Deed) (gone come : List Who) → ShowsJournal taken j v
    → IsSound j → v.log ≡ ds ++ rest
    → AreOnce gone → AreAmong v.lives gone → AreOnce come → AreApart (without_lives gone v.lives) come
    → journal_commit.batch_of (last_of ds v.committed) (joined_by come (left_by gone j)) ≡ batch_of ds gone come
batches taken j v ds rest gone come shows sound log once among new apart =
    ap (λ n. journal_commit.batch_of (last_of ds n) (joined_by come (left_by gone j))) shows.booted.committed
    ∙ batch_is j ds rest gone come shows.settled sound (shows.log ∙ ap (map logged_of) log)
    once (subst (λ lives. AreAmong lives gone) shows.booted.lives among) new
    (subst (λ lives. AreApart (without_lives gone lives) come) shows.booted.lives apart)

-- ---- what `committed` requires

pub last_fits : (taken : TakenBy) (j : JournalState) (v : Target) (ds rest : List Deed) (gone come : List Who) → ShowsJournal taken j v
    → IsSound j → v.log ≡ ds ++ rest
    → AreOnce gone → AreAmong v.lives gone → AreOnce come → AreApart (without_lives gone v.lives) come
    → ((joined_by come (left_by gone j)).committed ≤ last_of ds v.committed)
    × (last_of ds v.committed ≤ (joined_by come (left_by gone j)).newest)
last_fits taken j v ds rest gone come shows sound log once among new apart =
    let is : joined_by come (left_by gone j) ≡ joined_as come (left_as gone j) =
    moved_is gone come j shows.settled sound once (subst (λ lives. AreAmong lives gone) shows.booted.lives among) new
    (subst (λ lives. AreApart (without_lives gone lives) come) shows.booted.lives apart) in
    let rises : AreRising v.committed (map transaction_of ds) =
    rising_front v.committed ds rest (subst (λ all. AreRising v.committed (map transaction_of all)) log
    (log_rising taken j v shows sound)) in
    let least : v.committed ≤ last_of ds v.committed = last_least v.committed ds rises in
    let given : All (λ logged. number logged ≤ j.newest) (map logged_of ds) =
    all_front (λ logged. number logged ≤ j.newest) ds rest (subst (All (λ logged. number logged ≤ j.newest))
    (shows.log ∙ ap (map logged_of) log) sound.given) in
    let most : last_of ds v.committed ≤ j.newest = last_most v.committed j.newest ds
    (omega (arith, shows.booted.committed, sound.committed)) given in
    subst (λ (it : JournalState). (it.committed ≤ last_of ds v.committed) × (last_of ds v.committed ≤ it.newest)) (sym is)
    (omega (arith, least, shows.booted.committed), most)

-- ---- after the commit

pub boot_moved : (j : JournalState) (v : Target) (to : ℕ) (ds : List Deed) (gone come : List Who) → ShowsBoot j v
    → Rises life_before (lives_of j.slots)
    → ShowsBoot (after_commit to (joined_as come (left_as gone j))) (after v (Commit to (batch_of ds gone come)))
boot_moved j v to ds gone come shows rises = record {
  boot = shows.boot;
  begun = shows.begun;
  number = shows.number;
  lives = ap (λ lives. with_lives come (without_lives gone lives)) shows.lives
      ∙ ap (with_lives come) (sym (lives_gone_all gone j.slots rises)) ∙ sym (lives_with_all come (slots_gone gone j.slots));
  over = λ who. any_with_lives (is_over who) gone v.removed ∙ ap (λ rest. list_any (is_over who) gone || rest) (shows.over who)
      ∙ or_turned (list_any (is_over who) gone) (list_any (is_over who) j.removed) ∙ sym (any_append (is_over who) j.removed gone);
  committed = refl;
}

pub slots_moved : (taken new_taken : TakenBy) (own : List SlotOf) (slots : List LifeSlot) (gone come : List Who) → AreShown taken own slots
    → IsWithout gone taken new_taken
    → Rises life_before (lives_of own) → AreShown new_taken (slots_with come (slots_gone gone own)) (slots_without gone slots)
slots_moved taken new_taken own slots gone come shown without rises w t =
    slot_without gone slots w t
    ∙ by (is_life w gone) refl where
      reply : reply_at w t (slots_with come (slots_gone gone own)) ≡ (if is_life w gone then None else reply_at w t own)
      reply =
          reply_with_all w t come (slots_gone gone own) (subst (Rises life_before) (sym (lives_gone_all gone own rises))
          (rises_without gone (lives_of own) rises))
          ∙ reply_gone_all w t gone own rises

      by : (out : Bool) → is_life w gone ≡ out → (if out then no_slot else slot_in slots w t)
          ≡ slot_shown (new_taken w t) (reply_at w t (slots_with come (slots_gone gone own)))
      by true e = sym (rw (without w t, reply, e) refl)
      by false e = shown w t ∙ sym (rw (without w t, reply, e) refl)

-- ---- the rest of the log

pub cut_rest : (n : ℕ) (ds rest : List Deed) → AreRising n (map transaction_of (ds ++ rest))
    → filter (λ d. nat_lt (last_of ds n) d.reply.txn.0) (ds ++ rest) ≡ rest
cut_rest n [] rest rises = all_past n n rest (omega arith) rises where
  all_past : (to n : ℕ) (ds : List Deed) → to ≤ n → AreRising n (map transaction_of ds) → filter (λ d. nat_lt to d.reply.txn.0) ds ≡ ds
  all_past to n [] below rises = refl
  all_past to n (d ∷ ds) below rises =
      let order : to < d.reply.txn.0 = omega (arith, rises.0) in
      let past : nat_lt to d.reply.txn.0 ≡ true = grind (arith, nat_tests) in
      rw past (ap (λ more. d ∷ more) (all_past to d.reply.txn.0 ds (omega (arith, rises.0)) rises.1))
cut_rest n (d ∷ ds) rest rises =
    let least : d.reply.txn.0 ≤ last_of ds d.reply.txn.0 = last_least d.reply.txn.0 ds (rising_front d.reply.txn.0 ds rest rises.1) in
    let here : nat_lt (last_of ds d.reply.txn.0) d.reply.txn.0 ≡ false = grind (arith, nat_tests) in
    rw here (cut_rest d.reply.txn.0 ds rest rises.1)

held_rest : (lives : List Who) (ds rest : List Deed) → AreHeld lives (ds ++ rest) → AreHeld lives rest
held_rest lives [] rest held = held
held_rest lives (d ∷ ds) rest held = held_rest lives ds rest held.1

pub held_front : (lives : List Who) (ds rest : List Deed) → AreHeld lives (ds ++ rest) → AreHeld lives ds
held_front lives [] rest held = tt
held_front lives (d ∷ ds) rest held = (held.0, held_front lives ds rest held.1)

pub late_front : (ds rest : List Deed) → AreLate (ds ++ rest) → AreLate ds
late_front [] rest late = tt
late_front (d ∷ ds) rest late = (late.0, late_front ds rest late.1)

late_rest : (ds rest : List Deed) → AreLate (ds ++ rest) → AreLate rest
late_rest [] rest late = late
late_rest (d ∷ ds) rest late = late_rest ds rest late.1

pub held_more : (come lives : List Who) (ds : List Deed) → AreHeld lives ds → AreHeld (with_lives come lives) ds
held_more come lives [] held = tt
held_more come lives (d ∷ ds) held = (
  any_with_lives (same_life d.reply.who) come lives ∙ rw held.0 (or_true (is_life d.reply.who come)),
  held_more come lives ds held.1,
) where
  or_true : (a : Bool) → (a || true) ≡ true
  or_true true = refl
  or_true false = refl

-- where no life leaves, the rest of the log is of lives that stay
pub rest_held : (taken : TakenBy) (j : JournalState) (v : Target) (ds rest : List Deed) → ShowsJournal taken j v → v.log ≡ ds ++ rest
    → AreHeld (without_lives [] v.lives) rest
rest_held taken j v ds rest shows log = subst (λ lives. AreHeld lives rest) (sym (without_none v.lives))
    (held_rest v.lives ds rest (subst (AreHeld v.lives) log shows.held))

-- the premise of `after_commit` is the clause `committed`
pub committed : (taken new_taken : TakenBy) (j : JournalState) (v : Target) (ds rest : List Deed) (gone come : List Who)
    → ShowsJournal taken j v → IsSound j
    → v.log ≡ ds ++ rest → AreHeld (without_lives gone v.lives) rest → AreOnce gone → AreAmong v.lives gone → AreOnce come
    → AreApart (without_lives gone v.lives) come → IsWithout gone taken new_taken
    → ShowsJournal new_taken (after_commit (last_of ds v.committed) (joined_by come (left_by gone j))) (after v (commits v ds gone come))
committed taken new_taken j v ds rest gone come shows sound log staying once among new apart without =
    let rises : Rises life_before (lives_of j.slots) = rises_from (lives_of j.slots) sound.lives in
    let is : joined_by come (left_by gone j) ≡ joined_as come (left_as gone j) =
    moved_is gone come j shows.settled sound once (subst (λ lives. AreAmong lives gone) shows.booted.lives among) new
    (subst (λ lives. AreApart (without_lives gone lives) come) shows.booted.lives apart) in
    let rest_is : filter (λ d. nat_lt (last_of ds v.committed) d.reply.txn.0) v.log ≡ rest =
    ap (filter (λ d. nat_lt (last_of ds v.committed) d.reply.txn.0)) log
    ∙ cut_rest v.committed ds rest (subst (λ all. AreRising v.committed (map transaction_of all)) log
    (log_rising taken j v shows sound)) in
    subst (λ (it : JournalState). ShowsJournal new_taken (after_commit (last_of ds v.committed) it) (after v (commits v ds gone come)))
    (sym is) (record {
      booted = boot_moved j v (last_of ds v.committed) ds gone come shows.booted rises;
      settled = record { stored = refl; added = refl; dropped = refl };
      log = ap (above (last_of ds v.committed)) shows.log ∙ above_log (last_of ds v.committed) v.log;
      slots = slots_moved taken new_taken j.slots v.slots gone come shows.slots without rises;
      held = subst (AreHeld (with_lives come (without_lives gone v.lives))) (sym rest_is)
          (held_more come (without_lives gone v.lives) rest staying);
      late = subst AreLate (sym rest_is) (late_rest ds rest (subst AreLate log shows.late));
    })
