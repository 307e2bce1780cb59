-- What holds of every journal still holds once a reply was kept, and once a transaction was added.
use Rattle.std.proofs.Common.{◌≡◌, ℕ, ◌+◌, ◌*◌, ◌^◌, ◌<◌, ◌≤◌, Bool, true, false, cond, refl, List, [], ◌∷◌, ◌++◌, length, map, filter}
use Rattle.std.proofs.Common.{get_or, sym, subst, arith}
use Rattle.std.specs.Prelude.{All, AllPairs, slice_index, nat_lt, not}
use Rattle.std.proofs.lemmas.Bool.Decides.{nat_tests}
use Rattle.std.proofs.lemmas.List.{get_or-map, length-map}
use Rattle.std.specs.List.Sorted.{IsStrictlyIncreasing}
use Rattle.std.proofs.lemmas.List.Kept.{AllPairs-filter}
use Rattle.std.proofs.lemmas.List.Elements.{All-push, All-cons, All-filter}
use Rattle.std.proofs.lemmas.List.Quantifiers.{all_pairs_push}
use Rattle.lu_base.specs.declared.ids.Txn.{Txn}
use Rattle.lu_base.specs.declared.ids.Who.{Who}
use Rattle.lu_txn.specs.declared.slots.Slot.{Slot}
use Rattle.lu_msg.specs.declared.operations.Op.{Op}
use Rattle.lu_msg.specs.declared.messages.Reply.{Reply}
use Rattle.lu_part.specs.declared.parts.Part.{Part}
use Rattle.lu_txn.specs.declared.logs.Logged.{Logged}
use Rattle.lu_txn.specs.Slots.{same_life, is_before, lives_of, without_life, with_reply}
use Rattle.lu_txn.specs.Logs.{number, above, is_seen, seen_by}
use Rattle.lu_txn.specs.Journals.{JournalState, fresh, appended, without_slot, IsSound}
use Rattle.lu_txn.proofs.SlotLaws.{lives-with_reply, rises-with_lives, tags-with_reply, tags-with_lives}

abbrev Before : Who → Who → Type 0
Before earlier later = is_before earlier later ≡ true

abbrev Rising : Logged → Logged → Type 0
Rising earlier later = number earlier < number later

pub sound_kept : (journal : JournalState) (who : Who) (tag : ℕ) (reply : Reply) → IsSound journal
    → IsSound (record journal { slots = with_reply who tag reply journal.slots })
sound_kept journal who tag reply sound = record {
  boot = sound.boot;
  newest = sound.newest;
  committed = sound.committed;
  rising = sound.rising;
  given = sound.given;
  uncommitted = sound.uncommitted;
  tagged = sound.tagged;
  lives = subst (AllPairs Before) (sym (lives-with_reply who tag reply journal.slots)) sound.lives;
  tags = tags-with_reply who tag reply journal.slots sound.tags;
}

pub sound_appended : (txn : Txn) (who : Who) (tag : ℕ) (op : Op) (writes : List Part) (reply : Reply) (journal : JournalState) → tag < 8
    → journal.newest < txn.0 → txn.0 < (journal.boot + 1) * 2 ^ 32 → IsSound journal
    → IsSound (appended txn who tag op writes reply journal)
sound_appended txn who tag op writes reply journal below above boot sound =
    let logged : Logged = record {
      transaction = record { txn = txn; who = who; xid = reply.xid; tag = tag; op = op };
      writes = writes;
      reply = reply;
    } in
    record {
      boot = sound.boot;
      newest = boot;
      committed = omega (arith, sound.committed);
      rising = all_pairs_push Rising journal.transactions logged sound.rising
          (λ place d below. let old : number (get_or journal.transactions place d) ≤ journal.newest = sound.given place d below
          in omega arith);
      given = All-push (λ one. number one ≤ txn.0) journal.transactions logged
          (λ place d below. let old : number (get_or journal.transactions place d) ≤ journal.newest = sound.given place d below
          in omega arith) (omega arith);
      uncommitted = All-push (λ one. journal.committed < number one) journal.transactions logged sound.uncommitted
          (omega (arith, sound.committed));
      tagged = All-push (λ one. one.transaction.tag < 8) journal.transactions logged sound.tagged below;
      lives = subst (AllPairs Before) (sym (lives-with_reply who tag reply journal.slots)) sound.lives;
      tags = tags-with_reply who tag reply journal.slots sound.tags;
    }

pub sound_fresh : (lives added dropped removed : List Who) → IsSound
    (record (fresh lives) { added = added; dropped = dropped; removed = removed })
sound_fresh lives added dropped removed = record {
  boot = omega arith;
  newest = omega arith;
  committed = omega arith;
  rising = λ i j d less within. absurd (omega arith);
  given = λ k d within. absurd (omega arith);
  uncommitted = λ k d within. absurd (omega arith);
  tagged = λ k d within. absurd (omega arith);
  lives = rises-with_lives lives [] (λ i j d less within. absurd (omega arith));
  tags = tags-with_lives lives [] (λ k d within. absurd (omega arith));
}

-- numbers of transactions that rise
rises-map : (transactions : List Logged) → AllPairs Rising transactions → IsStrictlyIncreasing (map number transactions)
rises-map [] rises = λ k within. absurd (omega arith)
rises-map (first ∷ rest) rises = λ k within.
    let all : List Logged = first ∷ rest in
    let count : length (map number all) ≡ length all = length-map all number in
    let this : slice_index (map number all) k ≡ number (get_or all k first) = get_or-map number all k first 0 (omega arith) in
    let next : slice_index (map number all) (k + 1) ≡ number (get_or all (k + 1) first) =
    get_or-map number all (k + 1) first 0 (omega arith) in
    rw (this, next) (rises k (k + 1) first (omega arith) (omega arith))

pub seen_rises : (touched : List Part) (transactions : List Logged) → AllPairs Rising transactions
    → IsStrictlyIncreasing (seen_by touched transactions)
seen_rises touched transactions rises = rises-map (filter (is_seen touched) transactions)
    (AllPairs-filter Rising (is_seen touched) transactions rises)

-- once all up to a number are committed
above_all : (to : ℕ) (transactions : List Logged) → All (λ logged. to < number logged) (above to transactions)
above_all to [] = λ k d within. absurd (omega arith)
above_all to (first ∷ rest) = by (nat_lt to (number first)) refl (above_all to rest) where
  by : (over : Bool) → nat_lt to (number first) ≡ over → All (λ logged. to < number logged) (above to rest)
      → All (λ logged. to < number logged) (cond over (first ∷ above to rest) (above to rest))
  by true e all = let over : to < number first = grind (arith, nat_tests)
      in All-cons (λ logged. to < number logged) first (above to rest) over all
  by false e all = all

pub sound_committed : (to : ℕ) (journal : JournalState) (added dropped : List Who) → to ≤ journal.newest → IsSound journal
    → IsSound (record journal {
      boot_stored = true;
      committed = to;
      transactions = above to journal.transactions;
      added = added;
      dropped =
          dropped;
    })
sound_committed to journal added dropped given sound = record {
  boot = sound.boot;
  newest = sound.newest;
  committed = given;
  rising = AllPairs-filter Rising (λ logged. nat_lt to (number logged)) journal.transactions sound.rising;
  given = All-filter (λ logged. nat_lt to (number logged)) (λ logged. number logged ≤ journal.newest) journal.transactions sound.given;
  uncommitted = above_all to journal.transactions;
  tagged = All-filter (λ logged. nat_lt to (number logged)) (λ logged. logged.transaction.tag < 8) journal.transactions sound.tagged;
  lives = sound.lives;
  tags = sound.tags;
}

-- with other slots
pub sound_slots : (journal : JournalState) (slots : List Slot) (added dropped removed : List Who) → IsSound journal
    → AllPairs Before (lives_of slots) → All (λ slot. length slot.replies ≡ 8) slots
    → IsSound (record journal { slots = slots; added = added; dropped = dropped; removed = removed })
sound_slots journal slots added dropped removed sound lives tags = record {
  boot = sound.boot;
  newest = sound.newest;
  committed = sound.committed;
  rising = sound.rising;
  given = sound.given;
  uncommitted = sound.uncommitted;
  tagged = sound.tagged;
  lives = lives;
  tags = tags;
}

-- a life without its slot, field by field
pub without_slot_is : (who : Who) (journal : JournalState) (slots : List Slot) (added dropped removed : List Who) → slots
    ≡ without_life who journal.slots → added ≡ filter (λ life. not (same_life life who)) journal.added → dropped ≡ journal.dropped ++ who
    ∷ [] → removed ≡ journal.removed ++ who ∷ [] → record journal { slots = slots; added = added; dropped = dropped; removed = removed }
    ≡ without_slot who journal
without_slot_is who journal slots added dropped removed a b c d = rw (a, b, c, d) refl
