-- What a journal answers, and what it shows once it was told what the rows' entries tell.
use Rattle.std.proofs.Common.{◌≡◌, ℕ, ◌+◌, ◌*◌, ◌^◌, ◌<◌, ◌==◌, ◌||◌, Bool, true, false, List, [], ◌∷◌, ◌++◌, map, filter, Option, Some}
use Rattle.std.proofs.Common.{None, refl, sym, ap, subst, ◌∙◌, arith}
use Rattle.std.specs.Prelude.{IsSome, if◌then◌else◌, nat_lt}
use Rattle.std.specs.List.{list_any}
use Rattle.std.proofs.lemmas.Bool.Decides.{nat_tests}
use Rattle.lu_base.specs.declared.ids.At.{At}
use Rattle.lu_base.specs.declared.ids.Txn.{Txn as TxnOf}
use Rattle.lu_base.specs.declared.ids.Who.{Who}
use Rattle.lu_base.specs.declared.locks.Lock.{Lock}
use Rattle.lu_part.specs.declared.parts.Part.{Part}
use Rattle.lu_part.specs.Meets.{meets}
use Rattle.lu_part.proofs.PartLaws.{meets_symmetric}
use Rattle.lu_spec_machine.specs.Seen.{meet}
use Rattle.lu_msg.specs.declared.messages.Reply.{Reply}
use Rattle.lu_msg.specs.declared.messages.Request.{Request as RequestOf}
use Rattle.lu_txn.specs.declared.journals.Seen.TheVariants.{New, Old}
use Rattle.lu_txn.specs.Slots.{slot_of, reply_at, with_reply, IsReplyKept}
use Rattle.lu_txn.specs.Logs.{number, meets_written, is_seen, seen_by}
use Rattle.lu_txn.specs.Journals.{JournalState, count, appended, IsSeen}
use Rattle.lu_txn.proofs.SlotLaws.{lives-with_reply}
use Rattle.lu_spec_entries.specs.Carried.{Deed}
use Rattle.lu_spec_entries.specs.Words.{Act, Txn, Grant, Wait, Enters, Answers}
use Rattle.lu_spec_target.specs.Phase.{first_of}
use Rattle.lu_spec_target.specs.Lives.{is_life, slots_answered}
use Rattle.lu_spec_target.specs.States.{Target, after}
use Rattle.lu_spec_target.specs.Leaving.{is_over}
use Rattle.lu_spec_target.specs.Replies.{seen_in, next_number, row_kept}
use Rattle.lu_spec_target.specs.Requests.{row_enters, by_number, by_slot, row_request}
use Rattle.lu_target_refines.specs.Journals.{logged_of, Taken, TakenBy, slot_shown, AreShown, IsEntered, IsAnswered, IsSettled, AreHeld}
use Rattle.lu_target_refines.specs.Journals.{AreLate, ShowsBoot, ShowsJournal}
use Rattle.lu_target_refines.proofs.Slots.{never, shown_answered, shown_entered}
use Rattle.lu_target_refines.proofs.LifeLists.{has_slot}

-- ---- seen numbers: meeting is symmetric

other_way : (part : Part) (writes : List Part) → meets_written writes part ≡ list_any (λ written. meets written part) writes
other_way part [] = refl
other_way part (written ∷ writes) = rw (meets_symmetric part written) (ap (λ rest. meets written part || rest) (other_way part writes))

meets_same : (touched writes : List Part) → list_any (λ part. meets_written writes part) touched ≡ meet writes touched
meets_same [] writes = refl
meets_same (part ∷ touched) writes = rw (other_way part writes)
    (ap (λ rest. list_any (λ written. meets written part) writes || rest) (meets_same touched writes))

seen_same : (touched : List Part) (log : List Deed) → seen_in touched log ≡ seen_by touched (map logged_of log)
seen_same touched [] = refl
seen_same touched (d ∷ log) = by (is_seen touched (logged_of d)) (meet d.writes touched) (meets_same touched d.writes)
    (seen_same touched log) where
      by : (a b : Bool) → a ≡ b → seen_in touched log ≡ seen_by touched (map logged_of log)
          → (if b then d.reply.txn.0 ∷ seen_in touched log else seen_in touched log)
          ≡ map number (if a then logged_of d ∷ filter (is_seen touched) (map logged_of log) else filter (is_seen touched) (map logged_of log))
      by true true e h = ap (λ more. d.reply.txn.0 ∷ more) h
      by false false e h = h
      by true false e h = absurd (never e)
      by false true e h = absurd (never (sym e))

-- what `seen` of the journal gives is what the rows have
pub sees : (taken : TakenBy) (j : JournalState) (v : Target) (touched : List Part) → ShowsJournal taken j v → seen_in touched v.log
    ≡ seen_by touched j.transactions
sees taken j v touched shows = seen_same touched v.log ∙ ap (seen_by touched) (sym shows.log)

-- what `next` gives is the rows' next number
pub numbers : (j : JournalState) (v : Target) (next : TxnOf) → ShowsBoot j v → next.0 ≡ j.boot * 2 ^ 32 + count j + 1 → next ≡ next_number v
numbers j v next shows e =
    let same : next.0 ≡ v.number + 1 = omega (arith, shows.number, e) in
    ap (λ n. record { 0 = n }) same

-- ---- a reply is kept, and nothing else of what the journal reads is changed

settled_as : (j new : JournalState) → new.boot_stored ≡ j.boot_stored → new.added ≡ j.added → new.dropped ≡ j.dropped → IsSettled j
    → IsSettled new
settled_as j new a b c settled = record { stored = a ∙ settled.stored; added = b ∙ settled.added; dropped = c ∙ settled.dropped }

kept_boot : (j : JournalState) (v w : Target) (who : Who) (tag : ℕ) (reply : Reply) → w.boot ≡ v.boot → w.number ≡ v.number → w.lives
    ≡ v.lives → w.removed ≡ v.removed
    → w.committed ≡ v.committed → ShowsBoot j v → ShowsBoot (record j { slots = with_reply who tag reply j.slots }) w
kept_boot j v w who tag reply boot number lives removed committed shows = record {
  boot = boot ∙ shows.boot;
  begun = shows.begun;
  number = number ∙ shows.number;
  lives = lives ∙ shows.lives ∙ sym (lives-with_reply who tag reply j.slots);
  over = λ other. ap (list_any (is_over other)) removed ∙ shows.over other;
  committed = committed ∙ shows.committed;
}

-- the premises are the clauses `stored` and `replies` of `keep`
kept_as : (taken new_taken : TakenBy) (j new : JournalState) (v w : Target) (d : Deed) → w.boot ≡ v.boot → w.number ≡ v.number → w.lives
    ≡ v.lives → w.removed ≡ v.removed
    → w.committed ≡ v.committed → w.log ≡ v.log → w.slots ≡ slots_answered d v.slots
    → IsSome (taken d.reply.who d.tag) → IsAnswered d.reply.who d.tag taken new_taken
    → new ≡ record j { slots = with_reply d.reply.who d.tag d.reply j.slots } → IsReplyKept d.reply.who d.tag d.reply j.slots new.slots
    → ShowsJournal taken j v → ShowsJournal new_taken new w
kept_as taken new_taken j new v w d boot number lives removed committed log slots some answers stored replies shows = record {
  booted = subst (λ (it : JournalState). ShowsBoot it w) (sym stored)
      (kept_boot j v w d.reply.who d.tag d.reply boot number lives removed committed shows.booted);
  settled = subst IsSettled (sym stored) (settled_as j _ refl refl refl shows.settled);
  log = ap (λ (it : JournalState). it.transactions) stored ∙ shows.log ∙ ap (map logged_of) (sym log);
  slots = subst (AreShown new_taken new.slots) (sym slots) (shown_answered taken new_taken j.slots new.slots v.slots d some answers replies
      shows.slots);
  held = subst (AreHeld w.lives) (sym log) (subst (λ held. AreHeld held v.log) (sym lives) shows.held);
  late = subst AreLate (sym log) shows.late;
}

pub acts : (taken new_taken : TakenBy) (j new : JournalState) (v : Target) (d : Deed)
    → IsSome (taken d.reply.who d.tag) → IsAnswered d.reply.who d.tag taken new_taken
    → new ≡ record j { slots = with_reply d.reply.who d.tag d.reply j.slots } → IsReplyKept d.reply.who d.tag d.reply j.slots new.slots
    → ShowsJournal taken j v → ShowsJournal new_taken new (after v (Act d))
acts taken new_taken j new v d = kept_as taken new_taken j new v (after v (Act d)) d refl refl refl refl refl refl refl

pub answers : (taken new_taken : TakenBy) (j new : JournalState) (v : Target) (d : Deed)
    → IsSome (taken d.reply.who d.tag) → IsAnswered d.reply.who d.tag taken new_taken
    → new ≡ record j { slots = with_reply d.reply.who d.tag d.reply j.slots } → IsReplyKept d.reply.who d.tag d.reply j.slots new.slots
    → ShowsJournal taken j v → ShowsJournal new_taken new (after v (Answers d))
answers taken new_taken j new v d = kept_as taken new_taken j new v (after v (Answers d)) d refl refl refl refl refl refl refl

pub waits : (taken new_taken : TakenBy) (j new : JournalState) (v : Target) (l : Lock) (d : Deed)
    → IsSome (taken d.reply.who d.tag) → IsAnswered d.reply.who d.tag taken new_taken
    → new ≡ record j { slots = with_reply d.reply.who d.tag d.reply j.slots } → IsReplyKept d.reply.who d.tag d.reply j.slots new.slots
    → ShowsJournal taken j v → ShowsJournal new_taken new (after v (Wait l d))
waits taken new_taken j new v l d = kept_as taken new_taken j new v (after v (Wait l d)) d refl refl refl refl refl refl refl

pub grants : (taken new_taken : TakenBy) (j new : JournalState) (v : Target) (l : Lock) (d : Deed)
    → IsSome (taken d.reply.who d.tag) → IsAnswered d.reply.who d.tag taken new_taken
    → new ≡ record j { slots = with_reply d.reply.who d.tag d.reply j.slots } → IsReplyKept d.reply.who d.tag d.reply j.slots new.slots
    → ShowsJournal taken j v → ShowsJournal new_taken new (after v (Grant l (Some d)))
grants taken new_taken j new v l d = kept_as taken new_taken j new v (after v (Grant l (Some d))) d refl refl refl refl refl refl refl

-- ---- a transaction: the premises are the clauses `number` of `next`, and `added`, `replies` and `slot` of `append`

held_push : (lives : List Who) (log : List Deed) (d : Deed) → AreHeld lives log → is_life d.reply.who lives ≡ true
    → AreHeld lives (log ++ d ∷ [])
held_push lives [] d held e = (e, tt)
held_push lives (x ∷ log) d held e = (held.0, held_push lives log d held.1 e)

late_push : (log : List Deed) (d : Deed) → AreLate log → 1 < d.reply.txn.0 → AreLate (log ++ d ∷ [])
late_push [] d late e = (e, tt)
late_push (x ∷ log) d late e = (late.0, late_push log d late.1 e)

map_push : (log : List Deed) (d : Deed) → map logged_of (log ++ d ∷ []) ≡ map logged_of log ++ logged_of d ∷ []
map_push [] d = refl
map_push (e ∷ log) d = ap (λ more. logged_of e ∷ more) (map_push log d)

appended_boot : (j : JournalState) (v : Target) (d : Deed) → d.reply.txn.0 ≡ v.number + 1 → ShowsBoot j v
    → ShowsBoot (appended d.reply.txn d.reply.who d.tag d.op d.writes d.reply j) (after v (Txn d))
appended_boot j v d next shows = record {
  boot = shows.boot;
  begun = shows.begun;
  number = omega (arith, shows.number, next);
  lives = shows.lives ∙ sym (lives-with_reply d.reply.who d.tag d.reply j.slots);
  over = shows.over;
  committed = shows.committed;
}

above_one : (number boot given next : ℕ) → 0 < boot → number ≡ first_of boot + given → next ≡ number + 1 → 1 < next
above_one number boot given next begun is is_next = omega (arith, begun, is, is_next)

pub transacts : (taken new_taken : TakenBy) (j new : JournalState) (v : Target) (d : Deed)
    → d.reply.txn ≡ next_number v
    → IsSome (taken d.reply.who d.tag) → IsAnswered d.reply.who d.tag taken new_taken
    → new ≡ appended d.reply.txn d.reply.who d.tag d.op d.writes d.reply j → IsReplyKept d.reply.who d.tag d.reply j.slots new.slots
    → IsSome (slot_of d.reply.who j.slots)
    → ShowsJournal taken j v → ShowsJournal new_taken new (after v (Txn d))
transacts taken new_taken j new v d next some answers added replies slot shows = record {
  booted = subst (λ (it : JournalState). ShowsBoot it (after v (Txn d))) (sym added)
      (appended_boot j v d (ap (λ (n : TxnOf). n.0) next) shows.booted);
  settled = subst IsSettled (sym added) (settled_as j _ refl refl refl shows.settled);
  log = ap (λ (it : JournalState). it.transactions) added ∙ ap (λ log. log ++ logged_of d ∷ []) shows.log ∙ sym (map_push v.log d);
  slots = shown_answered taken new_taken j.slots new.slots v.slots d some answers replies shows.slots;
  held = held_push v.lives v.log d shows.held (ap (is_life d.reply.who) shows.booted.lives ∙ sym (has_slot d.reply.who j.slots) ∙ slot);
  late = late_push v.log d shows.late (above_one v.number j.boot (count j) d.reply.txn.0 shows.booted.begun shows.booted.number
      (ap (λ (n : TxnOf). n.0) next));
}

-- ---- a request is taken: the journal is as it was

pub enters : (taken new_taken : TakenBy) (j : JournalState) (v : Target) (r : RequestOf)
    → IsEntered r.who r.tag r.xid.0 taken new_taken
    → ShowsJournal taken j v → ShowsJournal new_taken j (after v (Enters r))
enters taken new_taken j v r told shows = record {
  booted = record {
    boot = shows.booted.boot;
    begun = shows.booted.begun;
    number = shows.booted.number;
    lives = shows.booted.lives;
    over =
        shows.booted.over;
    committed = shows.booted.committed;
  };
  settled = shows.settled;
  log = shows.log;
  slots = shown_entered taken new_taken j.slots v.slots r.who r.tag r.xid.0 told shows.slots;
  held = shows.held;
  late = shows.late;
}

-- ---- a request comes: what is done by what was taken, and by what `look` says where nothing was

pub looks_taken : (taken : TakenBy) (j : JournalState) (v : Target) (at : At) (r : RequestOf) (t : Taken) → ShowsJournal taken j v
    → taken r.who r.tag ≡ Some t
    → row_request v at r ≡ by_number v at r (if t.answered then reply_at r.who r.tag j.slots else None) (nat_lt t.xid r.xid.0)
    (t.xid == r.xid.0)
looks_taken taken j v at r t shows e =
    ap (by_slot v at r) (shows.slots r.who r.tag ∙ ap (λ found. slot_shown found (reply_at r.who r.tag j.slots)) e)

looks_by : (taken : TakenBy) (j : JournalState) (v : Target) (at : At) (r : RequestOf) → ShowsJournal taken j v → taken r.who r.tag ≡ None
    → row_request v at r ≡ by_slot v at r (slot_shown None (reply_at r.who r.tag j.slots))
looks_by taken j v at r shows e =
    ap (by_slot v at r) (shows.slots r.who r.tag ∙ ap (λ found. slot_shown found (reply_at r.who r.tag j.slots)) e)

-- it is new; no request has the number 0
pub looks_new : (taken : TakenBy) (j : JournalState) (v : Target) (at : At) (r : RequestOf) → ShowsJournal taken j v → taken r.who r.tag
    ≡ None
    → 0 < r.xid.0 → IsSeen (reply_at r.who r.tag j.slots) r.xid New → row_request v at r ≡ row_enters v at r
looks_new taken j v at r shows e some seen = looks_by taken j v at r shows e ∙ by (reply_at r.who r.tag j.slots) seen where
  by : (reply : Option Reply) → IsSeen reply r.xid New → by_slot v at r (slot_shown None reply) ≡ row_enters v at r
  by None seen = let above : nat_lt 0 r.xid.0 ≡ true = grind (arith, nat_tests) in rw above refl
  by (Some reply) seen = let above : nat_lt reply.xid.0 r.xid.0 ≡ true = grind (arith, nat_tests) in rw above refl

pub looks_zero : (taken : TakenBy) (j : JournalState) (v : Target) (at : At) (r : RequestOf) → ShowsJournal taken j v → taken r.who r.tag
    ≡ None
    → r.xid.0 ≡ 0 → IsSeen (reply_at r.who r.tag j.slots) r.xid New → row_request v at r ≡ []
looks_zero taken j v at r shows e nought seen = looks_by taken j v at r shows e ∙ by (reply_at r.who r.tag j.slots) seen where
  by : (reply : Option Reply) → IsSeen reply r.xid New → by_slot v at r (slot_shown None reply) ≡ []
  by None seen =
      let below : nat_lt 0 r.xid.0 ≡ false = grind (arith, nat_tests) in
      let same : (0 == r.xid.0) ≡ true = grind (arith, nat_tests) in
      rw (below, same) refl
  by (Some reply) seen = absurd (omega (arith, seen, nought))

-- it comes again, and is answered by the kept reply
pub looks_again : (taken : TakenBy) (j : JournalState) (v : Target) (at : At) (r : RequestOf) (reply : Reply) → ShowsJournal taken j v
    → taken r.who r.tag ≡ None
    → reply_at r.who r.tag j.slots ≡ Some reply → r.xid ≡ reply.xid → row_request v at r ≡ row_kept v (Some reply)
looks_again taken j v at r reply shows e kept same =
    let below : nat_lt reply.xid.0 r.xid.0 ≡ false = subst (λ (xid : _). nat_lt reply.xid.0 xid.0 ≡ false) (sym same)
    (grind (arith, nat_tests)) in
    let equal : (reply.xid.0 == r.xid.0) ≡ true = subst (λ (xid : _). (reply.xid.0 == xid.0) ≡ true) (sym same) (grind (arith, nat_tests))
    in
    looks_by taken j v at r shows e ∙ ap (λ found. by_slot v at r (slot_shown None found)) kept ∙ rw (below, equal) refl

-- it is old, and nothing comes of it
pub looks_old : (taken : TakenBy) (j : JournalState) (v : Target) (at : At) (r : RequestOf) → ShowsJournal taken j v → taken r.who r.tag
    ≡ None
    → IsSeen (reply_at r.who r.tag j.slots) r.xid Old → row_request v at r ≡ []
looks_old taken j v at r shows e seen = looks_by taken j v at r shows e ∙ by (reply_at r.who r.tag j.slots) seen where
  by : (reply : Option Reply) → IsSeen reply r.xid Old → by_slot v at r (slot_shown None reply) ≡ []
  by None seen = absurd (cc)
  by (Some reply) seen =
      let below : nat_lt reply.xid.0 r.xid.0 ≡ false = grind (arith, nat_tests) in
      let apart : (reply.xid.0 == r.xid.0) ≡ false = grind (arith, nat_tests) in
      rw (below, apart) refl
