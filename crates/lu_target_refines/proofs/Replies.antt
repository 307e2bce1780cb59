-- The last replies that a batch of the journal has are those that the rows have: both rise by life and tag, and the same
-- reply is found in both for each life and tag.
use Rattle.std.proofs.Common.{◌≡◌, ℕ, ◌+◌, ◌<◌, ◌≤◌, ◌==◌, ◌&&◌, ◌||◌, Bool, true, false, List, [], ◌∷◌, ◌++◌, map, Option, Some, None}
use Rattle.std.proofs.Common.{refl, sym, ap, subst, ◌∙◌, arith}
use Rattle.std.specs.Prelude.{if◌then◌else◌, nat_lt, All, AllPairs}
use Rattle.std.specs.List.{fold}
use Rattle.std.proofs.lemmas.Bool.Decides.{nat_tests}
use Rattle.lu_base.specs.declared.ids.Who.{Who}
use Rattle.lu_msg.specs.declared.commits.KeptReply.{KeptReply}
use Rattle.lu_msg.specs.declared.messages.Reply.{Reply}
use Rattle.lu_txn.specs.declared.logs.Logged.{Logged}
use Rattle.lu_txn.specs.declared.slots.Slot.{Slot as SlotOf}
use Rattle.lu_txn.specs.Slots.{lives_of, with_life as slot_with, with_reply, tagged, kept_in}
use Rattle.lu_txn.specs.Commits.{filled_by, last_replies, is_made_by, is_for, reply_for}
use Rattle.lu_txn.proofs.SlotLaws.{Before, lives-with_reply, rises-with_life}
use Rattle.lu_txn.proofs.LastReplies.{last_is}
use Rattle.lu_spec_entries.specs.Carried.{Deed}
use Rattle.lu_spec_entries.specs.Words.{same_life}
use Rattle.lu_spec_target.specs.Lives.{life_before}
use Rattle.lu_spec_target.specs.Stored.{same_kept, kept_before, with_kept, replies_of}
use Rattle.lu_target_refines.specs.Journals.{logged_of}
use Rattle.lu_target_refines.proofs.Slots.{never, both, one_life, one_place, place_back, place_of_one, same_back}
use Rattle.lu_target_refines.proofs.LifeLists.{lives_order, rises_from}
use Rattle.lu_target_refines.proofs.Rising.{IsOrder, AllAfter, Rises, found, one_list, put, found_put, rises_put}

-- ---- the order of kept replies, by life and then by tag

own : (a : KeptReply) → same_kept a a ≡ true
own a = grind (arith, nat_tests)

apart : (a b : KeptReply) → kept_before a b ≡ true → same_kept a b ≡ false
apart a b = grind (arith, nat_tests)

later : (a b c : KeptReply) → kept_before a b ≡ true → kept_before b c ≡ true → kept_before a c ≡ true
later a b c e f = by (life_before a.who b.who) refl (life_before b.who c.who) refl e f where
  in_tag : (w : Who) (t u : ℕ) → nat_lt t u ≡ true → (life_before w w || (same_life w w && nat_lt t u)) ≡ true
  in_tag w t u = grind (arith, nat_tests)

  below : (t u x : ℕ) → nat_lt t u ≡ true → nat_lt u x ≡ true → nat_lt t x ≡ true
  below t u x = grind (arith, nat_tests)

  by : (one : Bool) → life_before a.who b.who ≡ one → (two : Bool) → life_before b.who c.who ≡ two
      → (one || (same_life a.who b.who && nat_lt a.tag b.tag)) ≡ true
      → (two || (same_life b.who c.who && nat_lt b.tag c.tag)) ≡ true → kept_before a c ≡ true
  by true p true q e f = rw (lives_order.later a.who b.who c.who p q) refl
  by true p false q e f = let same = both (same_life b.who c.who) (nat_lt b.tag c.tag) f
      in rw (subst (λ who. life_before a.who who ≡ true) (one_life b.who c.who same.0) p) refl
  by false p true q e f = let same = both (same_life a.who b.who) (nat_lt a.tag b.tag) e
      in rw (subst (λ who. life_before who c.who ≡ true) (sym (one_life a.who b.who same.0)) q) refl
  by false p false q e f =
      let one = both (same_life a.who b.who) (nat_lt a.tag b.tag) e in
      let two = both (same_life b.who c.who) (nat_lt b.tag c.tag) f in
      subst (λ who. (life_before who c.who || (same_life who c.who && nat_lt a.tag c.tag)) ≡ true)
      (sym (one_life a.who b.who one.0 ∙ one_life b.who c.who two.0))
      (in_tag c.who a.tag c.tag (below a.tag b.tag c.tag one.1 two.1))

either : (a b : KeptReply) → same_kept a b ≡ false → kept_before a b ≡ false → kept_before b a ≡ true
either a b = grind (arith, nat_tests)

abbrev key_before : Who → ℕ → KeptReply → Bool
key_before who tag c = life_before who c.who || (same_life who c.who && nat_lt tag c.tag)

beside : (a b c : KeptReply) → same_kept a b ≡ true → kept_before a c ≡ kept_before b c
beside a b c e =
    let one = one_place a.who b.who a.tag b.tag e in
    ap (λ who. key_before who a.tag c) one.0 ∙ ap (λ tag. key_before b.who tag c) one.1

pub kept_order : IsOrder same_kept kept_before
kept_order = record {
  own = own;
  back = λ a b. place_back a.who b.who a.tag b.tag;
  through = λ a b c e. place_of_one a.who b.who c.who a.tag b.tag c.tag e;
  apart = apart;
  later = later;
  beside = beside;
  either = either;
}

put_kept : (k : KeptReply) (kept : List KeptReply) → with_kept k kept ≡ put same_kept kept_before k kept
put_kept k [] = refl
put_kept k (x ∷ kept) = by (same_kept k x) (kept_before k x) (put_kept k kept) where
  by : (here first : Bool) → with_kept k kept ≡ put same_kept kept_before k kept
      → (if here then k ∷ kept else (if first then k ∷ x ∷ kept else x ∷ with_kept k kept))
      ≡ (if here then k ∷ kept else (if first then k ∷ x ∷ kept else x ∷ put same_kept kept_before k kept))
  by true first rest = refl
  by false true rest = refl
  by false false rest = ap (λ more. x ∷ more) rest

abbrev pub kept_of : Deed → KeptReply
kept_of d = record { who = d.reply.who; tag = d.tag; reply = d.reply }

pub rises_replies : (ds : List Deed) (kept : List KeptReply) → Rises kept_before kept → Rises kept_before (replies_of ds kept)
rises_replies [] kept rises = rises
rises_replies (d ∷ ds) kept rises =
    rises_replies ds (with_kept (kept_of d) kept) (subst (Rises kept_before) (sym (put_kept (kept_of d) kept))
    (rises_put same_kept kept_before kept_order (kept_of d) kept rises))

-- ---- the reply of a life and tag

abbrev pub key : Who → ℕ → Reply → KeptReply
key who tag reply = record { who = who; tag = tag; reply = reply }

abbrev pub reply_in : Option KeptReply → Option Reply
reply_in None = None
reply_in (Some k) = Some k.reply

abbrev kept_as : Who → ℕ → Option Reply → Option KeptReply
kept_as who tag None = None
kept_as who tag (Some reply) = Some (key who tag reply)

key_same : (w : Who) (t : ℕ) (any : Reply) (x : KeptReply) → is_for w t x ≡ same_kept (key w t any) x
key_same w t any x = ap (λ same. same && t == x.tag) (same_back x.who w)

pub reply_found : (w : Who) (t : ℕ) (any : Reply) (kept : List KeptReply) → reply_for w t kept
    ≡ reply_in (found same_kept (key w t any) kept)
reply_found w t any [] = refl
reply_found w t any (x ∷ kept) = by (is_for w t x) (same_kept (key w t any) x) (key_same w t any x) (reply_found w t any kept) where
  by : (a b : Bool) → a ≡ b → reply_for w t kept ≡ reply_in (found same_kept (key w t any) kept)
      → (if a then Some x.reply else reply_for w t kept) ≡ reply_in (if b then Some x else found same_kept (key w t any) kept)
  by true true e h = refl
  by false false e h = h
  by true false e h = absurd (never e)
  by false true e h = absurd (never (sym e))

kept_found : (z : KeptReply) (kept : List KeptReply) → found same_kept z kept ≡ kept_as z.who z.tag (reply_for z.who z.tag kept)
kept_found z [] = refl
kept_found z (x ∷ kept) = by (is_for z.who z.tag x) (same_kept z x) (key_same z.who z.tag z.reply x) refl (kept_found z kept) where
  by : (a b : Bool) → a ≡ b → same_kept z x ≡ b → found same_kept z kept ≡ kept_as z.who z.tag (reply_for z.who z.tag kept)
      → (if b then Some x else found same_kept z kept) ≡ kept_as z.who z.tag (if a then Some x.reply else reply_for z.who z.tag kept)
  by true true e f h =
      let one = one_place z.who x.who z.tag x.tag f in
      ap Some (ap (λ tag. key x.who tag x.reply) (sym one.1) ∙ ap (λ who. key who z.tag x.reply) (sym one.0))
  by false false e f h = h
  by true false e f h = absurd (never e)
  by false true e f h = absurd (never (sym e))

pub reply_with : (w : Who) (t : ℕ) (k : KeptReply) (kept : List KeptReply) → reply_for w t (with_kept k kept)
    ≡ (if same_life w k.who && t == k.tag then Some k.reply else reply_for w t kept)
reply_with w t k kept =
    reply_found w t k.reply (with_kept k kept)
    ∙ ap (λ list. reply_in (found same_kept (key w t k.reply) list)) (put_kept k kept)
    ∙ ap reply_in (found_put same_kept kept_before kept_order k kept (key w t k.reply))
    ∙ by (same_life w k.who && t == k.tag) (sym (reply_found w t k.reply kept)) where
      by : (here : Bool) → reply_in (found same_kept (key w t k.reply) kept) ≡ reply_for w t kept
          → reply_in (if here then Some k else found same_kept (key w t k.reply) kept) ≡ (if here then Some k.reply else reply_for w t kept)
      by true h = refl
      by false h = h

abbrev pub newer : Who → ℕ → Option Reply → Logged → Option Reply
newer w t before logged = if is_made_by w t logged then Some logged.reply else before

pub replies_for : (w : Who) (t : ℕ) (ds : List Deed) (kept : List KeptReply) → reply_for w t (replies_of ds kept)
    ≡ fold (newer w t) (reply_for w t kept) (map logged_of ds)
replies_for w t [] kept = refl
replies_for w t (d ∷ ds) kept =
    replies_for w t ds (with_kept (kept_of d) kept)
    ∙ ap (λ before. fold (newer w t) before (map logged_of ds)) (reply_with w t (kept_of d) kept)

-- ---- the journal's list rises

after_tagged : (z : KeptReply) (who : Who) (k : ℕ) (replies : List (Option Reply)) (rest : List KeptReply)
    → ((n : ℕ) (r : Reply) → k ≤ n → kept_before z (key who n r) ≡ true)
    → AllAfter kept_before z rest → AllAfter kept_before z (tagged who k replies ++ rest)
after_tagged z who k [] rest here all = all
after_tagged z who k (None ∷ replies) rest here all = after_tagged z who (k + 1) replies rest (λ n r least. here n r (omega (arith, least)))
    all
after_tagged z who k (Some reply ∷ replies) rest here all =
    (here k reply (omega arith), after_tagged z who (k + 1) replies rest (λ n r least. here n r (omega (arith, least))) all)

same_tag_later : (who : Who) (k n : ℕ) (r s : Reply) → k + 1 ≤ n → kept_before (key who k r) (key who n s) ≡ true
same_tag_later who k n r s least = grind (arith, nat_tests)

rises_tagged : (who : Who) (k : ℕ) (replies : List (Option Reply)) (rest : List KeptReply)
    → ((t : ℕ) (r : Reply) → AllAfter kept_before (key who t r) rest)
    → Rises kept_before rest → Rises kept_before (tagged who k replies ++ rest)
rises_tagged who k [] rest all rises = rises
rises_tagged who k (None ∷ replies) rest all rises = rises_tagged who (k + 1) replies rest all rises
rises_tagged who k (Some reply ∷ replies) rest all rises = (
  after_tagged (key who k reply) who (k + 1) replies rest (λ n r least. same_tag_later who k n reply r least) (all k reply),
  rises_tagged who (k + 1) replies rest all rises,
)

life_later : (z : KeptReply) (who : Who) (n : ℕ) (r : Reply) → life_before z.who who ≡ true → kept_before z (key who n r) ≡ true
life_later z who n r e = rw e refl

after_kept : (z : KeptReply) (slots : List SlotOf) → AllAfter life_before z.who (lives_of slots) → AllAfter kept_before z (kept_in slots)
after_kept z [] all = all
after_kept z (slot ∷ slots) all = after_tagged z slot.who 0 slot.replies (kept_in slots) (λ n r least. life_later z slot.who n r all.0)
    (after_kept z slots all.1)

rises_kept : (slots : List SlotOf) → Rises life_before (lives_of slots) → Rises kept_before (kept_in slots)
rises_kept [] rises = rises
rises_kept (slot ∷ slots) rises = rises_tagged slot.who 0 slot.replies (kept_in slots) (λ t r. after_kept (key slot.who t r) slots rises.0)
    (rises_kept slots rises.1)

abbrev step : List SlotOf → Logged → List SlotOf
step slots logged = with_reply logged.transaction.who logged.transaction.tag logged.reply (slot_with logged.transaction.who slots)

rises_filled : (transactions : List Logged) (slots : List SlotOf) → AllPairs Before (lives_of slots)
    → AllPairs Before (lives_of (fold step slots transactions))
rises_filled [] slots rises = rises
rises_filled (l ∷ transactions) slots rises =
    rises_filled transactions (step slots l)
    (subst (AllPairs Before) (sym (lives-with_reply l.transaction.who l.transaction.tag l.reply (slot_with l.transaction.who slots)))
    (rises-with_life l.transaction.who slots rises))

-- ---- they are one list

pub same_replies : (ds : List Deed) → All (λ logged. logged.transaction.tag < 8) (map logged_of ds) → last_replies (map logged_of ds)
    ≡ replies_of ds []
same_replies ds tags =
    one_list same_kept kept_before kept_order (last_replies (map logged_of ds)) (replies_of ds [])
    (rises_kept (filled_by (map logged_of ds)) (rises_from (lives_of (filled_by (map logged_of ds)))
    (rises_filled (map logged_of ds) [] (λ i j d less within. absurd (omega arith)))))
    (rises_replies ds [] tt)
    (λ z. kept_found z (last_replies (map logged_of ds))
    ∙ ap (kept_as z.who z.tag) (last_is z.who z.tag (map logged_of ds) tags ∙ sym (replies_for z.who z.tag ds []))
    ∙ sym (kept_found z (replies_of ds [])))
