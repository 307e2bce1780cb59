-- The replies of a batch are those of the last transactions of their lives and tags.
use Rattle.std.proofs.Common.{◌≡◌, ℕ, zero, suc, ◌+◌, ◌<◌, ◌==◌, ◌&&◌, Bool, true, false, cond, List, [], ◌∷◌, ◌++◌, length, filter, Option}
use Rattle.std.proofs.Common.{Some, None, refl, sym, ap, subst, ◌∙◌, arith}
use Rattle.std.specs.Prelude.{All, AllPairs, IsSome, slice_get, nat_le}
use Rattle.std.specs.List.{fold}
use Rattle.std.proofs.lemmas.Grind.{common_steps}
use Rattle.std.proofs.lemmas.Bool.Decides.{nat_tests}
use Rattle.std.proofs.lemmas.Option.{gets}
use Rattle.std.proofs.lemmas.List.Elements.{All-filter}
use Rattle.lu_base.specs.declared.ids.Who.{Who}
use Rattle.lu_msg.specs.declared.commits.KeptReply.{KeptReply}
use Rattle.lu_msg.specs.declared.messages.Reply.{Reply}
use Rattle.lu_txn.specs.declared.logs.Logged.{Logged}
use Rattle.lu_txn.specs.declared.slots.Slot.{Slot}
use Rattle.lu_txn.specs.Slots.{same_life, is_before, is_of, slot_of, in_slot, reply_at, lives_of, empty, with_life, with_reply, tagged}
use Rattle.lu_txn.specs.Slots.{kept_in}
use Rattle.lu_txn.specs.Commits.{filled_by, is_made_by, is_for, reply_for, last_reply}
use Rattle.lu_txn.proofs.SlotLaws.{Before, first_before, rest_rises, rises-with_life, tags-with_life, tags-with_reply, lives-with_reply}
use Rattle.lu_txn.proofs.Lookups.{reply_after, apart, before_same, front_before, none_after, all_after, after_same, some_with_life}
use Rattle.lu_txn.proofs.Loading.{IsTidy, tidy-nothing}

-- a slot without replies
in_empty : (who : Who) (t : ℕ) → in_slot t (Some (empty who)) ≡ None
in_empty who zero = refl
in_empty who (suc zero) = refl
in_empty who (suc (suc zero)) = refl
in_empty who (suc (suc (suc zero))) = refl
in_empty who (suc (suc (suc (suc zero)))) = refl
in_empty who (suc (suc (suc (suc (suc zero))))) = refl
in_empty who (suc (suc (suc (suc (suc (suc zero)))))) = refl
in_empty who (suc (suc (suc (suc (suc (suc (suc zero))))))) = refl
in_empty who (suc (suc (suc (suc (suc (suc (suc (suc t)))))))) = refl

-- a new slot gives no reply
reply_with_life : (w : Who) (t : ℕ) (who : Who) (slots : List Slot) → AllPairs Before (lives_of slots) → reply_at w t (with_life who slots)
    ≡ reply_at w t slots
reply_with_life w t who [] rises = by (same_life who w) where
  by : (same : Bool) → in_slot t (cond same (Some (empty who)) None) ≡ None
  by true = in_empty who t
  by false = refl
reply_with_life w t who (slot ∷ slots) rises =
    by (is_before slot.who who) (is_of who slot) refl refl (is_of w slot) refl (same_life who w) refl
    (reply_with_life w t who slots (rest_rises slot.who (lives_of slots) rises)) where
      by : (past here : Bool) → is_before slot.who who ≡ past → is_of who slot ≡ here → (there : Bool) → is_of w slot ≡ there
          → (same : Bool) → same_life who w ≡ same → reply_at w t (with_life who slots) ≡ reply_at w t slots
          → reply_at w t (cond past (slot ∷ with_life who slots) (cond here (slot ∷ slots) (empty who ∷ slot ∷ slots)))
          ≡ reply_at w t (slot ∷ slots)
      by true here e f true g same h rest = rw g refl
      by true here e f false g same h rest = rw g rest
      by false true e f there g same h rest = refl
      by false false e f there g true h rest =
          let front : Before w slot.who = before_same who w slot.who h (front_before who slot e f) in
          let none : slot_of w (slot ∷ slots) ≡ None = none_after w (slot ∷ slots) (all_after w slot slots front rises) in
          rw h (in_empty who t ∙ sym (ap (in_slot t) none))
      by false false e f there g false h rest = rw h refl

-- one transaction more
abbrev Tags : List Logged → Type 0
Tags transactions = All (λ logged. logged.transaction.tag < 8) transactions

abbrev step : List Slot → Logged → List Slot
step slots logged = with_reply logged.transaction.who logged.transaction.tag logged.reply (with_life logged.transaction.who slots)

abbrev next : Who → ℕ → Option Reply → Logged → Option Reply
next w t found logged = cond (is_made_by w t logged) (Some logged.reply) found

tidy_step : (slots : List Slot) (logged : Logged) → IsTidy slots → IsTidy (step slots logged)
tidy_step slots logged tidy =
    let who : Who = logged.transaction.who in
    record {
      lives = subst (AllPairs Before) (sym (lives-with_reply who logged.transaction.tag logged.reply (with_life who slots)))
          (rises-with_life who slots tidy.lives);
      tags = tags-with_reply who logged.transaction.tag logged.reply (with_life who slots) (tags-with_life who slots tidy.tags);
    }

reply_step : (w : Who) (t : ℕ) (slots : List Slot) (logged : Logged) → logged.transaction.tag < 8 → IsTidy slots
    → reply_at w t (step slots logged) ≡ next w t (reply_at w t slots) logged
reply_step w t slots logged below tidy =
    let who : Who = logged.transaction.who in
    reply_after who logged.transaction.tag logged.reply (with_life who slots) w t below (tags-with_life who slots tidy.tags)
    (some_with_life who slots)
    ∙ ap (λ found. cond (is_made_by w t logged) (Some logged.reply) found) (reply_with_life w t who slots tidy.lives)

replies_fold : (w : Who) (t : ℕ) (transactions : List Logged) (slots : List Slot) → Tags transactions → IsTidy slots
    → reply_at w t (fold step slots transactions) ≡ fold (next w t) (reply_at w t slots) transactions
replies_fold w t [] slots all tidy = refl
replies_fold w t (logged ∷ transactions) slots all tidy =
    replies_fold w t transactions (step slots logged) (λ k d within. all (suc k) d (omega arith)) (tidy_step slots logged tidy)
    ∙ ap (λ found. fold (next w t) found transactions) (reply_step w t slots logged (all 0 logged (omega arith)) tidy)

tidy_fold : (transactions : List Logged) (slots : List Slot) → IsTidy slots → IsTidy (fold step slots transactions)
tidy_fold [] slots tidy = tidy
tidy_fold (logged ∷ transactions) slots tidy = tidy_fold transactions (step slots logged) (tidy_step slots logged tidy)

-- the replies of slots as a list
tagged_other : (w : Who) (t : ℕ) (who : Who) (k : ℕ) (replies : List (Option Reply)) (rest : List KeptReply) → same_life who w ≡ false
    → reply_for w t (tagged who k replies ++ rest) ≡ reply_for w t rest
tagged_other w t who k [] rest other = refl
tagged_other w t who k (None ∷ replies) rest other = tagged_other w t who (k + 1) replies rest other
tagged_other w t who k (Some reply ∷ replies) rest other = rw other (tagged_other w t who (k + 1) replies rest other)

tagged_past : (w : Who) (t : ℕ) (who : Who) (k : ℕ) (replies : List (Option Reply)) (rest : List KeptReply) → t < k
    → reply_for w t (tagged who k replies ++ rest) ≡ reply_for w t rest
tagged_past w t who k [] rest past = refl
tagged_past w t who k (None ∷ replies) rest past = tagged_past w t who (k + 1) replies rest (omega arith)
tagged_past w t who k (Some reply ∷ replies) rest past =
    let other : is_for w t (record { who = who; tag = k; reply = reply }) ≡ false = grind (arith, nat_tests) in
    rw other (tagged_past w t who (k + 1) replies rest (omega arith))

abbrev in_replies : Who → ℕ → List (Option Reply) → Option Reply
in_replies who i replies = in_slot i (Some (record { who = who; replies = replies }))

tagged_own : (w : Who) (who : Who) (i k : ℕ) (replies : List (Option Reply)) (rest : List KeptReply) → same_life who w ≡ true
    → reply_for w (k + i) rest ≡ None → reply_for w (k + i) (tagged who k replies ++ rest) ≡ in_replies who i replies
tagged_own w who i k [] rest same none = none
tagged_own w who zero k (None ∷ replies) rest same none = tagged_past w (k + 0) who (k + 1) replies rest (omega arith) ∙ none
tagged_own w who zero k (Some reply ∷ replies) rest same none =
    let here : is_for w (k + 0) (record { who = who; tag = k; reply = reply }) ≡ true = grind (arith, nat_tests) in
    rw here refl
tagged_own w who (suc i) k (None ∷ replies) rest same none =
    let moved : k + 1 + i ≡ k + suc i = omega arith in
    subst (λ t. reply_for w t (tagged who (k + 1) replies ++ rest) ≡ in_replies who i replies) moved
    (tagged_own w who i (k + 1) replies rest same (subst (λ t. reply_for w t rest ≡ None) (sym moved) none))
tagged_own w who (suc i) k (Some reply ∷ replies) rest same none =
    let moved : k + 1 + i ≡ k + suc i = omega arith in
    let other : is_for w (k + suc i) (record { who = who; tag = k; reply = reply }) ≡ false = grind (arith, nat_tests) in
    rw other
    (subst (λ t. reply_for w t (tagged who (k + 1) replies ++ rest) ≡ in_replies who i replies) moved
    (tagged_own w who i (k + 1) replies rest same (subst (λ t. reply_for w t rest ≡ None) (sym moved) none)))

none_kept : (w : Who) (t : ℕ) (slots : List Slot) → All (Before w) (lives_of slots) → reply_for w t (kept_in slots) ≡ None
none_kept w t [] all = refl
none_kept w t (slot ∷ slots) all =
    tagged_other w t slot.who 0 slot.replies (kept_in slots) (apart w slot.who (all 0 slot.who (omega arith)))
    ∙ none_kept w t slots (λ k d within. all (suc k) d (omega arith))

kept_is : (w : Who) (t : ℕ) (slots : List Slot) → AllPairs Before (lives_of slots) → reply_for w t (kept_in slots) ≡ reply_at w t slots
kept_is w t [] rises = refl
kept_is w t (slot ∷ slots) rises = by (is_of w slot) refl (kept_is w t slots (rest_rises slot.who (lives_of slots) rises)) where
  by : (here : Bool) → is_of w slot ≡ here → reply_for w t (kept_in slots) ≡ reply_at w t slots
      → reply_for w t (tagged slot.who 0 slot.replies ++ kept_in slots) ≡ in_slot t (cond here (Some slot) (slot_of w slots))
  by true e rest =
      let none : reply_for w t (kept_in slots) ≡ None = none_kept w t slots (after_same w slot slots e rises) in
      let at : 0 + t ≡ t = omega arith in
      subst (λ n. reply_for w n (tagged slot.who 0 slot.replies ++ kept_in slots) ≡ in_slot t (Some slot)) at
      (tagged_own w slot.who t 0 slot.replies (kept_in slots) e (subst (λ n. reply_for w n (kept_in slots) ≡ None) (sym at) none))
  by false e rest = tagged_other w t slot.who 0 slot.replies (kept_in slots) e ∙ rest

pub last_is : (w : Who) (t : ℕ) (transactions : List Logged) → Tags transactions → reply_for w t (kept_in (filled_by transactions))
    ≡ last_reply w t transactions
last_is w t transactions all =
    kept_is w t (filled_by transactions) (tidy_fold transactions [] tidy-nothing).lives
    ∙ replies_fold w t transactions [] all tidy-nothing
