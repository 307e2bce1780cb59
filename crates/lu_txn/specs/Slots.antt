-- Reply slots: for each life that a target serves, and each tag from 0 to 7, the reply to the newest request
-- (Lustre Operations Manual, recovery, and multiple modifying requests in flight with their tags).
use Rattle.std.specs.Prelude.{◌≡◌, ℕ, ◌==◌, ◌&&◌, ◌||◌, nat_lt, ◌+◌, Bool, if◌then◌else◌, List, [], ◌∷◌, replicate, length, slice_set}
use Rattle.std.specs.Prelude.{slice_get, Option, Some, None, find, map, true, All, AllPairs}
use Rattle.std.specs.List.{list_any, fold, flat_map}
use Rattle.std.specs.Map.{values_of}
use Rattle.lu_base.specs.declared.ids.Who.{Who}
use Rattle.lu_msg.specs.declared.commits.KeptReply.{KeptReply}
use Rattle.lu_msg.specs.declared.messages.Reply.{Reply}
use Rattle.lu_msg.specs.Limits.{tag_count}
use Rattle.lu_txn.specs.declared.slots.Slot.{Slot}

-- The same life.
abbrev pub same_life : Who → Who → Bool
same_life a b = a.client == b.client && a.life == b.life

-- The life is one of these.
abbrev pub is_among : Who → List Who → Bool
is_among who lives = list_any (λ life. same_life life who) lives

-- Lives are in order by client, then by life.
abbrev pub is_before : Who → Who → Bool
is_before earlier later =
    nat_lt earlier.client later.client || (earlier.client == later.client && nat_lt earlier.life later.life)

-- The slot is that of this life.
abbrev pub is_of : Who → Slot → Bool
is_of who slot = same_life slot.who who

-- The slot of this life.
abbrev pub slot_of : Who → List Slot → Option Slot
slot_of who slots = find (is_of who) slots

-- The reply that is kept for this life and tag; none where there is no slot, or none was kept.
abbrev pub in_slot : ℕ → Option Slot → Option Reply
in_slot tag None = None
in_slot tag (Some slot) = at (slice_get slot.replies tag) where
  at : Option (Option Reply) → Option Reply
  at None = None
  at (Some reply) = reply

abbrev pub reply_at : Who → ℕ → List Slot → Option Reply
reply_at who tag slots = in_slot tag (slot_of who slots)

-- The reply of this life and tag is this one, and all others are as before.
abbrev pub IsReplyKept : Who → ℕ → Reply → (old new : List Slot) → Type 0
IsReplyKept who tag reply old new =
    (other : Who) (t : ℕ)
    → reply_at other t new ≡ (if same_life other who && t == tag then Some reply else reply_at other t old)

-- The lives that have a slot.
abbrev pub lives_of : List Slot → List Who
lives_of slots = map (λ slot. slot.who) slots

-- A slot that has no reply yet.
abbrev pub empty : Who → Slot
empty who = record { who = who; replies = replicate tag_count None }

-- The slot of a life, where these lives have slots without replies.
abbrev pub empty_of : Who → List Who → Option Slot
empty_of who lives = if is_among who lives then Some (empty who) else None

-- The slots once this life has one too: a new one stands in its place, without replies.
abbrev pub with_life : Who → List Slot → List Slot
with_life who [] = empty who ∷ []
with_life who (slot ∷ slots) =
    if is_before slot.who who then slot ∷ with_life who slots
    else if is_of who slot then slot ∷ slots
    else empty who ∷ slot ∷ slots

-- A slot once this reply is kept for the tag.
abbrev pub with_tag : ℕ → Reply → Slot → Slot
with_tag tag reply slot = record slot { replies = slice_set slot.replies tag (Some reply) }

-- The slots once this reply is kept for this life and tag; the same where the life has no slot.
abbrev pub with_reply : Who → ℕ → Reply → List Slot → List Slot
with_reply who tag reply [] = []
with_reply who tag reply (slot ∷ slots) =
    if is_of who slot then with_tag tag reply slot ∷ slots
    else slot ∷ with_reply who tag reply slots

-- The slots once this life has none.
abbrev pub without_life : Who → List Slot → List Slot
without_life who [] = []
without_life who (slot ∷ slots) = if is_of who slot then slots else slot ∷ without_life who slots

-- The slots once these lives have one too, once these replies are kept, and once these lives have none.
abbrev pub with_lives : List Who → List Slot → List Slot
with_lives lives slots = fold (λ slots who. with_life who slots) slots lives

abbrev pub with_replies : List KeptReply → List Slot → List Slot
with_replies replies slots = fold (λ slots kept. with_reply kept.who kept.tag kept.reply slots) slots replies

abbrev pub without_lives : List Who → List Slot → List Slot
without_lives lives slots = fold (λ slots who. without_life who slots) slots lives

-- The replies that these slots keep, by life and then by tag.
abbrev pub tagged : Who → ℕ → List (Option Reply) → List KeptReply
tagged who tag [] = []
tagged who tag (None ∷ replies) = tagged who (tag + 1) replies
tagged who tag (Some reply ∷ replies) = record { who = who; tag = tag; reply = reply } ∷ tagged who (tag + 1) replies

abbrev pub kept_in : List Slot → List KeptReply
kept_in slots = flat_map (λ slot. tagged slot.who 0 slot.replies) slots

-- How the code keeps the slots: each under its life, these in order, and each with eight tags.
pub record IsByLife (entries : List (Who × Slot)) : Type 0 where
  pub keyed : All (λ entry. entry.0 ≡ entry.1.who) entries
  pub rising : AllPairs (λ earlier later. is_before earlier later ≡ true) (lives_of (values_of entries))
  pub tags : All (λ slot. length slot.replies ≡ tag_count) (values_of entries)
