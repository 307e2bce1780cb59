-- The lives that have a slot at a target, those that had one, and the slots: for each life and tag the newest request taken
-- and the reply to it (Lustre Operations Manual, recovery: the last reply of each client; tags are those of its multiple
-- modifying requests). A life leaves at the commit or close that takes its slot, and then all that it had goes.
use Rattle.std.specs.Prelude.{ℕ, nat_lt, ◌==◌, ◌&&◌, ◌||◌, not, if◌then◌else◌, Bool, true, false, List, [], ◌∷◌, filter, map, Option, Some}
use Rattle.std.specs.Prelude.{None}
use Rattle.std.specs.List.{list_any}
use Rattle.lu_base.specs.declared.ids.Who.{Who}
use Rattle.lu_msg.specs.declared.commits.KeptReply.{KeptReply}
use Rattle.lu_msg.specs.declared.messages.Request.{Request as RequestOf}
use Rattle.lu_spec_entries.specs.Carried.{Deed, Slot, LifeSlot, Gone}
use Rattle.lu_spec_entries.specs.Words.{Entry, Act, Txn, Grant, Wait, Commit, Boot, Close, Enters, Answers, same_life}

-- ---- lists of lives: by client and then by life, each once

abbrev pub is_life : Who → List Who → Bool
is_life who lives = list_any (same_life who) lives

abbrev pub life_before : Who → Who → Bool
life_before a b = nat_lt a.client b.client || (a.client == b.client && nat_lt a.life b.life)

abbrev pub with_life : Who → List Who → List Who
with_life who [] = who ∷ []
with_life who (w ∷ lives) = if same_life who w then w ∷ lives else (if life_before who w then who ∷ w ∷ lives else w ∷ with_life who lives)

abbrev pub with_lives : List Who → List Who → List Who
with_lives [] lives = lives
with_lives (who ∷ more) lives = with_lives more (with_life who lives)

abbrev pub without_lives : List Who → List Who → List Who
without_lives gone lives = filter (λ w. not (is_life w gone)) lives

abbrev pub lives_of : List Gone → List Who
lives_of gone = map {A = Gone} {B = Who} (λ g. g.who) gone

-- ---- who has a slot, and who had one here

abbrev pub reads_lives : Entry → Bool
reads_lives (Commit to batch) = true
reads_lives (Boot boot disk) = true
reads_lives (Close o) = true
reads_lives _ = false

abbrev pub lives_after : List Who → Entry → List Who
lives_after lives (Commit to batch) = with_lives batch.added (without_lives batch.removed lives)
lives_after lives (Boot boot disk) = disk.lives
lives_after lives (Close o) = o.disk.lives
lives_after lives _ = lives

abbrev pub reads_removed : Entry → Bool
reads_removed (Commit to batch) = true
reads_removed (Boot boot disk) = true
reads_removed (Close o) = true
reads_removed _ = false

abbrev pub removed_after : List Who → Entry → List Who
removed_after removed (Commit to batch) = with_lives batch.removed removed
removed_after removed (Boot boot disk) = disk.removed
removed_after removed (Close o) = o.disk.removed
removed_after removed _ = removed

-- ---- slots

abbrev pub no_slot : Slot
no_slot = record { taken = 0; reply = None }

abbrev pub is_slot_of : Who → ℕ → LifeSlot → Bool
is_slot_of who tag s = same_life s.who who && s.tag == tag

abbrev pub slot_in : List LifeSlot → Who → ℕ → Slot
slot_in [] who tag = no_slot
slot_in (s ∷ slots) who tag = if is_slot_of who tag s then s.slot else slot_in slots who tag

abbrev pub with_slot : Who → ℕ → Slot → List LifeSlot → List LifeSlot
with_slot who tag slot [] = record { who = who; tag = tag; slot = slot } ∷ []
with_slot who tag slot (s ∷ slots) =
    if is_slot_of who tag s then record { who = who; tag = tag; slot = slot } ∷ slots else s ∷ with_slot who tag slot slots

abbrev pub slots_without : List Who → List LifeSlot → List LifeSlot
slots_without gone slots = filter (λ s. not (is_life s.who gone)) slots

-- a request is taken: its number is the newest, and it isn't answered
abbrev pub slots_entered : RequestOf → List LifeSlot → List LifeSlot
slots_entered r slots = with_slot r.who r.tag (record { taken = r.xid.0; reply = None }) slots

-- a request acted, and its reply is kept
abbrev pub slots_answered : Deed → List LifeSlot → List LifeSlot
slots_answered d slots = with_slot d.reply.who d.tag (record { taken = (slot_in slots d.reply.who d.tag).taken; reply = Some d.reply })
    slots

-- a lock that had waited answers no request
abbrev pub slots_granted : Option Deed → List LifeSlot → List LifeSlot
slots_granted None slots = slots
slots_granted (Some d) slots = slots_answered d slots

-- these replies stand in the slots of their lives and tags
abbrev pub slots_kept : List KeptReply → List LifeSlot → List LifeSlot
slots_kept [] slots = slots
slots_kept (k ∷ kept) slots = slots_kept kept (with_slot k.who k.tag (record { taken = k.reply.xid.0; reply = Some k.reply }) slots)

abbrev pub reads_slots : Entry → Bool
reads_slots (Enters r) = true
reads_slots (Act d) = true
reads_slots (Txn d) = true
reads_slots (Grant lock asked) = true
reads_slots (Wait lock asked) = true
reads_slots (Answers d) = true
reads_slots (Commit to batch) = true
reads_slots (Close o) = true
reads_slots _ = false

abbrev pub slots_after : List LifeSlot → Entry → List LifeSlot
slots_after slots (Enters r) = slots_entered r slots
slots_after slots (Act d) = slots_answered d slots
slots_after slots (Txn d) = slots_answered d slots
slots_after slots (Grant lock asked) = slots_granted asked slots
slots_after slots (Wait lock asked) = slots_answered asked slots
slots_after slots (Answers d) = slots_answered d slots
slots_after slots (Commit to batch) = slots_without batch.removed slots
slots_after slots (Close o) = o.disk.slots
slots_after slots _ = slots
