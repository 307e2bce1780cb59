-- What a target's journal shows of the state that the rows read. While the target serves that is all that the journal
-- has; while it recovers, the log and the slots are those of the disk, and the rows read neither.
use Rattle.std.specs.Prelude.{◌≡◌, ℕ, ◌+◌, ◌==◌, ◌&&◌, if◌then◌else◌, Bool, true, false, ⊤, ◌<◌, List, [], ◌∷◌, map, Option, Some, None}
use Rattle.std.specs.List.{list_any}
use Rattle.lu_base.specs.declared.ids.Who.{Who}
use Rattle.lu_msg.specs.declared.commits.Transaction.{Transaction}
use Rattle.lu_msg.specs.declared.commits.Batch.{Batch}
use Rattle.lu_msg.specs.declared.commits.KeptReply.{KeptReply}
use Rattle.lu_msg.specs.Limits.{tag_count}
use Rattle.lu_msg.specs.declared.messages.Reply.{Reply}
use Rattle.lu_spec_entries.specs.Carried.{Deed, Slot, LifeSlot}
use Rattle.lu_spec_entries.specs.Words.{same_life}
use Rattle.lu_txn.specs.declared.logs.Logged.{Logged}
use Rattle.lu_txn.specs.Slots.{lives_of, reply_at}
use Rattle.lu_txn.specs.Journals.{JournalState, count}
use Rattle.lu_txn.specs.Journals as journal
use Rattle.lu_txn.specs.declared.slots.Slot.{Slot as SlotOf}
use Rattle.lu_txn.specs.Loads.{AreBelow}
use Rattle.lu_spec_target.specs.Phase.{first_of}
use Rattle.lu_spec_target.specs.Lives.{is_life, with_lives, without_lives, no_slot, slot_in}
use Rattle.lu_spec_target.specs.Stored.{transaction_of, last_number}
use Rattle.lu_spec_target.specs.States.{Target, empty_disk}
use Rattle.lu_spec_target.specs.Leaving.{is_over}
use Rattle.lu_spec_target.specs.Disks.{loaded_on}

-- a transaction of the log as the journal keeps it
abbrev pub logged_of : Deed → Logged
logged_of d = record { transaction = transaction_of d; writes = d.writes; reply = d.reply }

-- ---- the newest request of a life and tag

-- The number of the newest one that was taken since the target serves, and whether a request of that life and tag was
-- answered since.
pub record Taken : Type 0 where
  pub xid : ℕ
  pub answered : Bool

-- of each life and tag, none where no request was taken
abbrev pub TakenBy : Type 0
TakenBy = Who → ℕ → Option Taken

-- where none was taken, the request of the kept reply is the newest
abbrev pub slot_shown : Option Taken → Option Reply → Slot
slot_shown None None = no_slot
slot_shown None (Some reply) = record { taken = reply.xid.0; reply = Some reply }
slot_shown (Some t) reply = record { taken = t.xid; reply = if t.answered then reply else None }

-- the slots of the rows are those of the journal, beside what was taken
abbrev pub AreShown : TakenBy → List SlotOf → List LifeSlot → Type 0
AreShown taken slots own = (who : Who) (tag : ℕ) → slot_in own who tag ≡ slot_shown (taken who tag) (reply_at who tag slots)

-- ---- what was taken, once a request of this life, tag and number came

abbrev pub IsEntered : Who → (tag xid : ℕ) → (old new : TakenBy) → Type 0
IsEntered who tag xid old new =
    (other : Who) (t : ℕ)
    → new other t ≡ (if same_life other who && t == tag then Some (record { xid = xid; answered = false }) else old other t)

-- once a request of this life and tag was answered
abbrev pub answered : Option Taken → Option Taken
answered None = None
answered (Some t) = Some (record { xid = t.xid; answered = true })

abbrev pub IsAnswered : Who → (tag : ℕ) → (old new : TakenBy) → Type 0
IsAnswered who tag old new =
    (other : Who) (t : ℕ) → new other t ≡ (if same_life other who && t == tag then answered (old other t) else old other t)

-- once these lives left
abbrev pub IsWithout : List Who → (old new : TakenBy) → Type 0
IsWithout gone old new = (other : Who) (t : ℕ) → new other t ≡ (if is_life other gone then None else old other t)

-- nothing was taken
abbrev pub IsUntaken : TakenBy → Type 0
IsUntaken taken = (who : Who) (tag : ℕ) → taken who tag ≡ None

-- ---- the journal in every phase

-- boots are counted from 1
pub record ShowsBoot (j : JournalState) (v : Target) : Type 0 where
  pub boot : v.boot ≡ j.boot
  pub begun : 0 < j.boot
  pub number : v.number ≡ first_of j.boot + count j
  pub lives : v.lives ≡ lives_of j.slots
  pub over : (who : Who) → list_any (is_over who) v.removed ≡ list_any (journal.is_over who) j.removed
  pub committed : v.committed ≡ j.committed

-- the boot is on the disk, and so is each life that came or went
pub record IsSettled (j : JournalState) : Type 0 where
  pub stored : j.boot_stored ≡ true
  pub added : j.added ≡ []
  pub dropped : j.dropped ≡ []

-- ---- while it recovers: there is no log, and the slots are those of the disk

pub record ShowsWindow (j : JournalState) (v : Target) : Type 0 where
  pub booted : ShowsBoot j v
  pub settled : IsSettled j
  pub none_yet : count j ≡ 0
  pub log : j.transactions ≡ []
  pub slots : (who : Who) (tag : ℕ) → slot_in v.disk.slots who tag ≡ slot_shown None (reply_at who tag j.slots)

-- ---- while it serves

-- the lives of these transactions have slots
abbrev pub AreHeld : List Who → List Deed → Type 0
AreHeld lives [] = ⊤
AreHeld lives (d ∷ deeds) = (is_life d.reply.who lives ≡ true) × AreHeld lives deeds

-- The numbers of these transactions are above 1, which a new service of names has used: no boot has a number so low.
abbrev pub AreLate : List Deed → Type 0
AreLate [] = ⊤
AreLate (d ∷ deeds) = (1 < d.reply.txn.0) × AreLate deeds

pub record ShowsJournal (taken : TakenBy) (j : JournalState) (v : Target) : Type 0 where
  pub booted : ShowsBoot j v
  pub settled : IsSettled j
  pub log : j.transactions ≡ map logged_of v.log
  pub slots : AreShown taken j.slots v.slots
  pub held : AreHeld v.lives v.log
  pub late : AreLate v.log

-- ---- the disk

-- the numbers of transactions rise, from above this one on
abbrev pub AreRising : ℕ → List Transaction → Type 0
AreRising n [] = ⊤
AreRising n (t ∷ ts) = (n < t.txn.0) × AreRising t.txn.0 ts

abbrev pub AllRising : ℕ → List Batch → Type 0
AllRising n [] = ⊤
AllRising n (batch ∷ batches) = AreRising n batch.transactions × AllRising (last_number batch.transactions n) batches

-- the number of the last transaction of these batches, or the one before them
abbrev pub last_in : ℕ → List Batch → ℕ
last_in n [] = n
last_in n (batch ∷ batches) = last_in (last_number batch.transactions n) batches

-- the replies are of tags that there are, and of lives that have slots
abbrev pub AreOf : List Who → List KeptReply → Type 0
AreOf lives [] = ⊤
AreOf lives (k ∷ kept) = ((k.tag < tag_count) × (is_life k.who lives ≡ true)) × AreOf lives kept

abbrev pub AllOf : List Who → List Batch → Type 0
AllOf lives [] = ⊤
AllOf lives (batch ∷ batches) =
    AreOf (with_lives batch.added lives) batch.replies × AllOf (with_lives batch.added (without_lives batch.removed lives)) batches

-- what stands on the disk is what its batches tell: their transactions rise, from above 1, which a new service of names has
-- used, and are of no later boot; and their replies are of lives that have slots
pub record ShowsDisk (batches : List Batch) (v : Target) : Type 0 where
  pub disk : v.disk ≡ loaded_on v.setting.osts empty_disk batches
  pub boot : v.disk.boot ≡ v.boot
  pub committed : v.disk.committed ≡ v.committed
  pub lives : v.disk.lives ≡ v.lives
  pub over : (who : Who) → list_any (is_over who) v.disk.removed ≡ list_any (is_over who) v.removed
  pub rising : AllRising 1 batches
  pub below : AreBelow (v.boot + 1) batches
  pub replies : AllOf [] batches
