-- A target's journal: the transactions that aren't on its disk, and a slot for each life that it serves (Lustre
-- Operations Manual, recovery: transaction numbers, and the last reply of each client).
use Rattle.std.specs.Prelude.{◌≡◌, ℕ, ◌+◌, ◌-◌, ◌*◌, ◌^◌, ◌<◌, ◌≤◌, ◌==◌, ◌&&◌, nat_le, not, Bool, true, false, List, [], ◌∷◌, ◌++◌, length}
use Rattle.std.specs.Prelude.{filter, All, AllPairs, Option, Some, None}
use Rattle.lu_base.specs.declared.ids.Txn.{Txn}
use Rattle.lu_base.specs.declared.ids.Who.{Who}
use Rattle.lu_base.specs.declared.ids.Xid.{Xid}
use Rattle.lu_msg.specs.declared.operations.Op.{Op}
use Rattle.lu_msg.specs.declared.messages.Reply.{Reply}
use Rattle.lu_part.specs.declared.parts.Part.{Part}
use Rattle.lu_txn.specs.declared.logs.Logged.{Logged}
use Rattle.lu_txn.specs.declared.slots.Slot.{Slot}
use Rattle.lu_txn.specs.declared.journals.Seen.{Seen}
use Rattle.lu_txn.specs.declared.journals.Seen.TheVariants.{New, Again, Old}
use Rattle.lu_msg.specs.Limits.{tag_count}
use Rattle.lu_txn.specs.Slots.{same_life, is_before, lives_of, with_life, without_life, with_lives, with_reply}
use Rattle.lu_txn.specs.Logs.{number}

-- the target's boot, and whether it is on the disk; the greatest number so far and the greatest that is on the disk (0
-- where there is none); the transactions that aren't committed in rising number; the slots by client and then by life;
-- the lives whose slots came and went since the last commit; all lives whose slots went, in the order in which they did
pub record JournalState : Type 0 where
  pub boot : ℕ
  pub boot_stored : Bool
  pub newest : ℕ
  pub committed : ℕ
  pub transactions : List Logged
  pub slots : List Slot
  pub added : List Who
  pub dropped : List Who
  pub removed : List Who

-- The empty journal of the first boot: these lives have slots without replies. Nothing of it is on the disk.
abbrev pub fresh : List Who → JournalState
fresh lives =
    record {
      boot = 1;
      boot_stored = false;
      newest = 0;
      committed = 0;
      transactions = [];
      slots = with_lives lives [];
      added = lives_of (with_lives lives []);
      dropped = [];
      removed = [];
    }

-- How many numbers of this boot are given: a number is the boot times 2^32 and a count from 1. It is 0 while the
-- newest number is of a lower boot.
abbrev pub count : JournalState → ℕ
count journal = journal.newest - journal.boot * 2 ^ 32

-- How many numbers a boot has.
abbrev pub most_numbers : ℕ
most_numbers = 2 ^ 32 - 1

-- A transaction as it is kept.
abbrev pub logged : Txn → Who → ℕ → Op → List Part → Reply → Logged
logged txn who tag op writes reply =
    record {
      transaction = record { txn = txn; who = who; xid = reply.xid; tag = tag; op = op };
      writes = writes;
      reply = reply;
    }

-- The journal with one transaction more, whose reply is kept in the slot of its life and tag.
abbrev pub appended : Txn → Who → ℕ → Op → List Part → Reply → JournalState → JournalState
appended txn who tag op writes reply journal =
    record journal {
      newest = txn.0;
      transactions = journal.transactions ++ logged txn who tag op writes reply ∷ [];
      slots = with_reply who tag reply journal.slots;
    }

-- The journal once this life has a slot, and once it has none.
abbrev pub with_slot : Who → JournalState → JournalState
with_slot who journal =
    record journal { slots = with_life who journal.slots; added = journal.added ++ who ∷ [] }

abbrev pub without_slot : Who → JournalState → JournalState
without_slot who journal =
    record journal {
      slots = without_life who journal.slots;
      added = filter (λ life. not (same_life life who)) journal.added;
      dropped = journal.dropped ++ who ∷ [];
      removed = journal.removed ++ who ∷ [];
    }

-- A life that went is of this client, and isn't older than this one.
abbrev pub is_over : Who → Who → Bool
is_over who gone = gone.client == who.client && nat_le who.life gone.life

-- What a request's number says beside the reply in its slot: it is new where it is above the reply's, or there is no
-- reply; it comes again where they are equal, with that reply; it is old where it is below.
abbrev pub IsSeen : Option Reply → Xid → Seen → Type 0
IsSeen None xid seen = seen ≡ New
IsSeen (Some reply) xid New = reply.xid.0 < xid.0
IsSeen (Some reply) xid (Again again) = (xid ≡ reply.xid) × (again.now ≡ reply)
IsSeen (Some reply) xid Old = xid.0 < reply.xid.0

-- What holds of every journal: no number is of a higher boot; the numbers of the transactions rise up to the newest and
-- are above the committed one; their tags are 0 to 7; the lives of the slots are in order, so each has one; each slot has
-- eight tags.
pub record IsSound (journal : JournalState) : Type 0 where
  pub boot : journal.boot < 2 ^ 32
  pub newest : journal.newest < (journal.boot + 1) * 2 ^ 32
  pub committed : journal.committed ≤ journal.newest
  pub rising : AllPairs (λ earlier later. number earlier < number later) journal.transactions
  pub given : All (λ logged. number logged ≤ journal.newest) journal.transactions
  pub uncommitted : All (λ logged. journal.committed < number logged) journal.transactions
  pub tagged : All (λ logged. logged.transaction.tag < tag_count) journal.transactions
  pub lives : AllPairs (λ earlier later. is_before earlier later ≡ true) (lives_of journal.slots)
  pub tags : All (λ slot. length slot.replies ≡ tag_count) journal.slots
