-- What the batches on a disk tell of a target's journal (Lustre Operations Manual, recovery; what a batch holds is this
-- project's profile).
use Rattle.std.specs.Prelude.{ℕ, ◌*◌, ◌^◌, ◌<◌, false, List, [], ◌++◌, All}
use Rattle.std.specs.List.{fold}
use Rattle.lu_base.specs.declared.ids.Who.{Who}
use Rattle.lu_msg.specs.declared.commits.Batch.{Batch}
use Rattle.lu_msg.specs.declared.commits.Transaction.{Transaction}
use Rattle.lu_txn.specs.declared.slots.Slot.{Slot}
use Rattle.lu_txn.specs.Slots.{with_lives, with_replies, without_lives}
use Rattle.lu_txn.specs.Journals.{JournalState}

-- the last number (0 where there is none), the slots, and the lives whose slots went
pub record Stored : Type 0 where
  pub committed : ℕ
  pub slots : List Slot
  pub removed : List Who

abbrev pub nothing : Stored
nothing = record { committed = 0; slots = []; removed = [] }

-- The number of the last of these transactions, or the number before them.
abbrev pub last_number : ℕ → List Transaction → ℕ
last_number before transactions = fold (λ number transaction. transaction.txn.0) before transactions

-- One batch more: replies are kept for the lives that come and those that are there; those that leave go with all that
-- they had; one that leaves and comes has a slot without replies.
abbrev pub with_batch : Stored → Batch → Stored
with_batch stored batch =
    record {
      committed = last_number stored.committed batch.transactions;
      slots =
          with_lives batch.added (without_lives batch.removed (with_replies batch.replies (with_lives batch.added stored.slots)));
      removed = stored.removed ++ batch.removed;
    }

abbrev pub stored_by : List Batch → Stored
stored_by batches = fold with_batch nothing batches

-- The journal of this boot over these batches: all that they tell is on the disk, the boot isn't.
abbrev pub loaded : List Batch → ℕ → JournalState
loaded batches boot =
    record {
      boot = boot;
      boot_stored = false;
      newest = (stored_by batches).committed;
      committed = (stored_by batches).committed;
      transactions = [];
      slots = (stored_by batches).slots;
      added = [];
      dropped = [];
      removed = (stored_by batches).removed;
    }

-- All transactions are of boots below this one.
abbrev pub AreBelow : ℕ → List Batch → Type 0
AreBelow boot batches = All (λ batch. All (λ transaction. transaction.txn.0 < boot * 2 ^ 32) batch.transactions) batches
