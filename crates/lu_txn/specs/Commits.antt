-- What goes to the disk at once, and a journal after it (Lustre Operations Manual, recovery: transactions are committed
-- some time after they were answered, and the disk keeps the last reply of each client; what a batch holds is this
-- project's profile).
use Rattle.std.specs.Prelude.{ℕ, ◌==◌, ◌&&◌, Bool, true, List, [], ◌∷◌, map, Option, Some, None, if◌then◌else◌}
use Rattle.std.specs.List.{fold}
use Rattle.lu_base.specs.declared.ids.Who.{Who}
use Rattle.lu_msg.specs.declared.commits.Batch.{Batch}
use Rattle.lu_msg.specs.declared.commits.KeptReply.{KeptReply}
use Rattle.lu_msg.specs.declared.commits.Transaction.{Transaction}
use Rattle.lu_msg.specs.declared.messages.Reply.{Reply}
use Rattle.lu_txn.specs.declared.logs.Logged.{Logged}
use Rattle.lu_txn.specs.declared.slots.Slot.{Slot}
use Rattle.lu_txn.specs.Slots.{same_life, with_life, with_reply, kept_in}
use Rattle.lu_txn.specs.Logs.{up_to, above}
use Rattle.lu_txn.specs.Journals.{JournalState}

-- The slots that these transactions alone fill: each life and tag has the reply of its last one.
abbrev pub filled_by : List Logged → List Slot
filled_by transactions =
    fold
    (λ slots logged.
    with_reply logged.transaction.who logged.transaction.tag logged.reply (with_life logged.transaction.who slots))
    [] transactions

-- The last replies, by life and then by tag.
abbrev pub last_replies : List Logged → List KeptReply
last_replies transactions = kept_in (filled_by transactions)

-- The reply that a list of replies has for this life and tag.
abbrev pub is_for : Who → ℕ → KeptReply → Bool
is_for who tag kept = same_life kept.who who && tag == kept.tag

abbrev pub reply_for : Who → ℕ → List KeptReply → Option Reply
reply_for who tag [] = None
reply_for who tag (kept ∷ replies) = if is_for who tag kept then Some kept.reply else reply_for who tag replies

-- The reply of the last of these transactions that is of this life and tag.
abbrev pub is_made_by : Who → ℕ → Logged → Bool
is_made_by who tag logged = same_life who logged.transaction.who && tag == logged.transaction.tag

abbrev pub last_reply : Who → ℕ → List Logged → Option Reply
last_reply who tag transactions =
    fold (λ found logged. if is_made_by who tag logged then Some logged.reply else found) None transactions

-- The batch that commits all up to this number: the boot where it isn't on the disk yet, these transactions with the
-- last reply of each life and tag, and all lives whose slots came or went.
abbrev pub batch_of : ℕ → JournalState → Batch
batch_of to journal =
    record {
      boot = if journal.boot_stored then 0 else journal.boot;
      transactions = map {A = Logged} {B = Transaction} (λ logged. logged.transaction) (up_to to journal.transactions);
      replies = last_replies (up_to to journal.transactions);
      added = journal.added;
      removed = journal.dropped;
    }

-- The journal once that batch is on the disk.
abbrev pub after_commit : ℕ → JournalState → JournalState
after_commit to journal =
    record journal {
      boot_stored = true;
      committed = to;
      transactions = above to journal.transactions;
      added = [];
      dropped = [];
    }
