-- What a target's operations work on, its log of transactions that aren't on the disk, and the disk (Lustre Operations
-- Manual, recovery: transactions are committed some time after they were answered; what a batch holds is this project's
-- profile). After a crash contents and log stand unread until the close of the window makes them anew from the disk.
use Rattle.std.specs.Prelude.{ℕ, max, nat_lt, ◌==◌, ◌&&◌, ◌||◌, if◌then◌else◌, Bool, true, false, List, [], ◌∷◌, ◌++◌, filter, map}
use Rattle.lu_base.specs.declared.ids.Who.{Who}
use Rattle.lu_base.specs.declared.locks.Resource.{Resource}
use Rattle.lu_held.specs.Locks.{same_resource}
use Rattle.lu_spec_machine.specs.Footprint.{Operation, after, forget}
use Rattle.lu_spec_machine.specs.Objects.{Object, object_after}
use Rattle.lu_msg.specs.declared.commits.Batch.{Batch}
use Rattle.lu_msg.specs.declared.commits.KeptReply.{KeptReply}
use Rattle.lu_msg.specs.declared.commits.Transaction.{Transaction}
use Rattle.lu_msg.specs.declared.operations.Op.{Op}
use Rattle.lu_msg.specs.declared.operations.Op.TheVariants as op
use Rattle.lu_spec_entries.specs.Carried.{Deed, Contents, Disk}
use Rattle.lu_spec_entries.specs.Words.{Entry, Txn, Commit, Boot, Close, same_life}
use Rattle.lu_spec_target.specs.Lives.{life_before, with_lives, without_lives, slots_kept, slots_without}

-- ---- contents: a transaction changes the tree, or the object that it names

abbrev pub object_in : List (Resource × Object) → Resource → Object
object_in [] r = []
object_in (e ∷ objects) r = if same_resource e.0 r then e.1 else object_in objects r

abbrev pub with_object : Resource → Object → List (Resource × Object) → List (Resource × Object)
with_object r object [] = (r, object) ∷ []
with_object r object (e ∷ objects) = if same_resource e.0 r then (e.0, object) ∷ objects else e ∷ with_object r object objects

abbrev pub transaction_of : Deed → Transaction
transaction_of d = record { txn = d.reply.txn; who = d.reply.who; xid = d.reply.xid; tag = d.tag; op = d.op }

abbrev pub operation_of : Transaction → Operation
operation_of t = record { number = t.txn; who = t.who; op = t.op }

abbrev pub on_object : Resource → Op → Contents → Contents
on_object r o c = record c { objects = with_object r (object_after o (object_in c.objects r)) c.objects }

abbrev pub done_by : ℕ → Transaction → Contents → Op → Contents
done_by osts t c (op.Put r cookie offset bytes) = on_object r (op.Put r cookie offset bytes) c
done_by osts t c (op.Cut r cookie size) = on_object r (op.Cut r cookie size) c
done_by osts t c o = record c { tree = after osts c.tree (operation_of t) }

abbrev pub done : ℕ → Contents → Transaction → Contents
done osts c t = done_by osts t c t.op

abbrev pub all_done : ℕ → List Transaction → Contents → Contents
all_done osts [] c = c
all_done osts (t ∷ ts) c = all_done osts ts (done osts c t)

-- the opens of these lives go
abbrev pub forgotten : List Who → Contents → Contents
forgotten [] c = c
forgotten (who ∷ gone) c = forgotten gone (record c { tree = forget c.tree who })

abbrev pub reads_contents : Entry → Bool
reads_contents (Txn d) = true
reads_contents (Commit to batch) = true
reads_contents (Close o) = true
reads_contents _ = false

abbrev pub contents_after : ℕ → Contents → Entry → Contents
contents_after osts c (Txn d) = done osts c (transaction_of d)
contents_after osts c (Commit to batch) = forgotten batch.removed c
contents_after osts c (Close o) = o.disk.contents
contents_after osts c _ = c

-- ---- the log, in rising number, and the number up to which all is on the disk

abbrev pub reads_log : Entry → Bool
reads_log (Txn d) = true
reads_log (Commit to batch) = true
reads_log (Close o) = true
reads_log _ = false

abbrev pub log_after : List Deed → Entry → List Deed
log_after log (Txn d) = log ++ d ∷ []
log_after log (Commit to batch) = filter (λ d. nat_lt to d.reply.txn.0) log
log_after log (Close o) = []
log_after log _ = log

abbrev pub reads_committed : Entry → Bool
reads_committed (Commit to batch) = true
reads_committed (Boot boot disk) = true
reads_committed (Close o) = true
reads_committed _ = false

abbrev pub committed_after : ℕ → Entry → ℕ
committed_after m (Commit to batch) = to
committed_after m (Boot boot disk) = disk.committed
committed_after m (Close o) = o.disk.committed
committed_after m _ = m

-- ---- batches

-- the replies that go to the disk: of each life and tag the last one, by life and then by tag
abbrev pub same_kept : KeptReply → KeptReply → Bool
same_kept a b = same_life a.who b.who && a.tag == b.tag

abbrev pub kept_before : KeptReply → KeptReply → Bool
kept_before a b = life_before a.who b.who || (same_life a.who b.who && nat_lt a.tag b.tag)

abbrev pub with_kept : KeptReply → List KeptReply → List KeptReply
with_kept k [] = k ∷ []
with_kept k (x ∷ kept) = if same_kept k x then k ∷ kept else (if kept_before k x then k ∷ x ∷ kept else x ∷ with_kept k kept)

abbrev pub replies_of : List Deed → List KeptReply → List KeptReply
replies_of [] kept = kept
replies_of (d ∷ ds) kept = replies_of ds (with_kept (record { who = d.reply.who; tag = d.tag; reply = d.reply }) kept)

-- these transactions, with lives that leave and lives that come; the boot stays
abbrev pub batch_of : List Deed → (removed added : List Who) → Batch
batch_of deeds removed added =
    record {
      boot = 0;
      transactions = map {A = Deed} {B = Transaction} transaction_of deeds;
      replies = replies_of deeds [];
      added = added;
      removed = removed;
    }

-- ---- the disk

abbrev pub last_number : List Transaction → ℕ → ℕ
last_number [] n = n
last_number (t ∷ ts) n = last_number ts t.txn.0

-- the transactions of a batch that aren't on the disk yet
abbrev pub news : Disk → Batch → List Transaction
news disk batch = filter (λ t. nat_lt disk.committed t.txn.0) batch.transactions

-- what stands on the disk once a batch is there too: first its transactions, then the lives that leave, then those that
-- come; a batch that is there already adds nothing
abbrev pub stored : ℕ → Batch → Disk → Disk
stored osts batch disk =
    record {
      boot = max disk.boot batch.boot;
      contents = forgotten batch.removed (all_done osts (news disk batch) disk.contents);
      committed = last_number (news disk batch) disk.committed;
      lives = with_lives batch.added (without_lives batch.removed disk.lives);
      removed = with_lives batch.removed disk.removed;
      slots = slots_without batch.removed (slots_kept batch.replies disk.slots);
    }

abbrev pub reads_disk : Entry → Bool
reads_disk (Commit to batch) = true
reads_disk (Boot boot disk) = true
reads_disk _ = false

-- a boot is committed as it begins
abbrev pub disk_after : ℕ → Disk → Entry → Disk
disk_after osts disk (Commit to batch) = stored osts batch disk
disk_after osts disk (Boot boot loaded) = record loaded { boot = boot }
disk_after osts disk _ = disk
