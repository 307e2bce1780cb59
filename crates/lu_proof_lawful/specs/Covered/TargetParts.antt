-- What each part of a target is after one of its entries. Each part has a step of its own, entry by entry, and a test
-- which entries it reads; both have a catch-all last. A life leaves with its line `evict`, and then all that it had goes; the rows
-- take it away with the commit before that line, in the same turn. At a close all is as its outcome says, and the lines that show
-- it leave that as it is.
use Rattle.std.specs.Prelude.{ℕ, ◌+◌, max, Bool, true, false, not, ◌==◌, ◌&&◌, nat_lt, if◌then◌else◌, List, [], ◌∷◌, ◌++◌, filter, Option}
use Rattle.std.specs.Prelude.{Some, None}
use Rattle.lu_base.specs.declared.ids.Txn.{Txn as TxnOf}
use Rattle.lu_base.specs.declared.ids.Who.{Who}
use Rattle.lu_msg.specs.declared.messages.Request.{Request as RequestOf}
use Rattle.lu_spec_machine.specs.Tree.{Tree}
use Rattle.lu_spec_machine.specs.Footprint.{Operation, after, empty, forget}
use Rattle.lu_spec_machine.specs.Objects.{Object}
use Rattle.lu_spec_entries.specs.Carried.{Deed, Slot, Glimpse}
use Rattle.lu_spec_entries.specs.Words.{Entry, Act, Txn, Grant, Wait, Answers, Asks, Ends, Commit, Crash, Boot, Close, Restore, Enters}
use Rattle.lu_spec_entries.specs.Words.{Block, Release, Evict, Joined, same_life}
use Rattle.lu_base.specs.declared.locks.Lock.{Lock}
use Rattle.lu_base.specs.declared.locks.Resource.{Resource}
use Rattle.lu_spec_entries.specs.Carried.{Called}
use Rattle.lu_spec_target.specs.Phase.{first_of, greatest_cookie}
use Rattle.lu_spec_target.specs.Lives.{is_life, with_life, without_lives, slot_in}
use Rattle.lu_spec_target.specs.Locks.{with_lock, with_locks, without_lock, locks_without, called_without, same_glimpse}
use Rattle.lu_spec_target.specs.Stored.{done_by, transaction_of}

-- ---- the boot, and the number up to which all is on the disk

abbrev pub reads_boot : Entry → Bool
reads_boot (Boot boot disk) = true
reads_boot _ = false

abbrev pub boot_after : ℕ → Entry → ℕ
boot_after n (Boot boot disk) = boot
boot_after n _ = n

abbrev pub reads_committed : Entry → Bool
reads_committed (Commit to batch) = true
reads_committed (Close o) = true
reads_committed _ = false

abbrev pub committed_after : TxnOf → Entry → TxnOf
committed_after m (Commit to batch) = record { 0 = to }
committed_after m (Close o) = record { 0 = o.disk.committed }
committed_after m _ = m

-- ---- how many transactions this boot has made

abbrev pub reads_count : Entry → Bool
reads_count (Txn d) = true
reads_count (Boot boot disk) = true
reads_count _ = false

abbrev pub count_after : ℕ → Entry → ℕ
count_after n (Txn d) = n + 1
count_after n (Boot boot disk) = 0
count_after n _ = n

-- ---- the tree of the metadata target

-- the operation of a deed, under its number
abbrev pub operation : Deed → Operation
operation d = record { number = d.reply.txn; who = d.reply.who; op = d.op }

abbrev pub reads_tree : Entry → Bool
reads_tree (Txn d) = true
reads_tree (Evict who cause) = true
reads_tree (Close o) = true
reads_tree _ = false

abbrev pub tree_after : ℕ → Tree → Entry → Tree
tree_after osts t (Txn d) = after osts t (operation d)
tree_after osts t (Evict who cause) = forget t who
tree_after osts t (Close o) = o.disk.contents.tree
tree_after osts t _ = t

-- ---- the transactions that aren't on the disk, in rising number

abbrev pub reads_log : Entry → Bool
reads_log (Txn d) = true
reads_log (Commit to batch) = true
reads_log (Close o) = true
reads_log _ = false

abbrev pub log_after : List Deed → Entry → List Deed
log_after log (Txn d) = log ++ d ∷ []
log_after log (Commit to batch) = filter (λ d. nat_lt to d.reply.txn.0) log
log_after log (Close o) = []
log_after log _ = log

-- ---- the lives that have a slot, and those that were evicted

abbrev pub reads_lives : Entry → Bool
reads_lives (Evict who cause) = true
reads_lives (Joined who) = true
reads_lives (Close o) = true
reads_lives _ = false

abbrev pub lives_after : List Who → Entry → List Who
lives_after lives (Evict who cause) = without_lives (who ∷ []) lives
lives_after lives (Joined who) = with_life who lives
lives_after lives (Close o) = o.disk.lives
lives_after lives _ = lives

abbrev pub reads_evicted : Entry → Bool
reads_evicted (Evict who cause) = true
reads_evicted (Close o) = true
reads_evicted _ = false

abbrev pub evicted_after : List Who → Entry → List Who
evicted_after evicted (Evict who cause) = with_life who evicted
evicted_after evicted (Close o) = o.disk.removed
evicted_after evicted _ = evicted

-- ---- requests that were taken and wait to act, in the order in which they came

abbrev pub is_request_of : Deed → RequestOf → Bool
is_request_of d r = same_life d.reply.who r.who && d.reply.xid.0 == r.xid.0

abbrev pub without_request : Deed → List RequestOf → List RequestOf
without_request d waiting = filter (λ r. not (is_request_of d r)) waiting

-- a lock that is granted to who asked for it is the answer
abbrev pub waiting_granted : Option Deed → List RequestOf → List RequestOf
waiting_granted None waiting = waiting
waiting_granted (Some d) waiting = without_request d waiting

abbrev pub reads_waiting : Entry → Bool
reads_waiting (Enters r) = true
reads_waiting (Act d) = true
reads_waiting (Txn d) = true
reads_waiting (Grant lock asked) = true
reads_waiting (Wait lock asked) = true
reads_waiting (Answers d) = true
reads_waiting (Evict who cause) = true
reads_waiting (Close o) = true
reads_waiting _ = false

abbrev pub waiting_after : List RequestOf → Entry → List RequestOf
waiting_after waiting (Enters r) = waiting ++ r ∷ []
waiting_after waiting (Act d) = without_request d waiting
waiting_after waiting (Txn d) = without_request d waiting
waiting_after waiting (Grant lock asked) = waiting_granted asked waiting
waiting_after waiting (Wait lock asked) = without_request asked waiting
waiting_after waiting (Answers d) = without_request d waiting
waiting_after waiting (Evict who cause) = filter (λ r. not (is_life r.who (who ∷ []))) waiting
waiting_after waiting (Close o) = []
waiting_after waiting _ = waiting

-- ---- the slot of a life and tag

abbrev pub no_slot : Slot
no_slot = record { taken = 0; reply = None }

abbrev pub entered : RequestOf → Slot
entered r = record { taken = r.xid.0; reply = None }

-- its number stays that of the newest request taken
abbrev pub answered : Deed → Slot → Slot
answered d slot = record slot { reply = Some d.reply }

abbrev pub is_slot_of : Who → ℕ → Who → ℕ → Bool
is_slot_of who tag other of_tag = same_life who other && tag == of_tag

abbrev pub slot_granted : Who → ℕ → Slot → Option Deed → Slot
slot_granted who tag slot None = slot
slot_granted who tag slot (Some d) = if is_slot_of who tag d.reply.who d.tag then answered d slot else slot

abbrev pub reads_slot : Entry → Bool
reads_slot (Enters r) = true
reads_slot (Act d) = true
reads_slot (Txn d) = true
reads_slot (Grant lock asked) = true
reads_slot (Wait lock asked) = true
reads_slot (Answers d) = true
reads_slot (Close o) = true
reads_slot _ = false

abbrev pub slot_after : Who → ℕ → Slot → Entry → Slot
slot_after who tag slot (Enters r) = if is_slot_of who tag r.who r.tag then entered r else slot
slot_after who tag slot (Act d) = if is_slot_of who tag d.reply.who d.tag then answered d slot else slot
slot_after who tag slot (Txn d) = if is_slot_of who tag d.reply.who d.tag then answered d slot else slot
slot_after who tag slot (Grant lock asked) = slot_granted who tag slot asked
slot_after who tag slot (Wait lock asked) = if is_slot_of who tag asked.reply.who asked.tag then answered asked slot else slot
slot_after who tag slot (Answers d) = if is_slot_of who tag d.reply.who d.tag then answered d slot else slot
slot_after who tag slot (Close o) = slot_in o.disk.slots who tag
slot_after who tag slot _ = slot

-- ---- granted locks, in rising cookie: those of an act come with it, and the lines that follow show them; one on an object comes with its
-- own line

abbrev pub reads_granted : Entry → Bool
reads_granted (Act d) = true
reads_granted (Grant lock asked) = true
reads_granted (Release lock) = true
reads_granted (Evict who cause) = true
reads_granted (Close o) = true
reads_granted _ = false

abbrev pub granted_after : List Lock → Entry → List Lock
granted_after locks (Act d) = with_locks d.reply.locks locks
granted_after locks (Grant lock asked) = with_lock lock locks
granted_after locks (Release lock) = without_lock lock locks
granted_after locks (Evict who cause) = locks_without (who ∷ []) locks
granted_after locks (Close o) = o.locks
granted_after locks _ = locks

-- those that a line has shown since the last crash or close, and whose release isn't shown: the locks of a life that leaves go one
-- by one after it, and those that a close restores come one by one
abbrev pub shown_after : List Lock → Entry → List Lock
shown_after locks (Act d) = with_locks d.reply.locks locks
shown_after locks (Grant lock asked) = with_lock lock locks
shown_after locks (Release lock) = without_lock lock locks
shown_after locks Crash = []
shown_after locks (Close o) = []
shown_after locks (Restore lock) = with_lock lock locks
shown_after locks _ = locks

-- ---- the greatest cookie

abbrev pub reads_cookie : Entry → Bool
reads_cookie (Act d) = true
reads_cookie (Grant lock asked) = true
reads_cookie (Wait lock asked) = true
reads_cookie (Boot boot disk) = true
reads_cookie _ = false

abbrev pub cookie_after : ℕ → Entry → ℕ
cookie_after n (Act d) = greatest_cookie n d.reply.locks
cookie_after n (Grant lock asked) = max n lock.cookie.0
cookie_after n (Wait lock asked) = max n lock.cookie.0
cookie_after n (Boot boot disk) = first_of boot
cookie_after n _ = n

-- ---- locks that wait, in the order in which they came: one that is granted waits no longer

abbrev pub reads_queued : Entry → Bool
reads_queued (Wait lock asked) = true
reads_queued (Grant lock asked) = true
reads_queued (Evict who cause) = true
reads_queued (Close o) = true
reads_queued _ = false

abbrev pub queued_after : List Lock → Entry → List Lock
queued_after locks (Wait lock asked) = locks ++ lock ∷ []
queued_after locks (Grant lock asked) = without_lock lock locks
queued_after locks (Evict who cause) = locks_without (who ∷ []) locks
queued_after locks (Close o) = []
queued_after locks _ = locks

-- ---- glimpses that wait for a lock's holder, in the order in which they came

abbrev pub reads_glimpses : Entry → Bool
reads_glimpses (Asks g) = true
reads_glimpses (Ends g) = true
reads_glimpses (Evict who cause) = true
reads_glimpses (Close o) = true
reads_glimpses _ = false

abbrev pub glimpses_after : List Glimpse → Entry → List Glimpse
glimpses_after gs (Asks g) = gs ++ g ∷ []
glimpses_after gs (Ends g) = filter (λ x. not (same_glimpse g x)) gs
glimpses_after gs (Evict who cause) = filter (λ x. not (is_life x.request.who (who ∷ []))) gs
glimpses_after gs (Close o) = []
glimpses_after gs _ = gs

-- ---- the objects of an object storage target

abbrev pub reads_objects : Entry → Bool
reads_objects (Txn d) = true
reads_objects (Close o) = true
reads_objects _ = false

-- a transaction on names changes no object, one on an object changes no tree
abbrev pub objects_after : List (Resource × Object) → Entry → List (Resource × Object)
objects_after objects (Txn d) = (done_by 0 (transaction_of d) (record { tree = empty; objects = objects }) d.op).objects
objects_after objects (Close o) = o.disk.contents.objects
objects_after objects _ = objects

-- ---- locks that were called back

abbrev pub reads_called : Entry → Bool
reads_called (Block called) = true
reads_called (Release lock) = true
reads_called (Evict who cause) = true
reads_called (Close o) = true
reads_called _ = false

abbrev pub called_after : List Called → Entry → List Called
called_after cs (Block called) = cs ++ called ∷ []
called_after cs (Release lock) = called_without lock cs
called_after cs (Evict who cause) = filter (λ c. not (is_life c.who (who ∷ []))) cs
called_after cs (Close o) = []
called_after cs _ = cs
