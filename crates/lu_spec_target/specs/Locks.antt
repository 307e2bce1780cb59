-- The locks of a target, those that were called back, the requests that were taken and aren't answered, and the glimpses that
-- wait for a holder (Wang et al., Understanding Lustre Filesystem Internals, the lock manager). After a crash they stand
-- unread until the close of the window makes them anew.
use Rattle.std.specs.Prelude.{nat_lt, ◌==◌, ◌&&◌, not, if◌then◌else◌, Bool, true, false, List, [], ◌∷◌, ◌++◌, filter, Option, Some, None}
use Rattle.lu_base.specs.declared.ids.Who.{Who}
use Rattle.lu_base.specs.declared.locks.Lock.{Lock}
use Rattle.lu_msg.specs.declared.messages.Request.{Request as RequestOf}
use Rattle.lu_spec_entries.specs.Carried.{Deed, Called, Glimpse}
use Rattle.lu_spec_entries.specs.Words.{Entry, Act, Txn, Grant, Wait, Block, Release, Commit, Close, Restore, Enters, Answers, Asks, Ends}
use Rattle.lu_spec_entries.specs.Words.{same_life}
use Rattle.lu_spec_target.specs.Lives.{is_life}

-- ---- granted locks, in rising cookie, each cookie once

abbrev pub with_lock : Lock → List Lock → List Lock
with_lock l [] = l ∷ []
with_lock l (k ∷ locks) =
    if l.cookie.0 == k.cookie.0 then l ∷ locks else (if nat_lt l.cookie.0 k.cookie.0 then l ∷ k ∷ locks else k ∷ with_lock l locks)

abbrev pub with_locks : List Lock → List Lock → List Lock
with_locks [] locks = locks
with_locks (l ∷ more) locks = with_locks more (with_lock l locks)

abbrev pub without_lock : Lock → List Lock → List Lock
without_lock l locks = filter (λ k. not (k.cookie.0 == l.cookie.0)) locks

abbrev pub locks_without : List Who → List Lock → List Lock
locks_without gone locks = filter (λ k. not (is_life k.ask.who gone)) locks

abbrev pub reads_granted : Entry → Bool
reads_granted (Act d) = true
reads_granted (Grant lock asked) = true
reads_granted (Restore lock) = true
reads_granted (Release lock) = true
reads_granted (Commit to batch) = true
reads_granted (Close o) = true
reads_granted _ = false

-- the locks of an act are granted with it; those of a life that leaves go with it
abbrev pub granted_after : List Lock → Entry → List Lock
granted_after locks (Act d) = with_locks d.reply.locks locks
granted_after locks (Grant lock asked) = with_lock lock locks
granted_after locks (Restore lock) = with_lock lock locks
granted_after locks (Release lock) = without_lock lock locks
granted_after locks (Commit to batch) = locks_without batch.removed locks
granted_after locks (Close o) = o.locks
granted_after locks _ = locks

-- ---- waiting locks, as they were asked for, in order of arrival

abbrev pub reads_waiting : Entry → Bool
reads_waiting (Wait lock asked) = true
reads_waiting (Grant lock asked) = true
reads_waiting (Commit to batch) = true
reads_waiting (Close o) = true
reads_waiting _ = false

abbrev pub waiting_after : List Lock → Entry → List Lock
waiting_after locks (Wait lock asked) = locks ++ lock ∷ []
waiting_after locks (Grant lock asked) = without_lock lock locks
waiting_after locks (Commit to batch) = locks_without batch.removed locks
waiting_after locks (Close o) = []
waiting_after locks _ = locks

-- ---- locks that were called back, each with the count of ticks at the first time

abbrev pub called_without : Lock → List Called → List Called
called_without l cs = filter (λ c. not (c.cookie.0 == l.cookie.0)) cs

abbrev pub reads_called : Entry → Bool
reads_called (Block called) = true
reads_called (Release lock) = true
reads_called (Commit to batch) = true
reads_called (Close o) = true
reads_called _ = false

abbrev pub called_after : List Called → Entry → List Called
called_after cs (Block called) = cs ++ called ∷ []
called_after cs (Release lock) = called_without lock cs
called_after cs (Commit to batch) = filter (λ c. not (is_life c.who batch.removed)) cs
called_after cs (Close o) = []
called_after cs _ = cs

-- ---- requests that were taken and aren't answered, in order of arrival

abbrev pub is_request_of : Deed → RequestOf → Bool
is_request_of d r = same_life d.reply.who r.who && d.reply.xid.0 == r.xid.0

abbrev pub without_request : Deed → List RequestOf → List RequestOf
without_request d queue = filter (λ r. not (is_request_of d r)) queue

abbrev pub queue_granted : Option Deed → List RequestOf → List RequestOf
queue_granted None queue = queue
queue_granted (Some d) queue = without_request d queue

abbrev pub reads_queue : Entry → Bool
reads_queue (Enters r) = true
reads_queue (Act d) = true
reads_queue (Txn d) = true
reads_queue (Grant lock asked) = true
reads_queue (Wait lock asked) = true
reads_queue (Answers d) = true
reads_queue (Commit to batch) = true
reads_queue (Close o) = true
reads_queue _ = false

abbrev pub queue_after : List RequestOf → Entry → List RequestOf
queue_after queue (Enters r) = queue ++ r ∷ []
queue_after queue (Act d) = without_request d queue
queue_after queue (Txn d) = without_request d queue
queue_after queue (Grant lock asked) = queue_granted asked queue
queue_after queue (Wait lock asked) = without_request asked queue
queue_after queue (Answers d) = without_request d queue
queue_after queue (Commit to batch) = filter (λ r. not (is_life r.who batch.removed)) queue
queue_after queue (Close o) = []
queue_after queue _ = queue

-- ---- glimpses that wait for a holder, in the order in which they were made

abbrev pub same_request : RequestOf → RequestOf → Bool
same_request q r = same_life q.who r.who && q.xid.0 == r.xid.0

abbrev pub same_glimpse : Glimpse → Glimpse → Bool
same_glimpse a b = a.cookie.0 == b.cookie.0 && same_request a.request b.request

abbrev pub reads_glimpses : Entry → Bool
reads_glimpses (Asks g) = true
reads_glimpses (Ends g) = true
reads_glimpses (Commit to batch) = true
reads_glimpses (Close o) = true
reads_glimpses _ = false

abbrev pub glimpses_after : List Glimpse → Entry → List Glimpse
glimpses_after gs (Asks g) = gs ++ g ∷ []
glimpses_after gs (Ends g) = filter (λ x. not (same_glimpse g x)) gs
glimpses_after gs (Commit to batch) = filter (λ x. not (is_life x.request.who batch.removed)) gs
glimpses_after gs (Close o) = []
glimpses_after gs _ = gs
