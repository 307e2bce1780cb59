-- The words of a story of one object on one target: its locks and changes, what is asked, answered and sent, and the entries that a
-- story consists of. A life, by its number, is one stay of a client at the target; an eviction ends it for good. Positions are bytes
-- of the object, from 0. Cookies of locks, request numbers of a life and transaction numbers count from 1, and the first boot is 1.
use Rattle.std.specs.Prelude.{ℕ, suc, Bool, true, false, ◌&&◌, ◌||◌, nat_eq, nat_lt, if◌then◌else◌, List, [], ◌∷◌, length, max, ◌+◌, Option}
use Rattle.std.specs.Prelude.{Some, None}

-- ---- locks, changes and requests

-- An extent lock goes by its cookie (Wang et al., Understanding Lustre Filesystem Internals, the lock manager: extent locks). `write`:
-- its mode is PW, otherwise PR. It covers the bytes from `first` to `last`, both included; without `last`, all from `first` on.
pub record Lock : Type 0 where
  pub cookie : ℕ
  pub life : ℕ
  pub write : Bool
  pub first : ℕ
  pub last : Option ℕ

-- What a user's call changes (POSIX.1, write, ftruncate): bytes put from position `at` on, or the size made `n`
pub data Change : Type 0 where
  Write : (at : ℕ) (bytes : List ℕ) → Change
  Cut : (n : ℕ) → Change

-- What a request asks. `Enqueue`: a lock of that mode, from `first` to `last`. `Get`: the `count` bytes from `at` on, under the lock of
-- that cookie. `Flush`: that this change, made under the lock of that cookie, be written back. `Size` is a glimpse: the object's size,
-- without a lock (Wang et al., Understanding Lustre Filesystem Internals, the lock manager: glimpses).
pub data Op : Type 0 where
  Enqueue : (write : Bool) (first : ℕ) (last : Option ℕ) → Op
  Get : (lock : ℕ) (at : ℕ) (count : ℕ) → Op
  Flush : (lock : ℕ) (change : Change) → Op
  Size : Op

-- A life's request, by its number `xid`
pub record Request : Type 0 where
  pub life : ℕ
  pub xid : ℕ
  pub op : Op

-- `Granted`: the lock, with the object's size then. `Waiting`: the lock of that cookie isn't free yet. `Content`: each byte that was
-- asked for, absent ones as 0, and at times a position among these that has a byte. `Done`: the change was made, as the transaction of
-- that number. `Sized` answers a glimpse. `Uncovered`: the target had no such lock. `seen` tells of each transaction number whether the
-- answer may rest on it.
pub data Answer : Type 0 where
  Granted : (lock : Lock) (size : ℕ) (seen : ℕ → Bool) → Answer
  Waiting : (cookie : ℕ) → Answer
  Content : (bytes : List ℕ) (top : Option ℕ) (seen : ℕ → Bool) → Answer
  Done : (number : ℕ) → Answer
  Sized : (size : Option ℕ) → Answer
  Uncovered : Answer

-- ---- messages and calls

-- Each message has a boot of the target. `Ask` and `Reply` carry requests and answers; `Give` a granted lock, with the object's
-- size then (a completion callback); `Block` asks for the lock of that cookie back (a blocking callback); `Cancel` gives it back (Wang
-- et al., Understanding Lustre Filesystem Internals, the lock manager: blocking and completion callbacks).
pub data Message : Type 0 where
  Ask : (boot : ℕ) (request : Request) → Message
  Reply : (boot : ℕ) (life : ℕ) (xid : ℕ) (answer : Answer) → Message
  Give : (boot : ℕ) (lock : Lock) (size : ℕ) (seen : ℕ → Bool) → Message
  Block : (boot : ℕ) (life : ℕ) (cookie : ℕ) → Message
  Cancel : (boot : ℕ) (life : ℕ) (cookie : ℕ) → Message

-- What a call did, when it is told to its user: it made a change, under the lock of that cookie; or it read, asked for `count` bytes
-- from `at` on, and got these.
pub data Call : Type 0 where
  Did : (lock : ℕ) (change : Change) → Call
  Saw : (at : ℕ) (count : ℕ) (bytes : List ℕ) → Call

-- ---- entries

-- Of a life. `Takes`: the change is taken from the life's patch, to be written back under the lock of that cookie; it waits to be sent,
-- and what the life changes meanwhile isn't in it. `Flies`: the request is in flight from now on, until its answer is `Heard`. `Hold`: the
-- lock is held from now on, and the
-- object's size was told with it; `Drop`: no longer. `Forgets`: the life knows a new boot, and awaits no lock that it asked for.
-- `Tells`: the call is told.
-- Of the target. `Grant`: the request is answered with the lock; `Wait`: the lock must wait, and `Promote`: it is granted now. `Acts`:
-- the request is answered without a transaction; `Txn`: with that one. `Release`: the lock of that cookie is no longer granted.
-- `Evict`: the life is over. `Commit`: all transactions up to that number are on the disk. `Close`: after a crash and a recovery the
-- target serves with that boot; the transactions of `lost` are lost, and the lives of `gone` are evicted (Lustre Operations Manual,
-- recovery: replay, eviction).
-- Of either. `Send`: the message is sent; it may arrive at any time, more than once, or never.
pub data Entry : Type 0 where
  Takes : (life : ℕ) (lock : ℕ) (change : Change) → Entry
  Flies : (request : Request) → Entry
  Heard : (request : Request) (answer : Answer) → Entry
  Hold : (lock : Lock) (size : ℕ) (seen : ℕ → Bool) → Entry
  Drop : (lock : Lock) → Entry
  Forgets : (life : ℕ) → Entry
  Tells : (life : ℕ) (call : Call) → Entry
  Grant : (request : Request) (lock : Lock) (size : ℕ) (seen : ℕ → Bool) → Entry
  Wait : (request : Request) (lock : Lock) → Entry
  Promote : (lock : Lock) → Entry
  Acts : (request : Request) (answer : Answer) → Entry
  Txn : (number : ℕ) (request : Request) → Entry
  Release : (cookie : ℕ) → Entry
  Evict : (life : ℕ) → Entry
  Commit : (number : ℕ) → Entry
  Close : (boot : ℕ) (lost : ℕ → Bool) (gone : ℕ → Bool) → Entry
  Send : (message : Message) → Entry

-- ---- extents

-- The position is at most that of the last byte, if there is a last one
abbrev pub not_above : ℕ → Option ℕ → Bool
not_above p None = true
not_above p (Some q) = nat_lt p (suc q)

-- The lock covers the position
abbrev pub covers : Lock → ℕ → Bool
covers l p = nat_lt l.first (suc p) && not_above p l.last

-- Two locks that may not be granted at once: one of them is PW, and they have a position in common. A lock that covers none conflicts
-- with nothing.
abbrev pub conflict : Lock → Lock → Bool
conflict l m = (l.write || m.write) && (not_above l.first l.last && not_above m.first m.last && not_above l.first m.last
    && not_above m.first l.last)

-- ---- what a change makes, position by position

-- What a run of bytes from `at` on makes at position `p` of the byte, or of its absence, that stood there
abbrev pub overlay : ℕ → List ℕ → ℕ → Option ℕ → Option ℕ
overlay at [] p x = x
overlay at (b ∷ bs) p x = if nat_eq at p then Some b else overlay (suc at) bs p x

-- An absent byte is read as 0
abbrev pub value : Option ℕ → ℕ
value None = 0
value (Some b) = b

-- What a cut to size `n` makes of a position: nothing stands at `n` or later, and position n - 1 has a byte, 0 if it had none. So the
-- size is always one more than the last position that has a byte.
abbrev pub cut_at : ℕ → ℕ → Option ℕ → Option ℕ
cut_at n p x = if nat_lt p n then (if nat_eq (suc p) n then Some (value x) else x) else None

-- What a change makes at position `p` of what stood there
abbrev pub after_at : Change → ℕ → Option ℕ → Option ℕ
after_at (Write at bs) p x = overlay at bs p x
after_at (Cut n) p x = cut_at n p x

-- The run of bytes from `at` on has one for position `p`
abbrev pub within : ℕ → List ℕ → ℕ → Bool
within at [] p = false
within at (b ∷ bs) p = nat_eq at p || within (suc at) bs p

-- The positions that a change may change: a write its run, a cut to `n` position n - 1 and all later ones
abbrev pub changes : Change → ℕ → Bool
changes (Write at bs) p = within at bs p
changes (Cut n) p = nat_lt n (suc (suc p))

-- The size after a change, if it was `e` before. A write of no bytes leaves it.
abbrev pub end_after : Change → ℕ → ℕ
end_after (Write at []) e = e
end_after (Write at (b ∷ bs)) e = max e (at + suc (length bs))
end_after (Cut n) e = n
