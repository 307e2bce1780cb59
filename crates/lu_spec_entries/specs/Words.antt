-- The words of a full trace: the printed entries with their content, and marks of what a node keeps in mind that no
-- printed line shows. Each carries what changes, so what a node knows is read off its entries without a test. A past
-- is a list of lines, the newest first.
use Rattle.std.specs.Prelude.{ℕ, Bool, true, false, List, [], ◌∷◌, Option, ◌==◌, ◌&&◌, nat_lt, if◌then◌else◌}
use Rattle.lu_base.specs.declared.ids.At.{At}
use Rattle.lu_base.specs.declared.ids.Cookie.{Cookie}
use Rattle.lu_base.specs.declared.ids.Node.{Node}
use Rattle.lu_base.specs.declared.ids.Node.TheVariants.{Client, Target}
use Rattle.lu_base.specs.declared.ids.Txn.{Txn as TxnOf}
use Rattle.lu_base.specs.declared.ids.Who.{Who}
use Rattle.lu_base.specs.declared.locks.Cause.{Cause}
use Rattle.lu_base.specs.declared.locks.Lock.{Lock}
use Rattle.lu_base.specs.declared.locks.Resource.{Resource}
use Rattle.lu_msg.specs.declared.answers.Answer.{Answer}
use Rattle.lu_msg.specs.declared.commits.Batch.{Batch}
use Rattle.lu_msg.specs.declared.messages.Message.{Message}
use Rattle.lu_msg.specs.declared.messages.Reply.{Reply as ReplyTo}
use Rattle.lu_msg.specs.declared.messages.Request.{Request as RequestOf}
use Rattle.lu_msg.specs.declared.messages.RequestReplay.{RequestReplay}
use Rattle.lu_msg.specs.declared.operations.Op.{Op}
use Rattle.lu_held.specs.declared.names.LockName.{LockName}
use Rattle.lu_spec_entries.specs.declared.changes.Flush.{Flush}
use Rattle.lu_spec_entries.specs.Carried.{Deed, Queued, Flight, HandleFile, Work, Running, Called, Glimpse, Said, Disk, Outcome}

-- Entries of any node:
--   Send to message              | a message is sent, and has the next number
--   Take number from message     | a message is taken, of that number and sender
--   Tick
-- of a client, those that are printed:
--   Begin slot running          | a call begins, and stands so
--   Busy, Life, Die
--   Heard target flight reply    | a request in flight ends, with this reply, and the reply's locks come
--   Hold, Drop                   | a lock is held (marked: it is called back already), with the object's size, if any
--                                  came, and the numbers that the grant saw; a lock is given up, with what is known
--   Told slot at answer work     | a call's answer, the turn of its act, and of a call on bytes what it did
--   Peek                         | a holder's answer to a glimpse
-- and marks:
--   Queues, Flies                | an operation waits to be sent to a target; it is a request in flight there
--   Knows, Serves                | the client knows this boot of a target; the target serves its life in that boot
--   Settles target to            | the client was told that all up to this number is committed there
--   Stands slot running          | the call on a slot stands so
--   Binds, Unbinds               | a handle is bound to a file, or to none
--   Pins, Unpins, Marks, Unmarks | a held lock is in use once more, once less; is to be given back, or not yet
--   Learns                       | what an answer told is known under the locks that came with it
--   Changes, WritesBack, Acks    | a change of an object; it is queued as a request; that was answered
--   Fills, Zeroes, Grown, Shows  | bytes of an object are known; are 0 from there on; its size under the locks on it
--                                  after an answered change; the greatest offset shown under a lock
-- Entries of a target, those that are printed:
--   Skip, Crash, Fail
--   Act, Txn                     | a request acted, with its locks; made a transaction
--   Grant, Wait lock deed        | a lock is granted, waits; with the request that asked for it, none where it had waited
--   Block, Release               | a lock is called back; is taken away
--   Commit to batch              | all up to that number is on the disk, with this batch; the lives that it removes are gone,
--                                  with all that they had, which the next entries show
--   Boot boot disk               | the target is up again, with what stands on its disk
--   Close outcome                | the recovery window closes: all that follows of it in this turn is shown by the next
--   Back, Kept, Restore, Evict, Joined
-- and marks:
--   Enters                       | a request is taken, and waits to act
--   Answers                      | a request acted of which no entry is printed
--   Asks, Ends                   | a glimpse waits for a lock's holder; waits no longer
--   Stores, Brings, Says, Wishes | a replay, a lock, a word, a join that recovery keeps
pub data Entry : Type 0 where
  Send : (to : Node) (message : Message) → Entry
  Take : (number : ℕ) (from : Node) (message : Message) → Entry
  Tick : Entry
  Begin : (slot : ℕ) (running : Running) → Entry
  Busy : (slot : ℕ) → Entry
  Heard : (target : ℕ) (flight : Flight) (reply : ReplyTo) → Entry
  Hold : (target : ℕ) (lock : Lock) (marked : Bool) (size : Option ℕ) (seen : List ℕ) → Entry
  Drop : (target : ℕ) (lock : Lock) → Entry
  Told : (slot : ℕ) (at : At) (answer : Answer) (work : Option Work) → Entry
  Peek : (target : ℕ) (cookie : Cookie) (size : ℕ) → Entry
  Life : (who : Who) → Entry
  Die : Entry
  Queues : (target : ℕ) (queued : Queued) → Entry
  Flies : (target : ℕ) (flight : Flight) → Entry
  Knows : (target : ℕ) (boot : ℕ) → Entry
  Serves : (target : ℕ) (boot : ℕ) → Entry
  Settles : (target : ℕ) (to : ℕ) → Entry
  Stands : (slot : ℕ) (running : Running) → Entry
  Binds : (handle : ℕ) (file : HandleFile) → Entry
  Unbinds : (handle : ℕ) → Entry
  Pins : (name : LockName) → Entry
  Unpins : (name : LockName) → Entry
  Marks : (name : LockName) → Entry
  Unmarks : (target : ℕ) → Entry
  Learns : (target : ℕ) (op : Op) (answer : Answer) (locks : List Lock) → Entry
  Changes : (resource : Resource) (change : Flush) → Entry
  WritesBack : (resource : Resource) (change : Flush) → Entry
  Acks : (resource : Resource) → Entry
  Fills : (resource : Resource) (offset : ℕ) (bytes : List ℕ) → Entry
  Zeroes : (resource : Resource) (size : ℕ) → Entry
  Grown : (resource : Resource) (change : Flush) → Entry
  Shows : (resource : Resource) (cookie : Cookie) (last : ℕ) → Entry
  Skip : Entry
  Act : (deed : Deed) → Entry
  Txn : (deed : Deed) → Entry
  Grant : (lock : Lock) (asked : Option Deed) → Entry
  Wait : (lock : Lock) (asked : Deed) → Entry
  Block : (called : Called) → Entry
  Release : (lock : Lock) → Entry
  Commit : (to : ℕ) (batch : Batch) → Entry
  Crash : Entry
  Boot : (boot : ℕ) (disk : Disk) → Entry
  Back : (who : Who) → Entry
  Close : (outcome : Outcome) → Entry
  Kept : (number : TxnOf) → Entry
  Restore : (lock : Lock) → Entry
  Evict : (who : Who) (cause : Cause) → Entry
  Joined : (who : Who) → Entry
  Fail : Entry
  Enters : (request : RequestOf) → Entry
  Answers : (deed : Deed) → Entry
  Asks : (glimpse : Glimpse) → Entry
  Ends : (glimpse : Glimpse) → Entry
  Stores : (replay : RequestReplay) → Entry
  Brings : (lock : Lock) → Entry
  Says : (said : Said) → Entry
  Wishes : (who : Who) → Entry

pub record Line : Type 0 where
  pub at : At
  pub entry : Entry

abbrev pub line : At → Entry → Line
line at e = record { at = at; entry = e }

-- the lines of a turn, put on those before
abbrev pub with_turn : At → List Entry → List Line → List Line
with_turn at [] past = past
with_turn at (e ∷ es) past = with_turn at es (line at e ∷ past)

-- ---- tests

abbrev pub is_client : ℕ → Node → Bool
is_client c (Client d) = c == d
is_client c (Target t) = false

abbrev pub is_target : ℕ → Node → Bool
is_target t (Client c) = false
is_target t (Target u) = t == u

abbrev pub same_life : Who → Who → Bool
same_life a b = a.client == b.client && a.life == b.life

-- turns stand in the order of their stamps, those of one stamp in the order of their nodes, clients before
-- targets
abbrev pub node_before : Node → Node → Bool
node_before (Client c) (Client d) = nat_lt c d
node_before (Client c) (Target t) = true
node_before (Target t) (Client c) = false
node_before (Target t) (Target u) = nat_lt t u

abbrev pub turn_before : At → At → Bool
turn_before a b = if a.stamp.0 == b.stamp.0 then node_before a.node b.node else nat_lt a.stamp.0 b.stamp.0
