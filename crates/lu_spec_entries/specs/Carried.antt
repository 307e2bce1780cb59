-- What entries carry: what was done, what waits, where a call stands, what goes to a disk, and what a close decides.
use Rattle.std.specs.Prelude.{ℕ, Bool, List, Option}
use Rattle.lu_base.specs.declared.ids.At.{At}
use Rattle.lu_base.specs.declared.ids.Cookie.{Cookie}
use Rattle.lu_base.specs.declared.ids.Fid.{Fid}
use Rattle.lu_base.specs.declared.ids.TargetId.{TargetId}
use Rattle.lu_base.specs.declared.ids.Txn.{Txn}
use Rattle.lu_base.specs.declared.ids.Who.{Who}
use Rattle.lu_base.specs.declared.locks.Cause.{Cause}
use Rattle.lu_base.specs.declared.locks.Lock.{Lock}
use Rattle.lu_base.specs.declared.locks.Resource.{Resource}
use Rattle.lu_layout.specs.Raid0.{Raid0}
use Rattle.lu_part.specs.declared.parts.Part.{Part}
use Rattle.lu_msg.specs.declared.calls.Call.{Call}
use Rattle.lu_msg.specs.declared.messages.Reply.{Reply as ReplyTo}
use Rattle.lu_msg.specs.declared.messages.Request.{Request as RequestOf}
use Rattle.lu_msg.specs.declared.operations.Op.{Op}
use Rattle.lu_held.specs.declared.locks.Use.{Use}
use Rattle.lu_held.specs.declared.names.LockName.{LockName}
use Rattle.lu_spec_machine.specs.Tree.{Tree}
use Rattle.lu_spec_entries.specs.declared.uses.Using.{Using}

-- What acted, in one value: a request's tag and operation, what it wrote, and the reply to it as it was first sent,
-- which has its life, number, turn, transaction (0 where it made none), answer, seen numbers and locks.
pub record Deed : Type 0 where
  pub tag : ℕ
  pub op : Op
  pub writes : List Part
  pub reply : ReplyTo

-- ---- what a client asks

-- An operation that waits to be sent, and the slot of the call that it serves; none where it writes back under a lock.
pub record Queued : Type 0 where
  pub slot : Option ℕ
  pub op : Op

-- A request that was sent and whose reply wasn't heard: its number, tag and operation, and whom it serves.
pub record Flight : Type 0 where
  pub xid : ℕ
  pub tag : ℕ
  pub op : Op
  pub slot : Option ℕ

-- ---- where a call stands

-- The file of a handle, with the number of its open.
pub record HandleFile : Type 0 where
  pub fid : Fid
  pub number : Txn
  pub layout : Raid0

-- What a call on bytes does; a read is narrow first, and asks to the end where it hasn't reached. Stats: it tells a file's
-- size beside what the metadata target told. Glimpses: it tells how long each stripe's object is; the sizes so far.
pub data Kind : Type 0 where
  Narrow : (offset : ℕ) (count : ℕ) → Kind
  Wide : (offset : ℕ) (count : ℕ) → Kind
  Writes : (offset : ℕ) (bytes : List ℕ) → Kind
  Cuts : (size : ℕ) → Kind
  Stats : (mode : ℕ) (links : ℕ) → Kind
  Glimpses : (sizes : List ℕ) → Kind

-- A call on bytes: the locks in use, and those still wanted, stripe by stripe.
pub record Work : Type 0 where
  pub kind : Kind
  pub fid : Fid
  pub layout : Raid0
  pub used : List Using
  pub left : List Use

-- Whether the call's newest request is out. Unasked: it has asked nothing yet. Asked: its request is queued or in
-- flight. Answered: this reply to it, of that target, was heard.
pub data Asking : Type 0 where
  Unasked : Asking
  Asked : Asking
  Answered : (target : ℕ) (reply : ReplyTo) → Asking

-- How far a call on bytes has come. Plain: it has no locks to look for (a call on names, or one that has just begun).
-- Bad: its handle isn't bound, or is bound already. Looks: it looks for the first of the locks that are left.
-- Enqueued: that lock is asked for. Waits: it waits for that lock, which may have been called back. Came: it was
-- granted. Forgotten: it waited for that lock when its target went down, and asks again once the target serves. Gets: a
-- page is fetched. Flushing: it writes back the object of that stripe. Sizes: it asks how long the object of the first of
-- the locks that are left is.
pub data Stage : Type 0 where
  Plain : Stage
  Bad : Stage
  Looks : (work : Work) → Stage
  Enqueued : (work : Work) → Stage
  Waits : (work : Work) (target : TargetId) (lock : Lock) (marked : Bool) → Stage
  Came : (work : Work) (lock : Lock) → Stage
  Forgotten : (work : Work) → Stage
  Gets : (work : Work) → Stage
  Flushing : (stripe : ℕ) → Stage
  Sizes : (work : Work) → Stage

-- A call that isn't told: in which turn it began, the file of its handle, where it stands, and the locks that it
-- pinned, in order.
pub record Running : Type 0 where
  pub at : At
  pub call : Call
  pub file : Option HandleFile
  pub asking : Asking
  pub stage : Stage
  pub pins : List LockName

-- ---- what a target keeps in mind

-- The newest request number that was taken of a life and tag, 0 where none was; and the reply to it, once it acted.
pub record Slot : Type 0 where
  pub taken : ℕ
  pub reply : Option ReplyTo

-- A lock that was called back, the life that has it, and the count of ticks then.
pub record Called : Type 0 where
  pub cookie : Cookie
  pub who : Who
  pub since : ℕ

-- A glimpse that waits for the holder of this lock.
pub record Glimpse : Type 0 where
  pub cookie : Cookie
  pub resource : Resource
  pub request : RequestOf

-- The word of a life that comes back: how many replays and locks it has, and the numbers that it has seen.
pub record Said : Type 0 where
  pub who : Who
  pub replays : ℕ
  pub locks : ℕ
  pub seen : List ℕ

-- A life that loses its slot.
pub record Gone : Type 0 where
  pub who : Who
  pub cause : Cause

-- What operations work on: the tree of the metadata target, or the bytes by offset of the others' objects.
pub record Contents : Type 0 where
  pub tree : Tree
  pub objects : List (Resource × List (ℕ × ℕ))

-- The slot of a life and tag.
pub record LifeSlot : Type 0 where
  pub who : Who
  pub tag : ℕ
  pub slot : Slot

-- What stands on a target's disk. Boot: the last that was begun there. Lives: those that have a slot; removed: those
-- that had one. Slots: of each life and tag the reply to its last committed transaction.
pub record Disk : Type 0 where
  pub boot : ℕ
  pub contents : Contents
  pub committed : ℕ
  pub lives : List Who
  pub removed : List Who
  pub slots : List LifeSlot

-- What a close of the recovery window decides: the boot in which the target serves from then on; the kept transactions,
-- with the replies made anew; what stands on the disk once they are committed, on which the target goes on; the locks
-- that stand again; the lives that lose their slots, and those that get one; and the replayed numbers that are lost.
pub record Outcome : Type 0 where
  pub boot : ℕ
  pub kept : List Deed
  pub disk : Disk
  pub locks : List Lock
  pub gone : List Gone
  pub joins : List Who
  pub lost : List ℕ
