-- Which traces are well formed: those whose numbers, names, paths, calls and operations have the forms
-- and limits of the scenario's language, where a resource with bits has stripe 0, where a reply grants
-- its own life locks for reading on inodes alone, and where a holder's answer names the turn that sent it.
use Rattle.std.specs.Prelude.{◌≡◌, ℕ, ◌+◌, ◌*◌, ◌^◌, ◌<◌, ◌≤◌, List, Option, Some, None, ℤ, pos, negsuc, length, All}
use Rattle.lu_base.specs.Texts.{IsName, IsPath}
use Rattle.lu_base.specs.declared.ids.Who.{Who}
use Rattle.lu_base.specs.declared.ids.At.{At}
use Rattle.lu_base.specs.declared.ids.Node.{Node}
use Rattle.lu_base.specs.declared.ids.Node.TheVariants.{Client, Target}
use Rattle.lu_base.specs.declared.locks.Mode.TheVariants.{PR}
use Rattle.lu_base.specs.declared.locks.Extent.{Extent}
use Rattle.lu_base.specs.declared.locks.Resource.{Resource}
use Rattle.lu_base.specs.declared.locks.Policy.{Policy}
use Rattle.lu_base.specs.declared.locks.Policy.TheVariants.{Bits, Range}
use Rattle.lu_base.specs.declared.locks.Lock.{Lock as LockOf}
use Rattle.lu_layout.specs.Raid0.{Raid0}
use Rattle.lu_layout.specs.Sound.{IsLayout}
use Rattle.lu_msg.specs.declared.calls.Call.{Call}
use Rattle.lu_msg.specs.declared.calls.Call.TheVariants as call
use Rattle.lu_msg.specs.declared.operations.Op.{Op}
use Rattle.lu_msg.specs.declared.operations.Op.TheVariants as op
use Rattle.lu_msg.specs.declared.answers.Answer.{Answer}
use Rattle.lu_msg.specs.declared.answers.Answer.TheVariants as answer
use Rattle.lu_msg.specs.declared.messages.Message.{Message}
use Rattle.lu_msg.specs.declared.messages.Message.TheVariants as message
use Rattle.lu_trace.specs.declared.entries.Entry.{Entry}
use Rattle.lu_trace.specs.declared.entries.Entry.TheVariants as entry
use Rattle.lu_trace.specs.declared.entries.Line.{Line}
use Rattle.lu_trace.specs.declared.traces.Trace.{Trace}
use Rattle.lu_trace.specs.declared.traces.End.{End}
use Rattle.lu_trace.specs.Traces.{trace_text}

-- a number of this many bits
abbrev pub Fits : ℕ → ℕ → Type 0
Fits bits n = n < 2 ^ bits

abbrev pub IsWho : Who → Type 0
IsWho who = Fits 16 who.client × Fits 32 who.life

abbrev pub IsNode : Node → Type 0
IsNode (Client number) = Fits 16 number
IsNode (Target number) = Fits 16 number

abbrev pub IsAt : At → Type 0
IsAt at = Fits 64 at.stamp.0 × IsNode at.node

abbrev pub IsExtent : Extent → Type 0
IsExtent extent = Fits 64 extent.first × Fits 64 extent.last

abbrev pub IsResource : Resource → Type 0
IsResource resource = Fits 64 resource.fid.0 × Fits 16 resource.stripe

-- what a lock is on, and its bits or range: bits are those of an inode, which has stripe 0
abbrev pub AreTerms : Resource → Policy → Type 0
AreTerms resource (Bits bits) = IsResource resource × (resource.stripe ≡ 0) × Fits 8 bits
AreTerms resource (Range extent) = IsResource resource × IsExtent extent

abbrev pub IsLock : LockOf → Type 0
IsLock lock = Fits 64 lock.cookie.0 × IsWho lock.ask.who × AreTerms lock.resource lock.ask.policy

abbrev pub HasBits : Policy → Type 0
HasBits (Bits bits) = Unit {0}
HasBits (Range extent) = ⊥

-- a lock that a reply to this life grants
abbrev pub IsReplyLock : Who → LockOf → Type 0
IsReplyLock who lock = IsLock lock × (lock.ask.who ≡ who) × (lock.ask.mode ≡ PR) × HasBits lock.ask.policy

abbrev pub IsStriped : Raid0 → Type 0
IsStriped layout = IsLayout layout × All (Fits 16) layout.targets

-- a number of stripes: -1, or 0 to 1000
abbrev pub IsCount : ℤ → Type 0
IsCount (pos n) = n ≤ 1000
IsCount (negsuc n) = n ≡ 0

-- a stripe size and a number of stripes
abbrev pub AreStripes : ℕ → ℤ → Type 0
AreStripes size count = (size ≤ 2 ^ 32) × IsCount count

-- one to 65,536 bytes that end at or below 2^40
abbrev pub AreBytesAt : ℕ → List ℕ → Type 0
AreBytesAt offset bytes = (1 ≤ length bytes) × (length bytes ≤ 65536) × (offset + length bytes ≤ 2 ^ 40) × All (Fits 8) bytes

abbrev pub IsCall : Call → Type 0
IsCall (call.Lookup path) = IsPath path
IsCall (call.Stat path) = IsPath path
IsCall (call.List path) = IsPath path
IsCall (call.Layout path) = IsPath path
IsCall (call.Mkdir path) = IsPath path
IsCall (call.Create path None) = ⊥
IsCall (call.Create path (Some stripes)) = IsPath path × AreStripes stripes.0 stripes.1
IsCall (call.Link old new) = IsPath old × IsPath new
IsCall (call.Unlink path) = IsPath path
IsCall (call.Rmdir path) = IsPath path
IsCall (call.Rename old new) = IsPath old × IsPath new
IsCall (call.Chmod path mode) = IsPath path × Fits 12 mode
IsCall (call.Open handle path) = (handle ≤ 15) × IsPath path
IsCall (call.Close handle) = handle ≤ 15
IsCall (call.Read handle offset size) = (handle ≤ 15) × (1 ≤ size) × (size ≤ 65536) × (offset + size ≤ 2 ^ 40)
IsCall (call.Write handle offset bytes) = (handle ≤ 15) × AreBytesAt offset bytes
IsCall (call.Cut handle size) = (handle ≤ 15) × (size ≤ 2 ^ 40)
IsCall (call.Flush handle) = handle ≤ 15
IsCall (call.Glimpse handle) = handle ≤ 15

abbrev pub IsOp : Op → Type 0
IsOp (op.Lookup path) = IsPath path
IsOp (op.Stat path) = IsPath path
IsOp (op.List path) = IsPath path
IsOp (op.Layout path) = IsPath path
IsOp (op.Mkdir path) = IsPath path
IsOp (op.Create path size count) = IsPath path × AreStripes size count
IsOp (op.Link old new) = IsPath old × IsPath new
IsOp (op.Unlink path) = IsPath path
IsOp (op.Rmdir path) = IsPath path
IsOp (op.Rename old new) = IsPath old × IsPath new
IsOp (op.Chmod path mode) = IsPath path × Fits 12 mode
IsOp (op.Open path) = IsPath path
IsOp (op.Close txn fid) = Fits 64 txn.0 × Fits 64 fid.0
IsOp (op.Enqueue resource mode extent) = IsResource resource × IsExtent extent
IsOp (op.Get resource cookie page) = IsResource resource × Fits 64 cookie.0 × ((page + 1) * 4096 ≤ 2 ^ 40)
IsOp (op.Put resource cookie offset bytes) =
    IsResource resource × Fits 64 cookie.0 × (offset + length bytes ≤ 2 ^ 40) × All (Fits 8) bytes
IsOp (op.Cut resource cookie size) = IsResource resource × Fits 64 cookie.0 × (size ≤ 2 ^ 40)
IsOp (op.Size resource) = IsResource resource

abbrev pub IsAnswer : Answer → Type 0
IsAnswer answer.Done = Unit {0}
IsAnswer (answer.Made fid) = Fits 64 fid.0
IsAnswer (answer.Dir fid) = Fits 64 fid.0
IsAnswer (answer.File fid) = Fits 64 fid.0
IsAnswer (answer.DirStat fid mode) = Fits 64 fid.0 × Fits 16 mode
IsAnswer (answer.FileStat fid mode links layout) = Fits 64 fid.0 × Fits 16 mode × Fits 64 links × IsStriped layout
IsAnswer (answer.FileSize fid mode links size) = Fits 64 fid.0 × Fits 16 mode × Fits 64 links × Fits 64 size
IsAnswer (answer.Names names) = All IsName names × Fits 63 (length names)
IsAnswer (answer.Layout layout) = IsStriped layout
IsAnswer (answer.OpenFile fid txn layout) = Fits 64 fid.0 × Fits 64 txn.0 × IsStriped layout
IsAnswer (answer.Granted cookie extent size) = Fits 64 cookie.0 × IsExtent extent × Fits 64 size
IsAnswer (answer.Waiting cookie) = Fits 64 cookie.0
IsAnswer (answer.Content bytes) = All (Fits 8) bytes × Fits 63 (length bytes)
IsAnswer (answer.Size size) = Fits 64 size
IsAnswer answer.Lock = Unit {0}
IsAnswer (answer.Sizes sizes) = All (Fits 64) sizes
IsAnswer answer.Uncovered = Unit {0}
IsAnswer (answer.Refused errno) = Unit {0}

-- a life and a boot
abbrev pub IsHead : Who → ℕ → Type 0
IsHead who boot = IsWho who × Fits 32 boot

abbrev pub IsSize : Option ℕ → Type 0
IsSize None = Unit {0}
IsSize (Some size) = Fits 64 size

-- a message that is sent in the turn of this stamp
abbrev pub IsMessage : ℕ → Message → Type 0
IsMessage stamp (message.Request r) = IsHead r.who r.boot × Fits 64 r.xid.0 × Fits 8 r.tag × IsOp r.op
IsMessage stamp (message.Cancel who boot cookie) = IsHead who boot × Fits 64 cookie.0
IsMessage stamp (message.Where who boot cookie) = IsHead who boot × Fits 64 cookie.0
IsMessage stamp (message.Replay r) =
    IsHead r.who r.boot × Fits 64 r.txn.0 × Fits 64 r.xid.0 × Fits 8 r.tag × All (Fits 64) r.seen × IsOp r.op
IsMessage stamp (message.Lock l) = IsHead l.who l.boot × Fits 64 l.cookie.0 × AreTerms l.resource l.policy
IsMessage stamp (message.Word who boot replays locks seen) =
    IsHead who boot × Fits 32 replays × Fits 32 locks × All (Fits 64) seen
IsMessage stamp (message.Join who boot) = IsHead who boot
IsMessage stamp (message.Size s) =
    IsHead s.who s.boot × Fits 64 s.cookie.0 × IsWho s.for_who × Fits 64 s.xid.0 × IsSize s.size × (s.stamp.0 ≡ stamp)
IsMessage stamp (message.Up boot) = Fits 32 boot
IsMessage stamp (message.Reply r) =
    IsHead r.who r.boot × Fits 64 r.xid.0 × Fits 64 r.txn.0 × Fits 64 r.committed.0 × All (Fits 64) r.seen
    × IsAt r.at × All (IsReplyLock r.who) r.locks × IsAnswer r.answer
IsMessage stamp (message.Grant g) =
    IsHead g.who g.boot × Fits 64 g.cookie.0 × IsExtent g.extent × Fits 64 g.size × Fits 64 g.committed.0 × All (Fits 64) g.seen
IsMessage stamp (message.Block who boot cookie) = IsHead who boot × Fits 64 cookie.0
IsMessage stamp (message.Ask who boot cookie for_who xid) =
    IsHead who boot × Fits 64 cookie.0 × IsWho for_who × Fits 64 xid.0
IsMessage stamp (message.Ready who boot committed) = IsHead who boot × Fits 64 committed.0
IsMessage stamp (message.Evicted who boot) = IsHead who boot

-- an entry of the turn of this stamp
abbrev pub IsEntry : ℕ → Entry → Type 0
IsEntry stamp (entry.Begin slot call) = Fits 8 slot × IsCall call
IsEntry stamp (entry.Busy slot) = Fits 8 slot
IsEntry stamp entry.Skip = Unit {0}
IsEntry stamp (entry.Send number to message) = Fits 64 number × IsNode to × IsMessage stamp message
IsEntry stamp (entry.Take number) = Fits 64 number
IsEntry stamp entry.Tick = Unit {0}
IsEntry stamp (entry.Heard target xid) = Fits 16 target.0 × Fits 64 xid.0
IsEntry stamp (entry.Hold target cookie) = Fits 16 target.0 × Fits 64 cookie.0
IsEntry stamp (entry.Drop target cookie) = Fits 16 target.0 × Fits 64 cookie.0
IsEntry stamp (entry.Told slot at answer) = Fits 8 slot × IsAt at × IsAnswer answer
IsEntry stamp (entry.Peek target cookie size) = Fits 16 target.0 × Fits 64 cookie.0 × Fits 64 size
IsEntry stamp (entry.Life who) = IsWho who
IsEntry stamp entry.Die = Unit {0}
IsEntry stamp (entry.Act who xid answer) = IsWho who × Fits 64 xid.0 × IsAnswer answer
IsEntry stamp (entry.Txn txn who xid seen answer) =
    Fits 64 txn.0 × IsWho who × Fits 64 xid.0 × All (Fits 64) seen × IsAnswer answer
IsEntry stamp (entry.Grant lock) = IsLock lock
IsEntry stamp (entry.Wait lock) = IsLock lock
IsEntry stamp (entry.Block cookie) = Fits 64 cookie.0
IsEntry stamp (entry.Release cookie) = Fits 64 cookie.0
IsEntry stamp (entry.Commit txn) = Fits 64 txn.0
IsEntry stamp entry.Crash = Unit {0}
IsEntry stamp (entry.Boot boot) = Fits 32 boot
IsEntry stamp (entry.Back who) = IsWho who
IsEntry stamp entry.Close = Unit {0}
IsEntry stamp (entry.Kept txn) = Fits 64 txn.0
IsEntry stamp (entry.Restore lock) = IsLock lock
IsEntry stamp (entry.Evict who cause) = IsWho who
IsEntry stamp (entry.Joined who) = IsWho who
IsEntry stamp entry.Fail = Unit {0}

abbrev pub IsLine : Line → Type 0
IsLine line = IsAt line.at × IsEntry line.at.stamp.0 line.entry

pub record IsWellFormed (trace : Trace) : Type 0 where
  pub some_osts : 1 ≤ trace.osts
  pub few_osts : trace.osts ≤ 8
  pub lines : All IsLine trace.entries

-- one text is that of one well formed trace and one end: what a reader of traces rests on. It isn't
-- shown here.
abbrev pub TextDetermines : Type 0
TextDetermines =
    (a b : Trace) (e f : End) → IsWellFormed a → IsWellFormed b → trace_text a e ≡ trace_text b f → (a ≡ b) × (e ≡ f)
