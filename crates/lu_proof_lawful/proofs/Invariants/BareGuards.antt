-- What a line rests on in a run that changes no bytes (`AllBare`): as the guards say it, but that there is no more to it. Each object is
-- empty, all locks
-- are for reading and granted at once, and no page is fetched and no change written back. That no node refuses a turn of such a run rests
-- on these.
use Rattle.std.proofs.Common.{◌≡◌, ℕ, suc, ◌+◌, ◌<◌, ◌≤◌, true, false, List, [], ◌∷◌, ◌++◌, Option, Some, None, ◌⊎◌, inl, inr}
use Rattle.std.specs.Prelude.{length, drop, replicate}
use Rattle.lu_base.specs.declared.ids.At.{At}
use Rattle.lu_base.specs.declared.ids.Fid.{Fid}
use Rattle.lu_base.specs.declared.ids.Node.{Node}
use Rattle.lu_base.specs.declared.ids.Node.TheVariants.{Client, Target}
use Rattle.lu_base.specs.declared.locks.Extent.{Extent}
use Rattle.lu_base.specs.declared.locks.Lock.{Lock}
use Rattle.lu_base.specs.declared.locks.Mode.TheVariants.{PR}
use Rattle.lu_base.specs.declared.locks.Resource.{Resource}
use Rattle.lu_layout.specs.Raid0.{Raid0}
use Rattle.lu_msg.specs.declared.answers.Answer.{Answer}
use Rattle.lu_msg.specs.declared.answers.Answer.TheVariants as answer
use Rattle.lu_msg.specs.declared.calls.Call.{Call}
use Rattle.lu_msg.specs.declared.calls.Call.TheVariants as call
use Rattle.lu_msg.specs.declared.messages.Reply.{Reply as ReplyTo}
use Rattle.lu_msg.specs.declared.messages.Request.{Request as RequestOf}
use Rattle.lu_msg.specs.declared.operations.Op.{Op}
use Rattle.lu_msg.specs.declared.operations.Op.TheVariants as op
use Rattle.lu_trace.specs.WellFormed.{IsCall}
use Rattle.lu_held.specs.declared.locks.HeldLock.{HeldLock}
use Rattle.lu_held.specs.declared.locks.Use.{Use}
use Rattle.lu_held.specs.declared.names.LockName.{LockName}
use Rattle.lu_held.specs.Held.{serving}
use Rattle.lu_spec_entries.specs.Carried.{HandleFile, Deed, Queued, Unasked, Asked, Answered, Narrow, Wide, Stats, Glimpses, Work, Stage}
use Rattle.lu_spec_entries.specs.Carried.{Plain, Bad, Enqueued, Came, Sizes, Running}
use Rattle.lu_spec_entries.specs.Words.{Entry, Begin, Queues, Stands, Told, Hold, Pins, Unpins, Act, Txn, Grant, Wait, Answers as Responds}
use Rattle.lu_spec_entries.specs.Words.{Asks, Ends, Block, Changes, WritesBack, Shows, Acks, Fills, Zeroes, Grown as Grows, Peek, Line}
use Rattle.lu_spec_entries.specs.Concerns.{concerns, only}
use Rattle.lu_spec_client.specs.Advances.{enqueue_of}
use Rattle.lu_spec_client.specs.Caches.{held_at}
use Rattle.lu_spec_client.specs.Imports.{Serving}
use Rattle.lu_spec_client.specs.Wants.{wants_of}
use Rattle.lu_spec_target.specs.Phase.{first_of}
use Rattle.lu_proof_lawful.specs.Covered.Calls.{begun, call_at, becomes, is_bad, file_for}
use Rattle.lu_proof_lawful.specs.Covered.Deeds.{told_on, whole}
use Rattle.lu_proof_lawful.specs.Covered.Runs.{IsBare, AllBare}
use Rattle.lu_proof_lawful.specs.Covered.Heads.{Head}
use Rattle.lu_proof_lawful.specs.Covered.Imports.{standing_at}
use Rattle.lu_proof_lawful.specs.Covered.TargetStates.{none, server_of}
use Rattle.lu_proof_lawful.proofs.Preconditions.Guards.{In, JustHeard, Later, Steps, Closes, Starts, StartsRead, StartsStat, is_welcome}
use Rattle.lu_proof_lawful.proofs.Preconditions.Guards.{NamesAskOk, SizeAskOk, held_by, IsGlimpse, IsFlush, Reads, LacksOf, KnowsFile}
use Rattle.lu_proof_lawful.proofs.Preconditions.Guards.{ToldFile, HadLock, HadUsed, ToldOk, KnownOk, EndsOk, BadOk, HoldsOk, IsUnmarked}
use Rattle.lu_proof_lawful.proofs.Preconditions.Guards.{EntryOk}
use Rattle.lu_proof_lawful.proofs.Preconditions.StoryGuards.{IsServing, ActOk, TxnOk, GrantOk, BlockOk, HeldOk, EntryOf}
use Rattle.lu_proof_lawful.proofs.Preconditions.Grown.{LivesAt, Allowed, Grown, IsOfFirst, IsPlaced, GrownOf}
use Rattle.lu_proof_lawful.proofs.Invariants.BareObjects.{read_lock}

-- ---- calls

-- a call that changes no object: it reads bytes, writes back what is changed, or asks how long objects are
abbrev pub IsOnSizes : Call → Type 0
IsOnSizes (call.Read h offset count) = Unit {0}
IsOnSizes (call.Flush h) = Unit {0}
IsOnSizes (call.Glimpse h) = Unit {0}
IsOnSizes _ = ⊥

-- a call on a good handle, with the file of that, if any; or one on a bad handle
abbrev pub BareBegins : ℕ → List Line → Running → Type 0
BareBegins c past r =
    ((is_bad c past r.call ≡ false) × (r.stage ≡ Plain) × (r.file ≡ file_for c past r.call)
    × (((o : Op) × (becomes r ≡ Some o)) ⊎ IsOnSizes r.call))
    ⊎ ((is_bad c past r.call ≡ true) × (r.stage ≡ Bad) × (r.file ≡ None))

-- no held lock that isn't pinned is marked between turns, while its target serves the life; and a client that is told that it does stands
-- so by the end of the turn
pub record BareBeginOk (past : List Line) (at : At) (c slot : ℕ) (running : Running) : Type 0 where
  pub later : Later past at
  pub small : slot < 4
  pub free : call_at c slot past ≡ None
  pub is : running ≡ begun at running.call running.file running.stage
  pub limits : IsCall running.call
  pub begins : BareBegins c past running
  pub calm : (h : HeldLock) → In h (held_at c past) → standing_at c h.target.0 past ≡ Serving → h.pins ≡ 0 → h.marked ≡ false
  pub ready : (t : ℕ) → is_welcome c t past ≡ false

-- a read asks the target that has the first of the objects that are left for a lock to read under
pub record BareLockAskOk (t : ℕ) (running : Running) (o : Op) : Type 0 where
  pub work : Work
  pub stage : running.stage ≡ Enqueued work
  pub still : running.asking ≡ Asked → ⊥
  pub wanted : Use
  pub left : List Use
  pub first : work.left ≡ wanted ∷ left
  pub of_target : t ≡ wanted.target.0
  pub object : 0 < t
  pub extent : Extent
  pub of_op : o ≡ op.Enqueue wanted.resource PR extent
  pub is : o ≡ enqueue_of wanted

pub record BareQueuesOk (past : List Line) (c t : ℕ) (q : Queued) : Type 0 where
  pub slot : ℕ
  pub serves : q.slot ≡ Some slot
  pub running : Running
  pub call : call_at c slot past ≡ Some running
  pub asks : NamesAskOk past c t running q.op ⊎ SizeAskOk t running q.op ⊎ BareLockAskOk t running q.op

-- the reply just heard told a glimpse how long an object is; then come those that it holds a lock on, to which nothing was written
pub record BareHeardSize (past : List Line) (at : At) (running : Running) (sizes : List ℕ) : Type 0 where
  pub work : Work
  pub stage : running.stage ≡ Sizes work
  pub before : List ℕ
  pub kind : work.kind ≡ Glimpses before
  pub target : ℕ
  pub reply : ReplyTo
  pub answered : running.asking ≡ Answered target reply
  pub heard : JustHeard past at target reply
  pub size : ℕ
  pub tells : reply.answer ≡ answer.Size size
  pub held : ℕ
  pub more : sizes ≡ before ++ size ∷ replicate held 0

-- as a glimpse begins it has the sizes of those alone
pub record BareNoneHeard (at : At) (running : Running) (sizes : List ℕ) : Type 0 where
  pub plain : running.stage ≡ Plain
  pub new : running.asking ≡ Unasked
  pub begun : running.at ≡ at
  pub held : ℕ
  pub are : sizes ≡ replicate held 0

-- the sizes that a glimpse has: as it begins, or with one more that it was told
abbrev pub BareSizesSoFar : List Line → At → Running → List ℕ → Type 0
BareSizesSoFar past at running sizes = BareNoneHeard at running sizes ⊎ BareHeardSize past at running sizes

-- so many sizes it has before those
abbrev pub bare_heard : {past : List Line} {at : At} {running : Running} {sizes : List ℕ} → BareSizesSoFar past at running sizes → ℕ
bare_heard (inl none) = 0
bare_heard (inr heard) = suc (length heard.before)

-- on each of these objects the client whose turn it is holds a lock that serves
abbrev pub AllServed : List Line → At → List Use → Type 0
AllServed past at us = (u : Use) → In u us → (h : HeldLock) × (serving u (held_by at.node past) ≡ Some h)

-- a glimpse goes on to the next object of its file, in the order of stripes: it has one size of each object before that one
pub record BareSizesStand (past : List Line) (at : At) (running : Running) (stage : Stage) (pins : List LockName) : Type 0 where
  pub handle : ℕ
  pub glimpses : IsGlimpse running handle
  pub work : Work
  pub is : stage ≡ Sizes work
  pub same : pins ≡ running.pins
  pub sizes : List ℕ
  pub kind : work.kind ≡ Glimpses sizes
  pub so_far : BareSizesSoFar past at running sizes
  pub file : HandleFile
  pub of_file : running.file ≡ Some file
  pub before : List Use
  pub wanted : Use
  pub left : List Use
  pub first : work.left ≡ wanted ∷ left
  pub all : wants_of file.layout file.fid (Glimpses []) ≡ before ++ work.left
  pub each : length before ≡ length sizes
  pub served : AllServed past at (drop (bare_heard so_far) before)

-- it went on so before, and has pinned these
pub record BareGoesOn (running : Running) (pins : List LockName) (fid : Fid) (mode links : ℕ) (layout : Raid0) : Type 0 where
  pub work : Work
  pub stage : (running.stage ≡ Enqueued work) ⊎ ((lock : Lock) × (running.stage ≡ Came work lock))
  pub kind : work.kind ≡ Stats mode links
  pub of_fid : fid ≡ work.fid
  pub of_layout : layout ≡ work.layout
  pub pinned : (name : LockName) → In name running.pins → In name pins

-- it asks for the lock on the next of the objects that it wants, narrow or to the end
abbrev pub BareLacks : (past : List Line) (c : ℕ) (running : Running) → Reads running → Work → Type 0
BareLacks past c running r work = LacksOf past c (wants_of r.file.layout r.file.fid (Narrow r.offset r.count)) work
    ⊎ LacksOf past c (wants_of r.file.layout r.file.fid (Wide r.offset r.count)) work

-- or it got the lock that it asked for
pub record BareLockStand (past : List Line) (c : ℕ) (running : Running) (stage : Stage) : Type 0 where
  pub read : Reads running
  pub work : Work
  pub is : ((stage ≡ Enqueued work) × BareLacks past c running read work)
      ⊎ ((lock : Lock) × (stage ≡ Came work lock) × ((from : ℕ) × (reply : ReplyTo) × (running.asking ≡ Answered from reply)))

-- a stat of a file, that isn't on its last lines: what it tells beside the size, and the locks that it has pinned
pub record BareStatOf (past : List Line) (at : At) (c : ℕ) (running : Running) (pins : List LockName) : Type 0 where
  pub path : List (List ℕ)
  pub stats : running.call ≡ call.Stat path
  pub good : running.stage ≡ Bad → ⊥
  pub fid : Fid
  pub mode : ℕ
  pub links : ℕ
  pub layout : Raid0
  pub from : KnowsFile past at c running pins fid mode links layout ⊎ ToldFile past at c running pins path fid mode links layout
      ⊎ BareGoesOn running pins fid mode links layout

-- it asks for the lock on the next of the objects, in the order of stripes, which no held one serves, or it got the one that it asked for
pub record BareStatStand (past : List Line) (at : At) (c : ℕ) (running : Running) (stage : Stage) (pins : List LockName) : Type 0 where
  pub stat : BareStatOf past at c running pins
  pub work : Work
  pub kind : work.kind ≡ Stats stat.mode stat.links
  pub of_fid : work.fid ≡ stat.fid
  pub of_layout : work.layout ≡ stat.layout
  pub is : ((stage ≡ Enqueued work) × LacksOf past c (wants_of stat.layout stat.fid (Stats stat.mode stat.links)) work)
      ⊎ ((lock : Lock) × (stage ≡ Came work lock) × ((from : ℕ) × (reply : ReplyTo) × (running.asking ≡ Answered from reply)))

-- a call on objects goes on: it waits for no reply
pub record BareStandsOk (past : List Line) (at : At) (c slot : ℕ) (r : Running) : Type 0 where
  pub running : Running
  pub call : call_at c slot past ≡ Some running
  pub small : slot < 4
  pub still : running.asking ≡ Asked → ⊥
  pub stage : Stage
  pub pins : List LockName
  pub is : r ≡ record running { stage = stage; pins = pins }
  pub how : BareSizesStand past at running stage pins ⊎ BareLockStand past c running stage ⊎ BareStatStand past at c running stage pins
  pub had : HadUsed c slot past stage

-- of a glimpse that has one size of each object of its file; it acts in this turn
pub record BareSizesToldOk (past : List Line) (at : At) (c slot : ℕ) (turn : At) (told : Answer) (work : Option Work) : Type 0 where
  pub running : Running
  pub call : call_at c slot past ≡ Some running
  pub handle : ℕ
  pub glimpses : IsGlimpse running handle
  pub sizes : List ℕ
  pub so_far : BareSizesSoFar past at running sizes
  pub file : HandleFile
  pub of_file : running.file ≡ Some file
  pub each : length sizes ≡ length (wants_of file.layout file.fid (Glimpses []))
  pub served : AllServed past at (drop (bare_heard so_far) (wants_of file.layout file.fid (Glimpses [])))
  pub of_turn : turn ≡ at
  pub of_answer : told ≡ answer.Sizes sizes
  pub plain : work ≡ None

-- of a read that had a lock on each object: none has bytes. It acts in this turn
pub record BareReadToldOk (past : List Line) (at : At) (c slot : ℕ) (turn : At) (told : Answer) (work : Option Work) : Type 0 where
  pub running : Running
  pub call : call_at c slot past ≡ Some running
  pub still : running.asking ≡ Asked → ⊥
  pub read : Reads running
  pub locked : (wanted : Use) → In wanted (wants_of read.file.layout read.file.fid (Wide read.offset read.count))
      → HadLock c slot wanted past
  pub of_turn : turn ≡ at
  pub of_answer : told ≡ answer.Content []

-- of a stat of a file that had a lock on each object: it has no bytes. It acts in this turn
pub record BareStatToldOk (past : List Line) (at : At) (c slot : ℕ) (turn : At) (told : Answer) (work : Option Work) : Type 0 where
  pub running : Running
  pub call : call_at c slot past ≡ Some running
  pub still : running.asking ≡ Asked → ⊥
  pub pins : List LockName
  pub stat : BareStatOf past at c running pins
  pub locked : (wanted : Use) → In wanted (wants_of stat.layout stat.fid (Stats stat.mode stat.links)) → HadLock c slot wanted past
  pub of_turn : turn ≡ at
  pub of_answer : told ≡ answer.FileSize stat.fid stat.mode stat.links 0

-- of a `flush` that began in this turn: nothing is changed that it could write back
pub record BareFlushedOk (past : List Line) (at : At) (c slot : ℕ) (turn : At) (told : Answer) (work : Option Work) : Type 0 where
  pub running : Running
  pub call : call_at c slot past ≡ Some running
  pub handle : ℕ
  pub flushes : IsFlush running handle
  pub good : running.stage ≡ Plain
  pub new : running.asking ≡ Unasked
  pub begun : running.at ≡ at
  pub of_turn : turn ≡ at
  pub of_answer : told ≡ answer.Done
  pub plain : work ≡ None

-- ---- object storage targets

-- a glimpse is told the size of an object that nothing was written to
pub record BareSizedOk (osts : ℕ) (past : List Line) (at : At) (d : Deed) : Type 0 where
  pub serves : IsServing osts past
  pub request : RequestOf
  pub waits : In request (server_of osts past).waiting
  pub resource : Resource
  pub of_op : request.op ≡ op.Size resource
  pub is : d ≡ told_on (server_of osts past) at request none [] (answer.Size 0)

abbrev pub BareActsOk : ℕ → List Line → At → ℕ → Deed → Type 0
BareActsOk osts past at t d = ((t ≡ 0) × ActOk osts past at d) ⊎ ((0 < t) × BareSizedOk osts past at d)

-- who asks for a lock to read under gets the next one, on the whole object, to which nothing was written
pub record BareRangeOk (osts : ℕ) (past : List Line) (at : At) (lock : Lock) (d : Deed) : Type 0 where
  pub serves : IsServing osts past
  pub room : (server_of osts past).cookie + 1 ≤ first_of (server_of osts past).boot + 4294967295
  pub request : RequestOf
  pub waits : In request (server_of osts past).waiting
  pub resource : Resource
  pub extent : Extent
  pub of_op : request.op ≡ op.Enqueue resource PR extent
  pub of_lock : lock ≡ read_lock (server_of osts past) request resource
  pub is : d ≡ told_on (server_of osts past) at request none [] (answer.Granted lock.cookie whole 0)

abbrev pub BareGrantsOk : ℕ → List Line → At → ℕ → Lock → Deed → Type 0
BareGrantsOk osts past at t lock d = ((t ≡ 0) × GrantOk osts past lock d) ⊎ ((0 < t) × BareRangeOk osts past at lock d)

-- ---- all entries

-- over the whole past
abbrev pub BareOk : List Line → At → Node → Entry → Type 0
BareOk past at (Client c) (Begin slot running) = BareBeginOk past at c slot running
BareOk past at (Client c) (Queues t q) = BareQueuesOk past c t q
BareOk past at (Client c) (Stands slot running) = BareStandsOk past at c slot running
BareOk past at (Client c) (Told slot turn answer work) =
    ToldOk past at c slot turn answer work
    ⊎ KnownOk past at c slot turn answer work
    ⊎ EndsOk past at c slot turn answer work
    ⊎ BadOk past at c slot turn answer work
    ⊎ BareSizesToldOk past at c slot turn answer work
    ⊎ BareFlushedOk past at c slot turn answer work
    ⊎ BareReadToldOk past at c slot turn answer work
    ⊎ BareStatToldOk past at c slot turn answer work
BareOk past at (Client c) (Hold t lock marked size seen) = HoldsOk past at t lock marked size seen
BareOk past at (Client c) (Pins name) = IsUnmarked past c name
BareOk past at (Client c) (Changes resource change) = ⊥
BareOk past at (Client c) (WritesBack resource change) = ⊥
BareOk past at (Client c) (Shows resource cookie last) = ⊥
BareOk past at (Client c) (Acks resource) = ⊥
BareOk past at (Client c) (Fills resource offset bytes) = ⊥
BareOk past at (Client c) (Zeroes resource size) = ⊥
BareOk past at (Client c) (Grows resource change) = ⊥
BareOk past at (Client c) (Peek t cookie size) = ⊥
BareOk past at (Target t) (Txn d) = t ≡ 0
BareOk past at (Target t) (Block called) = t ≡ 0
BareOk past at (Target t) (Grant lock None) = ⊥
BareOk past at (Target t) (Wait lock d) = ⊥
BareOk past at (Target t) (Responds d) = ⊥
BareOk past at (Target t) (Asks g) = ⊥
BareOk past at (Target t) (Ends g) = ⊥
BareOk past at node e = EntryOk past at node e

-- over the story of one target
abbrev pub BareOf : Head → List Line → At → Node → Entry → Type 0
BareOf head past at (Client c) (Hold t lock marked size seen) = (marked ≡ false) × HeldOk past c t lock seen
BareOf head past at (Target t) (Act d) = BareActsOk head.osts past at t d
BareOf head past at (Target t) (Txn d) = TxnOk head.osts past at d
BareOf head past at (Target t) (Grant lock (Some d)) = BareGrantsOk head.osts past at t lock d
BareOf head past at (Target t) (Block called) = BlockOk head.osts past called
BareOf head past at node e = EntryOf head past at node e

-- ---- what is owed

-- a call that has just begun; but a `close` may wait for other calls on its open, and what a `flush` or a `glimpse` does next isn't told
-- here
abbrev pub BareOwesBegun : (SameTurn : Type 0) → ℕ → Stage → Call → Entry → Type 0
BareOwesBegun SameTurn slot Bad c e = SameTurn × Starts slot Bad e
BareOwesBegun SameTurn slot stage (call.Close h) e = Unit {0}
BareOwesBegun SameTurn slot stage (call.Read h offset count) e = SameTurn × StartsRead slot e
BareOwesBegun SameTurn slot stage (call.Write h offset bytes) e = Unit {0}
BareOwesBegun SameTurn slot stage (call.Cut h size) e = Unit {0}
BareOwesBegun SameTurn slot stage (call.Stat path) e = SameTurn × StartsStat slot e
BareOwesBegun SameTurn slot stage (call.Flush h) e = Unit {0}
BareOwesBegun SameTurn slot stage (call.Glimpse h) e = Unit {0}
BareOwesBegun SameTurn slot stage c e = SameTurn × Starts slot stage e

abbrev pub BareOwes : List Line → At → Entry → Type 0
BareOwes [] at e = Unit {0}
BareOwes (l ∷ past) at e =
    elim l.entry [
      | Begin slot running ↦ BareOwesBegun (l.at ≡ at) slot running.stage running.call e
      | Pins name ↦ (l.at ≡ at) × BareOwes past at e
      | Unpins name ↦ BareOwes past at e
      | _ ↦ Unit {0}
    ]

-- ---- a past of such a run

pub record BareAllowed (head : Head) (past : List Line) (at : At) (e : Entry) : Type 0 where
  pub wide : Allowed head past at e
  pub bare : IsBare e
  pub steps : Steps past at
  pub closes : Closes past at
  pub lives : LivesAt head past at.node
  pub owes : BareOwes past at e
  pub ok : BareOk past at at.node e
  pub of : (t : ℕ) → concerns t at.node e ≡ true → BareOf head (only t past) at at.node e

abbrev pub BareGrown : Head → List Line → Type 0
BareGrown head [] = Unit {0}
BareGrown head (l ∷ past) = BareAllowed head past l.at l.entry × BareGrown head past

-- it is a grown one
pub wide : (head : Head) (past : List Line) → BareGrown head past → Grown head past
wide head [] g = tt
wide head (l ∷ past) g = (g.0.wide, wide head past g.1)

pub all_bare : (head : Head) (past : List Line) → BareGrown head past → AllBare past
all_bare head [] g = tt
all_bare head (l ∷ past) g = (g.0.bare, all_bare head past g.1)

-- each line of one target's story
abbrev pub BareGrownOf : Head → List Line → Type 0
BareGrownOf head [] = Unit {0}
BareGrownOf head (l ∷ past) = BareOf head past l.at l.at.node l.entry × IsOfFirst l.entry × IsPlaced head past l × BareGrownOf head past
    × EntryOf head past l.at l.at.node l.entry

pub wide_of : (head : Head) (past : List Line) → BareGrownOf head past → GrownOf head past
wide_of head [] g = tt
wide_of head (l ∷ past) g = (g.4, g.1, g.2, wide_of head past g.3)
