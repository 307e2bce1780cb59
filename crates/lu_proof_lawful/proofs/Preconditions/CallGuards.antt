-- When a line of a client's calls may be added to a past: a call begins, asks, goes on and is told, and what it makes of objects. What a
-- call on bytes tells and asks for is said in the words of the rows, over what its client holds and knows just before.
use Rattle.std.proofs.Common.{◌≡◌, ℕ, suc, ◌+◌, ◌-◌, ◌<◌, Bool, true, false, List, [], ◌∷◌, ◌++◌, Option, Some, None, ◌⊎◌, inl, inr}
use Rattle.std.specs.Prelude.{length, map, drop, nat_lt, ◌==◌, ◌&&◌, ◌||◌, if◌then◌else◌}
use Rattle.lu_base.specs.declared.ids.At.{At}
use Rattle.lu_base.specs.declared.ids.Cookie.{Cookie}
use Rattle.lu_base.specs.declared.ids.Fid.{Fid}
use Rattle.lu_base.specs.declared.ids.Node.{Node}
use Rattle.lu_base.specs.declared.ids.Node.TheVariants.{Client, Target}
use Rattle.lu_base.specs.declared.ids.TargetId.{TargetId}
use Rattle.lu_base.specs.declared.ids.Who.{Who}
use Rattle.lu_base.specs.declared.locks.Extent.{Extent}
use Rattle.lu_base.specs.declared.locks.Lock.{Lock}
use Rattle.lu_base.specs.declared.locks.Mode.TheVariants.{PR, PW}
use Rattle.lu_base.specs.declared.locks.Policy.TheVariants.{Range}
use Rattle.lu_base.specs.declared.locks.Resource.{Resource}
use Rattle.lu_layout.specs.Raid0.{Raid0}
use Rattle.lu_lock.specs.Modes.{serves}
use Rattle.lu_lock.specs.Overlap.{covers}
use Rattle.lu_msg.specs.declared.answers.Answer.TheVariants as answer
use Rattle.lu_msg.specs.declared.calls.Call.{Call}
use Rattle.lu_msg.specs.declared.calls.Call.TheVariants as call
use Rattle.lu_msg.specs.declared.messages.GrantNotice.{GrantNotice}
use Rattle.lu_msg.specs.declared.messages.Message.{Message}
use Rattle.lu_msg.specs.declared.messages.Message.TheVariants as message
use Rattle.lu_msg.specs.declared.messages.Reply.{Reply as ReplyTo}
use Rattle.lu_msg.specs.declared.operations.Op.{Op}
use Rattle.lu_msg.specs.declared.operations.Op.TheVariants as op
use Rattle.lu_trace.specs.WellFormed.{IsCall}
use Rattle.lu_held.specs.declared.locks.HeldLock.{HeldLock}
use Rattle.lu_held.specs.declared.locks.Use.{Use}
use Rattle.lu_held.specs.declared.locks.Wanted.TheVariants.{ServingToTheEnd}
use Rattle.lu_held.specs.declared.names.LockName.{LockName}
use Rattle.lu_held.specs.Held.{serving}
use Rattle.lu_held.specs.Locks.{reaches_end, matches}
use Rattle.lu_spec_entries.specs.declared.changes.Flush.{Flush}
use Rattle.lu_spec_entries.specs.declared.changes.Flush.TheVariants.{Cut, Put}
use Rattle.lu_spec_entries.specs.Carried.{HandleFile, Queued, Flight, Unasked, Asked, Answered, Kind, Narrow, Wide, Writes, Cuts, Stats}
use Rattle.lu_spec_entries.specs.Carried.{Glimpses, Work, Stage, Plain, Bad, Looks, Enqueued, Waits, Came, Forgotten, Gets, Flushing, Sizes}
use Rattle.lu_spec_entries.specs.Carried.{Running}
use Rattle.lu_spec_entries.specs.declared.uses.Using.{Using}
use Rattle.lu_spec_entries.specs.Words.{Entry, Begin, Take, Heard, Hold, Unmarks, Changes, WritesBack, Shows, Serves, Pins, Unpins, Line}
use Rattle.lu_spec_entries.specs.Words.{with_turn, is_client, same_life}
use Rattle.lu_spec_client.specs.Advances.{name_under, writes, cuts}
use Rattle.lu_spec_client.specs.Caches.{brought, patch_at, held_at, patches_at}
use Rattle.lu_spec_client.specs.Imports.{Serving}
use Rattle.lu_spec_client.specs.Known.{KnownFile, names_of, cookies_of_file}
use Rattle.lu_spec_client.specs.Looks.{Page, missing, has_reached, size_under}
use Rattle.lu_spec_client.specs.Messages.{waiting_lock, granted_as}
use Rattle.lu_spec_client.specs.Patches.{Patch, in_flight}
use Rattle.lu_spec_client.specs.Recovery.{is_left_at}
use Rattle.lu_spec_client.specs.Starts.{count_on}
use Rattle.lu_spec_client.specs.States.{Store, empty_store, store_at}
use Rattle.lu_spec_client.specs.Stripes.{below_on, object, bytes_on}
use Rattle.lu_spec_client.specs.Wants.{wants_of}
use Rattle.lu_spec_client.specs.WriteBack.{operation, flush_under, is_clean}
use Rattle.lu_proof_lawful.specs.Covered.Calls.{begun, call_at, calls_at, becomes, is_bad, file_for, life_at}
use Rattle.lu_proof_lawful.specs.Covered.Runs.{IsOnBytes}
use Rattle.lu_proof_lawful.specs.Covered.Imports.{known_at, standing_at}
use Rattle.lu_proof_lawful.specs.Covered.Known.{notes_at, known_answer, known_file}
use Rattle.lu_proof_lawful.proofs.Preconditions.Heard.{HasRange, In, JustHeard, HeardNow, Learned, TookNow, Took, Later}
use Rattle.lu_proof_lawful.proofs.Preconditions.HeedMarks.{MarkNext}

-- ---- a call begins

-- a call on a good handle, with the file of that, if any; or one on a bad handle
abbrev pub Begins : ℕ → List Line → Running → Type 0
Begins c past r =
    ((is_bad c past r.call ≡ false) × (r.stage ≡ Plain) × (r.file ≡ file_for c past r.call)
    × (((o : Op) × (becomes r ≡ Some o)) ⊎ IsOnBytes r.call))
    ⊎ ((is_bad c past r.call ≡ true) × (r.stage ≡ Bad) × (r.file ≡ None))

-- that target serves the client's life, in the boot that it knows
abbrev pub is_ready_for : (c t : ℕ) → List Line → Node → Message → Bool
is_ready_for c t past (Target from) (message.Ready who boot committed) = from == t && same_life who (life_at c past) && boot ==
    known_at c t past
is_ready_for c t past _ _ = false

-- the client took a message that says so, and no line of it does since: reads Take and Serves
abbrev pub is_welcome : (c t : ℕ) → List Line → Bool
is_welcome c t [] = false
is_welcome c t (l ∷ past) =
    elim l.entry [
      | Take n from m ↦ if is_client c l.at.node then is_ready_for c t past from m || is_welcome c t past else is_welcome c t past
      | Serves u boot ↦ if is_client c l.at.node && u == t then false else is_welcome c t past
      | _ ↦ is_welcome c t past
    ]

-- no held lock that isn't pinned is marked between turns, while its target serves the life, but one to write under, whose changes are
-- written back first; and a client that is told that it does stands so by the end of the turn
pub record BeginOk (past : List Line) (at : At) (c slot : ℕ) (running : Running) : Type 0 where
  pub later : Later past at
  pub small : slot < 4
  pub free : call_at c slot past ≡ None
  pub is : running ≡ begun at running.call running.file running.stage
  pub limits : IsCall running.call
  pub begins : Begins c past running
  pub calm : (h : HeldLock) → In h (held_at c past) → standing_at c h.target.0 past ≡ Serving → h.pins ≡ 0 → (h.lock.ask.mode ≡ PW → ⊥)
      → h.marked ≡ false
  pub ready : (t : ℕ) → is_welcome c t past ≡ false

-- a close is the only call on its open: it waits for the others
abbrev pub IsAlone : List Line → ℕ → Call → Option HandleFile → Type 0
IsAlone past c (call.Close handle) (Some file) = nat_lt 1 (count_on file.number.0 (calls_at c past)) ≡ false
IsAlone past c _ _ = Unit {0}

-- ---- the work of a call on bytes is what the call says

abbrev pub IsGlimpse : Running → ℕ → Type 0
IsGlimpse r handle = r.call ≡ call.Glimpse handle

abbrev pub IsFlush : Running → ℕ → Type 0
IsFlush r handle = r.call ≡ call.Flush handle

abbrev pub IsRead : Running → ℕ → ℕ → ℕ → Type 0
IsRead r handle offset count = r.call ≡ call.Read handle offset count

-- a read, on a good handle
pub record Reads (running : Running) : Type 0 where
  pub handle : ℕ
  pub offset : ℕ
  pub count : ℕ
  pub reads : IsRead running handle offset count
  pub good : running.stage ≡ Bad → ⊥
  pub file : HandleFile
  pub of_file : running.file ≡ Some file

-- the work of a read, narrow or to the end
pub record ReadsOn (r : Running) (work : Work) : Type 0 where
  pub read : Reads r
  pub kind : (work.kind ≡ Narrow read.offset read.count) ⊎ (work.kind ≡ Wide read.offset read.count)
  pub fid : work.fid ≡ read.file.fid
  pub layout : work.layout ≡ read.file.layout

-- that of a write
pub record WritesOn (r : Running) (work : Work) : Type 0 where
  pub handle : ℕ
  pub offset : ℕ
  pub bytes : List ℕ
  pub writes : r.call ≡ call.Write handle offset bytes
  pub good : r.stage ≡ Bad → ⊥
  pub file : HandleFile
  pub of_file : r.file ≡ Some file
  pub kind : work.kind ≡ Writes offset bytes
  pub fid : work.fid ≡ file.fid
  pub layout : work.layout ≡ file.layout

-- that of a cut
pub record CutsOn (r : Running) (work : Work) : Type 0 where
  pub handle : ℕ
  pub size : ℕ
  pub cuts : r.call ≡ call.Cut handle size
  pub good : r.stage ≡ Bad → ⊥
  pub file : HandleFile
  pub of_file : r.file ≡ Some file
  pub kind : work.kind ≡ Cuts size
  pub fid : work.fid ≡ file.fid
  pub layout : work.layout ≡ file.layout

-- a call that changes bytes
abbrev pub ChangesOn : Running → Work → Type 0
ChangesOn r work = WritesOn r work ⊎ CutsOn r work

abbrev pub IsChange : Call → Type 0
IsChange (call.Write handle offset bytes) = Unit {0}
IsChange (call.Cut handle size) = Unit {0}
IsChange _ = ⊥

-- these are the objects whose locks are in use, and then those that are left
abbrev pub InOrder : List Use → Work → Type 0
InOrder wants work = wants ≡ map (λ (u : Using). u.want) work.used ++ work.left

-- what it wants of each object
abbrev pub wanted_by : Work → List Use
wanted_by w = wants_of w.layout w.fid w.kind

-- the work of a call that has come so far, if any
abbrev pub work_in : Stage → Option Work
work_in (Looks w) = Some w
work_in (Enqueued w) = Some w
work_in (Waits w target lock marked) = Some w
work_in (Came w lock) = Some w
work_in (Forgotten w) = Some w
work_in (Gets w) = Some w
work_in (Sizes w) = Some w
work_in _ = None

-- ---- it asks

-- a call on names that has asked nothing yet and isn't known asks the metadata target
pub record NamesAskOk (past : List Line) (c t : ℕ) (running : Running) (o : Op) : Type 0 where
  pub good : running.stage ≡ Plain
  pub new : running.asking ≡ Unasked
  pub names : t ≡ 0
  pub becomes : becomes running ≡ Some o
  pub unknown : known_answer (notes_at c past) running.call ≡ None
  pub unknown_file : known_file (notes_at c past) running.call ≡ None
  pub alone : IsAlone past c running.call running.file

-- a glimpse asks the target that has the first of the objects that are left how long that is
pub record SizeAskOk (t : ℕ) (running : Running) (o : Op) : Type 0 where
  pub work : Work
  pub stage : running.stage ≡ Sizes work
  pub still : running.asking ≡ Asked → ⊥
  pub wanted : Use
  pub left : List Use
  pub first : work.left ≡ wanted ∷ left
  pub of_target : t ≡ wanted.target.0
  pub object : 0 < t
  pub of_op : o ≡ op.Size wanted.resource

-- a call on bytes asks the target that has the first of the objects that are left for the lock that it wants there: to read under, or,
-- where it changes bytes, to write under
pub record LockAskOk (t : ℕ) (running : Running) (o : Op) : Type 0 where
  pub work : Work
  pub stage : running.stage ≡ Enqueued work
  pub still : running.asking ≡ Asked → ⊥
  pub wanted : Use
  pub left : List Use
  pub first : work.left ≡ wanted ∷ left
  pub among : In wanted (wanted_by work)
  pub of_target : t ≡ wanted.target.0
  pub object : 0 < t
  pub mode : (wanted.mode ≡ PR) ⊎ ((wanted.mode ≡ PW) × IsChange running.call)
  pub extent : Extent
  pub policy : wanted.policy ≡ Range extent
  pub of_op : o ≡ op.Enqueue wanted.resource wanted.mode extent

-- a read fetches the first page that is missing of its positions, under a lock in use, which it has pinned
pub record GetAskOk (past : List Line) (c t : ℕ) (running : Running) (o : Op) : Type 0 where
  pub work : Work
  pub stage : running.stage ≡ Gets work
  pub still : running.asking ≡ Asked → ⊥
  pub read : ReadsOn running work
  pub page : Page
  pub lacks : missing work.layout read.read.offset (read.read.offset + read.read.count) (store_at c past) work.used ≡ Some page
  pub used : In page.under work.used
  pub pinned : In (name_under page.under.want page.under.lock) running.pins
  pub of_target : t ≡ page.under.want.target.0
  pub object : 0 < t
  pub of_op : o ≡ op.Get page.under.want.resource page.under.lock.cookie page.page

-- for a call
pub record CallAsksOk (past : List Line) (c t : ℕ) (q : Queued) : Type 0 where
  pub slot : ℕ
  pub serves : q.slot ≡ Some slot
  pub running : Running
  pub call : call_at c slot past ≡ Some running
  pub asks : NamesAskOk past c t running q.op ⊎ SizeAskOk t running q.op ⊎ LockAskOk t running q.op ⊎ GetAskOk past c t running q.op

-- the newest line is that of the client, and takes the change to write it back: it was the next one under that lock
abbrev pub TakesBack : List Line → ℕ → Lock → Flush → Type 0
TakesBack [] c lock change = ⊥
TakesBack (l ∷ past) c lock change =
    (l.at.node ≡ Client c)
    × (l.entry ≡ WritesBack lock.resource change)
    × (flush_under (patch_at lock.resource (patches_at c past)) lock.ask.mode lock.ask.policy ≡ Some change)

-- a change that was just taken is written back, for no call, under the held lock to write under that it was taken under, of that target
pub record BackAskOk (past : List Line) (c t : ℕ) (q : Queued) : Type 0 where
  pub serves : q.slot ≡ None
  pub holding : HeldLock
  pub held : In holding (held_at c past)
  pub of_target : holding.target.0 ≡ t
  pub object : 0 < t
  pub mode : holding.lock.ask.mode ≡ PW
  pub change : Flush
  pub takes : TakesBack past c holding.lock change
  pub of_op : q.op ≡ operation holding.lock.resource holding.lock.cookie change

abbrev pub QueuesOk : List Line → (c t : ℕ) → Queued → Type 0
QueuesOk past c t q = CallAsksOk past c t q ⊎ BackAskOk past c t q

-- ---- the locks in use

-- a held lock is on that object
pub record Locked (c : ℕ) (past : List Line) (wanted : Use) : Type 0 where
  pub holding : HeldLock
  pub held : In holding (held_at c past)
  pub of_target : holding.target.0 ≡ wanted.target.0
  pub of_object : holding.lock.resource ≡ wanted.resource
  pub ranged : HasRange holding.lock.ask.policy

-- the locks that a call on bytes has in use
abbrev pub used_of : Option Work → List Using
used_of None = []
used_of (Some work) = work.used

abbrev pub used_in : Stage → List Using
used_in stage = used_of (work_in stage)

-- the lock serves for what is wanted: its mode does, and it covers the range
abbrev pub LockDoes : Using → Type 0
LockDoes u = (serves u.lock.ask.mode u.want.mode ≡ true) × (covers u.lock.ask.policy u.want.policy ≡ true)

-- or it is the lock that came, for the first of the objects that are left
abbrev pub CameFor : Running → Using → Type 0
CameFor running u = (work : Work) × (left : List Use) × (running.stage ≡ Came work u.lock) × (work.left ≡ u.want ∷ left)

-- a held lock that serves to the end is used before one that doesn't reach it
abbrev pub EndFirst : ℕ → List Line → Using → Type 0
EndFirst c past u = (h : HeldLock) → In h (held_at c past) → matches (ServingToTheEnd u.want) h ≡ true → reaches_end u.lock.ask.policy
    ≡ true

-- it is held now, and serves or came for what is wanted; where it didn't come it isn't called back, and reaches the end if one does
pub record HeldFor (c : ℕ) (past : List Line) (running : Running) (u : Using) : Type 0 where
  pub locked : Locked c past u.want
  pub is : locked.holding.lock ≡ u.lock
  pub does : LockDoes u ⊎ CameFor running u
  pub apart : ((locked.holding.marked ≡ false) × EndFirst c past u) ⊎ CameFor running u

-- each lock in use was in use before, or is held now
abbrev pub UsesHeld : ℕ → List Line → Running → List Using → Type 0
UsesHeld c past running us = (u : Using) → In u us → In u (used_in running.stage) ⊎ HeldFor c past running u

-- ---- changes of objects

-- the lines that a call that changes bytes makes of these objects, one after another
abbrev pub pieces_of : Raid0 → Kind → List Using → List Entry
pieces_of l (Writes offset bytes) us = writes l offset bytes us
pieces_of l (Cuts size) us = cuts l size us
pieces_of l _ us = []

-- the change that it makes of one
abbrev pub piece_on : Raid0 → Kind → ℕ → Option Flush
piece_on l (Writes offset bytes) stripe = Some (Put (below_on l stripe offset) (bytes_on l stripe offset bytes))
piece_on l (Cuts size) stripe = Some (Cut (below_on l stripe size))
piece_on l _ stripe = None

-- the newest line is no change of an object, and shows no byte of one
abbrev pub NewestChanges : List Line → Type 0
NewestChanges [] = ⊥
NewestChanges (l ∷ past) = elim l.entry [ Changes resource change ↦ Unit {0} | _ ↦ ⊥ ]

abbrev pub NotChanging : List Line → Type 0
NotChanging [] = Unit {0}
NotChanging (l ∷ past) = elim l.entry [ Changes resource change ↦ ⊥ | Shows resource cookie last ↦ NewestChanges past → ⊥ | _ ↦ Unit {0} ]

-- a call that changes bytes, and has all its locks in use, changes one object after another; no other call is at its changes
pub record ChangesOk (past : List Line) (at : At) (c : ℕ) (resource : Resource) (change : Flush) : Type 0 where
  pub slot : ℕ
  pub running : Running
  pub call : call_at c slot past ≡ Some running
  pub still : running.asking ≡ Asked → ⊥
  pub work : Work
  pub does : ChangesOn running work
  pub wants : wanted_by work ≡ map (λ (u : Using). u.want) work.used
  pub done : List Using
  pub next : Using
  pub more : List Using
  pub parts : work.used ≡ done ++ next ∷ more
  pub of_object : resource ≡ next.want.resource
  pub is : piece_on work.layout work.kind next.want.resource.stripe ≡ Some change
  pub before : List Line
  pub made : past ≡ with_turn at (pieces_of work.layout work.kind done) before
  pub fresh : NotChanging before
  pub uses : UsesHeld c past running work.used

-- a change is taken to be written back under a held lock to write under: it is the next one there, and none is under way
pub record WritesBackOk (past : List Line) (c : ℕ) (resource : Resource) (change : Flush) : Type 0 where
  pub holding : HeldLock
  pub held : In holding (held_at c past)
  pub mode : holding.lock.ask.mode ≡ PW
  pub of_object : holding.lock.resource ≡ resource
  pub next : flush_under (patch_at resource (patches_at c past)) holding.lock.ask.mode holding.lock.ask.policy ≡ Some change
  pub alone : in_flight (patch_at resource (patches_at c past)) ≡ false

-- in the newest line, of that turn, bytes of the object were written from that offset on
abbrev pub WroteNow : List Line → At → Resource → ℕ → List ℕ → Type 0
WroteNow [] at resource first bytes = ⊥
WroteNow (l ∷ past) at resource first bytes = (l.at ≡ at) × (l.entry ≡ Changes resource (Put first bytes))

-- the last of the bytes that a call just wrote is shown under the lock that it has in use there; or what a page brought is
pub record ShowsWritten (past : List Line) (at : At) (c : ℕ) (resource : Resource) (cookie : Cookie) (last : ℕ) : Type 0 where
  pub slot : ℕ
  pub running : Running
  pub call : call_at c slot past ≡ Some running
  pub work : Work
  pub does : ChangesOn running work
  pub wants : wanted_by work ≡ map (λ (u : Using). u.want) work.used
  pub uses : UsesHeld c past running work.used
  pub under : Using
  pub among : In under work.used
  pub of_cookie : under.lock.cookie ≡ cookie
  pub of_object : under.want.resource ≡ resource
  pub first : ℕ
  pub bytes : List ℕ
  pub piece : piece_on work.layout work.kind resource.stripe ≡ Some (Put first bytes)
  pub wrote : WroteNow past at resource first bytes
  pub is : last ≡ first + length bytes - 1

abbrev pub ShowsOk : List Line → At → ℕ → Resource → Cookie → ℕ → Type 0
ShowsOk past at c resource cookie last = ShowsWritten past at c resource cookie last ⊎ MarkNext past c (Shows resource cookie last)

-- ---- a glimpse goes on

abbrev pub held_by : Node → List Line → List HeldLock
held_by (Client c) past = held_at c past
held_by (Target t) past = []

abbrev pub store_by : Node → List Line → Store
store_by (Client c) past = store_at c past
store_by (Target t) past = empty_store

-- of each of these objects it has the size under a held lock that serves
abbrev pub AllSized : List HeldLock → Store → List Use → List ℕ → Type 0
AllSized held s [] [] = Unit {0}
AllSized held s (u ∷ us) (n ∷ ns) = ((h : HeldLock) × (serving u held ≡ Some h) × (n ≡ size_under h.lock s)) × AllSized held s us ns
AllSized held s _ _ = ⊥

-- the reply just heard told a glimpse how long an object is; then come those that it holds a lock on
pub record HeardSize (past : List Line) (at : At) (running : Running) (sizes : List ℕ) : Type 0 where
  pub work : Work
  pub stage : running.stage ≡ Sizes work
  pub before : List ℕ
  pub kind : work.kind ≡ Glimpses before
  pub target : ℕ
  pub reply : ReplyTo
  pub answered : running.asking ≡ Answered target reply
  pub heard : JustHeard past at target reply
  pub size : ℕ
  pub tells : reply.answer ≡ answer.Size size
  pub held : List ℕ
  pub more : sizes ≡ before ++ size ∷ held

-- as a glimpse begins it has the sizes of those alone
pub record NoneHeard (at : At) (running : Running) (sizes : List ℕ) : Type 0 where
  pub plain : running.stage ≡ Plain
  pub new : running.asking ≡ Unasked
  pub begun : running.at ≡ at

-- the target left it to the lock, or it looks for that anew: then come those that it holds a lock on, and that one is the first of them
pub record LeftSize (past : List Line) (at : At) (running : Running) (sizes : List ℕ) : Type 0 where
  pub work : Work
  pub stage : ((running.stage ≡ Sizes work) × ((target : ℕ) × (reply : ReplyTo) × (running.asking ≡ Answered target reply)
      × JustHeard past at target reply × (reply.answer ≡ answer.Lock))) ⊎ (running.stage ≡ Looks work)
  pub before : List ℕ
  pub kind : work.kind ≡ Glimpses before
  pub held : List ℕ
  pub more : sizes ≡ before ++ held

-- the lock came that it asked for, and is held: the size under it, and then of those that it holds a lock on
pub record CameSize (past : List Line) (at : At) (running : Running) (sizes : List ℕ) : Type 0 where
  pub work : Work
  pub lock : Lock
  pub stage : running.stage ≡ Came work lock
  pub wanted : Use
  pub left : List Use
  pub first : work.left ≡ wanted ∷ left
  pub holding : HeldLock
  pub holds : In holding (held_by at.node past)
  pub of_target : holding.target.0 ≡ wanted.target.0
  pub is : holding.lock ≡ lock
  pub of_object : lock.resource ≡ wanted.resource
  pub ranged : HasRange lock.ask.policy
  pub before : List ℕ
  pub kind : work.kind ≡ Glimpses before
  pub held : List ℕ
  pub more : sizes ≡ before ++ size_under lock (store_by at.node past) ∷ held

-- the sizes that a glimpse has: as it begins, or with one more that it was told, or that it has under a lock
abbrev pub SizesSoFar : List Line → At → Running → List ℕ → Type 0
SizesSoFar past at running sizes = NoneHeard at running sizes ⊎ HeardSize past at running sizes ⊎ LeftSize past at running sizes
    ⊎ CameSize past at running sizes

-- so many sizes it has before those of the locks that serve
abbrev pub heard_sizes : {past : List Line} {at : At} {running : Running} {sizes : List ℕ} → SizesSoFar past at running sizes → ℕ
heard_sizes (inl none) = 0
heard_sizes (inr (inl heard)) = suc (length heard.before)
heard_sizes (inr (inr (inl left))) = length left.before
heard_sizes (inr (inr (inr came))) = suc (length came.before)

-- it has these sizes of the objects of its file, in the order of stripes, before those that are left
pub record HasSizes (past : List Line) (at : At) (running : Running) (sizes : List ℕ) (before left : List Use) : Type 0 where
  pub handle : ℕ
  pub glimpses : IsGlimpse running handle
  pub file : HandleFile
  pub of_file : running.file ≡ Some file
  pub so_far : SizesSoFar past at running sizes
  pub all : wants_of file.layout file.fid (Glimpses []) ≡ before ++ left
  pub each : length before ≡ length sizes
  pub served : AllSized (held_by at.node past) (store_by at.node past) (drop (heard_sizes so_far) before) (drop (heard_sizes so_far) sizes)

-- a glimpse goes on to the next object of its file: it asks how long that is, or for the lock on it, where its target left it to that, and
-- no held lock serves there
pub record SizesStand (past : List Line) (at : At) (running : Running) (stage : Stage) (pins : List LockName) : Type 0 where
  pub work : Work
  pub sizes : List ℕ
  pub is : (stage ≡ Sizes work) ⊎ ((stage ≡ Enqueued work) × LeftSize past at running sizes)
  pub same : pins ≡ running.pins
  pub kind : work.kind ≡ Glimpses sizes
  pub before : List Use
  pub wanted : Use
  pub left : List Use
  pub first : work.left ≡ wanted ∷ left
  pub has : HasSizes past at running sizes before work.left
  pub lacks : serving wanted (held_by at.node past) ≡ None

-- ---- a read, a write or a cut goes on

-- of these, in the order of stripes, those before the next one have their locks in use, and no held lock serves there
pub record LacksOf (past : List Line) (c : ℕ) (all : List Use) (work : Work) : Type 0 where
  pub wanted : Use
  pub left : List Use
  pub first : work.left ≡ wanted ∷ left
  pub order : InOrder all work
  pub lacks : serving wanted (held_at c past) ≡ None

-- since that past locks were pinned and unpinned alone
abbrev pub PinsSince : List Line → List Line → Type 0
PinsSince before [] = before ≡ []
PinsSince before (l ∷ past) = (before ≡ l ∷ past) ⊎ elim l.entry
    [ Pins name ↦ PinsSince before past | Unpins name ↦ PinsSince before past | _ ↦ ⊥ ]

-- a narrow read of these positions had all its locks in use, missed none of its bytes, and hadn't reached
pub record Narrowed (c : ℕ) (past : List Line) (running : Running) (work : Work) (offset count : ℕ) : Type 0 where
  pub before : List Line
  pub since : PinsSince before past
  pub used : List Using
  pub wants : wants_of work.layout work.fid (Narrow offset count) ≡ map (λ (u : Using). u.want) used
  pub uses : UsesHeld c before running used
  pub none : missing work.layout offset (offset + count) (store_at c before) used ≡ None
  pub short : has_reached work.layout (offset + count - 1) used (store_at c before) ≡ false

-- one to the end was one before, or just came of a narrow one
abbrev pub Wider : ℕ → List Line → Running → Work → Type 0
Wider c past running work =
    (offset count : ℕ) → work.kind ≡ Wide offset count → ((old : Work) × (work_in running.stage ≡ Some old)
    × (old.kind ≡ Wide offset count)) ⊎ Narrowed c past running work offset count

-- it asks for the lock on the next of the objects that it wants
pub record LockStand (past : List Line) (c : ℕ) (running : Running) (stage : Stage) : Type 0 where
  pub work : Work
  pub is : stage ≡ Enqueued work
  pub does : ReadsOn running work ⊎ ChangesOn running work
  pub lacks : LacksOf past c (wanted_by work) work
  pub wider : Wider c past running work

-- with all its locks in use a read fetches the first page that is missing
pub record GetStand (past : List Line) (c : ℕ) (running : Running) (stage : Stage) (pins : List LockName) : Type 0 where
  pub work : Work
  pub is : stage ≡ Gets work
  pub does : ReadsOn running work
  pub wants : wanted_by work ≡ map (λ (u : Using). u.want) work.used
  pub mine : (u : Using) → In u work.used → In (name_under u.want u.lock) pins
  pub page : Page
  pub lacks : missing work.layout does.read.offset (does.read.offset + does.read.count) (store_at c past) work.used ≡ Some page
  pub wider : Wider c past running work

-- ---- a stat of a file, of which all but the size is known

-- as it begins its client knows that; it pins the locks under which it does
pub record KnowsFile (past : List Line) (at : At) (c : ℕ) (running : Running) (pins : List LockName) (fid : Fid) (mode links : ℕ)
    (layout : Raid0) : Type 0 where
  pub plain : running.stage ≡ Plain
  pub new : running.asking ≡ Unasked
  pub begun : running.at ≡ at
  pub file : KnownFile
  pub known : known_file (notes_at c past) running.call ≡ Some file
  pub of_fid : fid ≡ file.fid
  pub of_mode : mode ≡ file.mode
  pub of_links : links ≡ file.links
  pub of_layout : layout ≡ file.layout
  pub pinned : (name : LockName) → In name (names_of file.cookies) → In name pins

-- the reply just heard told it so; it pins the locks under which that is known by now
pub record ToldFile (past : List Line) (at : At) (c : ℕ) (running : Running) (pins : List LockName) (path : List (List ℕ)) (fid : Fid)
    (mode links : ℕ) (layout : Raid0) : Type 0 where
  pub plain : running.stage ≡ Plain
  pub target : ℕ
  pub reply : ReplyTo
  pub answered : running.asking ≡ Answered target reply
  pub heard : JustHeard past at target reply
  pub flight : Flight
  pub learned : Learned past at target flight reply
  pub tells : reply.answer ≡ answer.FileStat fid mode links layout
  pub pinned : (name : LockName) → In name (names_of (cookies_of_file (notes_at c past) path fid)) → In name pins

-- it went on so before, and has pinned these
pub record GoesOn (running : Running) (pins : List LockName) (fid : Fid) (mode links : ℕ) (layout : Raid0) : Type 0 where
  pub work : Work
  pub stage : work_in running.stage ≡ Some work
  pub kind : work.kind ≡ Stats mode links
  pub of_fid : fid ≡ work.fid
  pub of_layout : layout ≡ work.layout
  pub pinned : (name : LockName) → In name running.pins → In name pins

-- a stat of a file, that isn't on its last lines: what it tells beside the size, and the locks that it has pinned
pub record StatOf (past : List Line) (at : At) (c : ℕ) (running : Running) (pins : List LockName) : Type 0 where
  pub path : List (List ℕ)
  pub stats : running.call ≡ call.Stat path
  pub good : running.stage ≡ Bad → ⊥
  pub fid : Fid
  pub mode : ℕ
  pub links : ℕ
  pub layout : Raid0
  pub from : KnowsFile past at c running pins fid mode links layout ⊎ ToldFile past at c running pins path fid mode links layout
      ⊎ GoesOn running pins fid mode links layout

-- it asks for the lock on the next of the objects, in the order of stripes, which no held one serves
pub record StatStand (past : List Line) (at : At) (c : ℕ) (running : Running) (stage : Stage) (pins : List LockName) : Type 0 where
  pub stat : StatOf past at c running pins
  pub work : Work
  pub kind : work.kind ≡ Stats stat.mode stat.links
  pub of_fid : work.fid ≡ stat.fid
  pub of_layout : work.layout ≡ stat.layout
  pub is : stage ≡ Enqueued work
  pub lacks : LacksOf past c (wanted_by work) work

-- ---- a message moves a call on bytes, which keeps its work and its pins

-- the reply to its request was just heard
pub record Replied (past : List Line) (at : At) (running : Running) : Type 0 where
  pub target : ℕ
  pub reply : ReplyTo
  pub answered : running.asking ≡ Answered target reply
  pub heard : JustHeard past at target reply

-- the lock that it waited for was just granted
pub record LockGranted (past : List Line) (at : At) (running : Running) (work : Work) (lock : Lock) : Type 0 where
  pub target : TargetId
  pub waiting : Lock
  pub marked : Bool
  pub stage : running.stage ≡ Waits work target waiting marked
  pub notice : GrantNotice
  pub took : Took past at (Target target.0) (message.Grant notice)
  pub is : lock ≡ granted_as waiting notice.extent

-- the reply just heard brings the lock that was asked for on the first of the objects that are left
pub record LockBrought (past : List Line) (at : At) (running : Running) (work : Work) (lock : Lock) : Type 0 where
  pub stage : running.stage ≡ Enqueued work
  pub answers : Replied past at running
  pub wanted : Use
  pub left : List Use
  pub first : work.left ≡ wanted ∷ left
  pub of_target : answers.target ≡ wanted.target.0
  pub flight : Flight
  pub now : HeardNow past at answers.target flight answers.reply
  pub extent : Extent
  pub policy : wanted.policy ≡ Range extent
  pub of_op : flight.op ≡ op.Enqueue wanted.resource wanted.mode extent
  pub brings : In lock (brought flight.op answers.reply)

-- whether the lock of that name came marked, and still is so by what came since: an answer of its target brings locks without marks, and
-- once the
-- target serves again they have none: reads Hold, Heard and Unmarks
abbrev pub came_marked : ℕ → LockName → List Line → Bool
came_marked c name [] = false
came_marked c name (l ∷ past) =
    elim l.entry [
      | Hold t lock marked size seen ↦ if is_client c l.at.node && (t == name.target.0 && lock.cookie.0 == name.cookie.0) then marked
          else came_marked c name past
      | Heard t flight reply ↦ if is_client c l.at.node && t == name.target.0 then false else came_marked c name past
      | Unmarks t ↦ if is_client c l.at.node && t == name.target.0 then false else came_marked c name past
      | _ ↦ came_marked c name past
    ]

-- how the lock came: without a mark with a reply, or as the call stood that waited for it
abbrev pub came_as : {past : List Line} {at : At} {running : Running} {work : Work} {lock : Lock} → LockBrought past at running work lock
    ⊎ LockGranted past at running work lock → Bool
came_as (inl brought) = false
came_as (inr granted) = granted.marked

-- the lock that it asked for came, with the reply or once it had waited: it is held, with the mark with which it came
pub record CameStand (past : List Line) (at : At) (c : ℕ) (running : Running) (stage : Stage) : Type 0 where
  pub work : Work
  pub lock : Lock
  pub is : stage ≡ Came work lock
  pub from : LockBrought past at running work lock ⊎ LockGranted past at running work lock
  pub wanted : Use
  pub left : List Use
  pub first : work.left ≡ wanted ∷ left
  pub holding : HeldLock
  pub held : In holding (held_at c past)
  pub same : holding.lock ≡ lock
  pub of_target : holding.target.0 ≡ wanted.target.0
  pub holds : holding.marked ≡ came_marked c (name_under wanted lock) past
  pub flag : came_marked c (name_under wanted lock) past ≡ came_as from

-- it is told to wait for it: in the newest line it heard so
pub record WaitStand (past : List Line) (at : At) (c : ℕ) (running : Running) (stage : Stage) : Type 0 where
  pub work : Work
  pub wanted : Use
  pub left : List Use
  pub first : work.left ≡ wanted ∷ left
  pub before : running.stage ≡ Enqueued work
  pub answers : Replied past at running
  pub of_target : answers.target ≡ wanted.target.0
  pub flight : Flight
  pub now : HeardNow past at answers.target flight answers.reply
  pub extent : Extent
  pub policy : wanted.policy ≡ Range extent
  pub of_op : flight.op ≡ op.Enqueue wanted.resource wanted.mode extent
  pub cookie : Cookie
  pub tells : answers.reply.answer ≡ answer.Waiting cookie
  pub is : stage ≡ Waits work wanted.target (waiting_lock (life_at c past) cookie wanted) false

-- a lock that it waits for is called back
pub record MarkStand (past : List Line) (at : At) (running : Running) (stage : Stage) : Type 0 where
  pub work : Work
  pub target : TargetId
  pub lock : Lock
  pub marked : Bool
  pub before : running.stage ≡ Waits work target lock marked
  pub took : (who : Who) × (boot : ℕ) × TookNow past at (Target target.0) (message.Block who boot lock.cookie)
  pub is : stage ≡ Waits work target lock true

-- its target was booted again, which has forgotten it
pub record ForgotStand (past : List Line) (at : At) (running : Running) (stage : Stage) : Type 0 where
  pub work : Work
  pub target : TargetId
  pub lock : Lock
  pub marked : Bool
  pub before : running.stage ≡ Waits work target lock marked
  pub took : (boot : ℕ) × Took past at (Target target.0) (message.Up boot)
  pub is : stage ≡ Forgotten work

-- it looks for its locks anew: its target, which had forgotten it, serves; or the page that it fetched came
pub record LookStand (past : List Line) (at : At) (running : Running) (stage : Stage) : Type 0 where
  pub work : Work
  pub is : stage ≡ Looks work
  pub from : ((running.stage ≡ Forgotten work) × ((t : ℕ) × (who : Who) × (boot committed : ℕ)
      × Took past at (Target t) (message.Ready who boot (record { 0 = committed })) × (is_left_at t work.left ≡ true)))
      ⊎ ((running.stage ≡ Gets work) × Replied past at running)

abbrev pub MovedStand : List Line → At → ℕ → Running → Stage → Type 0
MovedStand past at c running stage =
    CameStand past at c running stage ⊎ WaitStand past at c running stage ⊎ MarkStand past at running stage
    ⊎ ForgotStand past at running stage ⊎ LookStand past at running stage

-- ---- a flush goes on

-- the object has a change of the client, or one is under way
abbrev pub HasChange : Patch → Type 0
HasChange p = (in_flight p ≡ true) ⊎ (is_clean p ≡ false)

-- it waits for the first of its file's objects that has a change
pub record FlushStand (past : List Line) (c : ℕ) (running : Running) (stage : Stage) (pins : List LockName) : Type 0 where
  pub handle : ℕ
  pub flushes : IsFlush running handle
  pub good : running.stage ≡ Bad → ⊥
  pub file : HandleFile
  pub of_file : running.file ≡ Some file
  pub same : pins ≡ running.pins
  pub stripe : ℕ
  pub is : stage ≡ Flushing stripe
  pub dirty : HasChange (patch_at (object file.fid stripe) (patches_at c past))

-- ---- of each object in use the client held a lock since its call began

-- what follows, but not where the call in the slot began
abbrev pub Unless : Bool → Type 0 → Type 0
Unless true A = ⊥
Unless false A = A

-- since the call in that slot of the client began, it held a lock on that object: reads Begin
abbrev pub HadLock : (c slot : ℕ) → Use → List Line → Type 0
HadLock c slot wanted [] = ⊥
HadLock c slot wanted (l ∷ past) =
    Locked c (l ∷ past) wanted
    ⊎ elim l.entry [
      | Begin s running ↦ Unless (is_client c l.at.node && s == slot) (HadLock c slot wanted past)
      | _
          ↦ HadLock c slot wanted past
    ]

-- it had a lock on each of those objects
abbrev pub HadUsed : (c slot : ℕ) → List Line → Stage → Type 0
HadUsed c slot past stage = (u : Using) → In u (used_in stage) → HadLock c slot u.want past

-- ---- a call on objects goes on: it waits for no reply

pub record StandsOk (past : List Line) (at : At) (c slot : ℕ) (r : Running) : Type 0 where
  pub running : Running
  pub call : call_at c slot past ≡ Some running
  pub small : slot < 4
  pub still : running.asking ≡ Asked → ⊥
  pub stage : Stage
  pub pins : List LockName
  pub is : r ≡ record running { stage = stage; pins = pins }
  pub how : SizesStand past at running stage pins
      ⊎ LockStand past c running stage
      ⊎ StatStand past at c running stage pins
      ⊎ GetStand past c running stage pins
      ⊎ FlushStand past c running stage pins
      ⊎ ((pins ≡ running.pins) × MovedStand past at c running stage)
  pub had : HadUsed c slot past stage
  pub uses : UsesHeld c past running (used_in stage)
  pub mine : (u : Using) → In u (used_in stage) → In (name_under u.want u.lock) pins
