-- When a line of an object storage target may be added to a past, by what concerns that target: the locks on its objects and their queues,
-- what is read
-- and written under them, and how long its objects are; with what the target tells the holders of locks.
use Rattle.std.proofs.Common.{◌≡◌, ℕ, ◌+◌, ◌<◌, ◌≤◌, Bool, true, false, List, [], ◌∷◌, ◌++◌, Option, Some, None, ◌⊎◌}
use Rattle.std.specs.Prelude.{◌==◌, ◌&&◌, nat_lt}
use Rattle.lu_base.specs.declared.ids.At.{At}
use Rattle.lu_base.specs.declared.ids.Cookie.{Cookie}
use Rattle.lu_base.specs.declared.ids.Node.TheVariants.{Client, Target}
use Rattle.lu_base.specs.declared.ids.Who.{Who}
use Rattle.lu_base.specs.declared.ids.Xid.{Xid}
use Rattle.lu_base.specs.declared.locks.Extent.{Extent}
use Rattle.lu_base.specs.declared.locks.Lock.{Lock}
use Rattle.lu_base.specs.declared.locks.Mode.{Mode}
use Rattle.lu_base.specs.declared.locks.Mode.TheVariants.{PR, PW}
use Rattle.lu_base.specs.declared.locks.Resource.{Resource}
use Rattle.lu_lock.specs.Conflict.{conflict}
use Rattle.lu_lock.specs.Growth.{the_end}
use Rattle.lu_lock.specs.Modes.{serves as mode_serves}
use Rattle.lu_lock.specs.Overlap.{extents_meet}
use Rattle.lu_spec_machine.specs.Objects.{object_writes, page_extent, content}
use Rattle.lu_msg.specs.declared.answers.Answer.TheVariants as told
use Rattle.lu_msg.specs.declared.messages.GrantNotice.{GrantNotice}
use Rattle.lu_msg.specs.declared.messages.Message.TheVariants as message
use Rattle.lu_msg.specs.declared.messages.Request.{Request as RequestOf}
use Rattle.lu_msg.specs.declared.messages.SizeReport.{SizeReport}
use Rattle.lu_msg.specs.declared.operations.Op.{Op}
use Rattle.lu_msg.specs.declared.operations.Op.TheVariants as op
use Rattle.lu_spec_entries.specs.Carried.{Deed, Called, Glimpse}
use Rattle.lu_spec_entries.specs.Words.{Entry, Grant, Release, Ends, Line}
use Rattle.lu_spec_target.specs.Locks.{same_request}
use Rattle.lu_spec_target.specs.Glimpses.{highest, by_holder}
use Rattle.lu_spec_target.specs.Objects.{lock_of, lies_in, put_extent, cut_extent}
use Rattle.lu_spec_target.specs.Phase.{first_of}
use Rattle.lu_spec_target.specs.Queues.{extent_of}
use Rattle.lu_spec_target.specs.Replies.{is_called, locks_on}
use Rattle.lu_spec_target.specs.Stored.{object_in}
use Rattle.lu_proof_lawful.specs.Covered.TargetStates.{Server, none, server_of, shown_of, closed_of, up_of, next_number}
use Rattle.lu_proof_lawful.specs.Covered.Deeds.{size_at, told_on, lock_asked, in_the_way, grown_by, notice}
use Rattle.lu_proof_lawful.proofs.Preconditions.Heard.{In, Was, TookNow, InTurn}

-- the target serves: it is up, and its recovery window is closed
abbrev pub IsServing : ℕ → List Line → Type 0
IsServing osts past = record { closed : closed_of past ≡ (server_of osts past).boot; up : up_of past ≡ true }

-- it recovers: it was booted, and its window isn't closed yet
abbrev pub IsRecovering : ℕ → List Line → Type 0
IsRecovering osts past = (closed_of past == (server_of osts past).boot) ≡ false

-- ---- locks are asked for

-- who asks for a lock gets the next one, where no granted lock and none that waits on that object is in its way; it grows as far as it can
pub record RangeOk (osts : ℕ) (past : List Line) (at : At) (lock : Lock) (d : Deed) : Type 0 where
  pub serves : IsServing osts past
  pub shown : shown_of past ≡ (server_of osts past).granted
  pub room : (server_of osts past).cookie + 1 ≤ first_of (server_of osts past).boot + 4294967295
  pub request : RequestOf
  pub waits : In request (server_of osts past).waiting
  pub resource : Resource
  pub mode : Mode
  pub extent : Extent
  pub of_op : request.op ≡ op.Enqueue resource mode extent
  pub free : in_the_way (server_of osts past) resource (locks_on resource (server_of osts past).queued)
      (lock_asked (server_of osts past) request resource mode extent).ask ≡ false
  pub of_lock : lock ≡ grown_by (server_of osts past) (locks_on resource (server_of osts past).queued)
      (lock_asked (server_of osts past) request resource mode extent)
  pub is : d ≡ told_on (server_of osts past) at request none []
      (told.Granted lock.cookie (extent_of lock) (size_at (server_of osts past) resource))

-- where one is in its way it waits as it was asked for, behind all that wait
pub record WaitOk (osts : ℕ) (past : List Line) (at : At) (lock : Lock) (d : Deed) : Type 0 where
  pub serves : IsServing osts past
  pub shown : shown_of past ≡ (server_of osts past).granted
  pub room : (server_of osts past).cookie + 1 ≤ first_of (server_of osts past).boot + 4294967295
  pub request : RequestOf
  pub waits : In request (server_of osts past).waiting
  pub resource : Resource
  pub mode : Mode
  pub extent : Extent
  pub of_op : request.op ≡ op.Enqueue resource mode extent
  pub busy : in_the_way (server_of osts past) resource (locks_on resource (server_of osts past).queued)
      (lock_asked (server_of osts past) request resource mode extent).ask ≡ true
  pub of_lock : lock ≡ lock_asked (server_of osts past) request resource mode extent
  pub is : d ≡ told_on (server_of osts past) at request none [] (told.Waiting lock.cookie)

-- a lock that waits is granted, once no granted lock and none ahead of it is in its way; it grows beside the others that wait
pub record PromoteOk (osts : ℕ) (past : List Line) (lock : Lock) : Type 0 where
  pub serves : IsServing osts past
  pub shown : shown_of past ≡ (server_of osts past).granted
  pub ahead : List Lock
  pub asked : Lock
  pub later : List Lock
  pub queue : locks_on lock.resource (server_of osts past).queued ≡ ahead ++ asked ∷ later
  pub free : in_the_way (server_of osts past) lock.resource ahead asked.ask ≡ false
  pub of_lock : lock ≡ grown_by (server_of osts past) (ahead ++ later) asked

-- a granted lock that isn't called back, and one that waits for it: both are on one object and conflict
pub record WayOk (osts : ℕ) (past : List Line) (called : Called) : Type 0 where
  pub serves : IsServing osts past
  pub lock : Lock
  pub granted : In lock (server_of osts past).granted
  pub of_cookie : called.cookie ≡ lock.cookie
  pub of_life : called.who ≡ lock.ask.who
  pub new : is_called lock.cookie (server_of osts past).called ≡ false
  pub waiting : Lock
  pub queued : In waiting (server_of osts past).queued
  pub on : waiting.resource ≡ lock.resource
  pub conflicts : conflict waiting.ask lock.ask ≡ true

-- ---- bytes, under a granted lock of the asker on that object

-- the lock of that cookie that the life was granted there serves to write, over all that is written
pub record GoesUnder (v : Server) (who : Who) (resource : Resource) (cookie : Cookie) (extent : Extent) (holder : Lock) : Type 0 where
  pub found : lock_of who cookie (locks_on resource v.granted) ≡ Some holder
  pub mode : mode_serves holder.ask.mode PW ≡ true
  pub within : lies_in extent (extent_of holder) ≡ true

-- a put or a cut does
abbrev pub WritesUnder : Server → Who → Op → Lock → Type 0
WritesUnder v who (op.Put resource cookie offset bytes) holder = GoesUnder v who resource cookie (put_extent offset bytes) holder
WritesUnder v who (op.Cut resource cookie size) holder = GoesUnder v who resource cookie (cut_extent size) holder
WritesUnder v who o holder = ⊥

-- a put or a cut is made as the next transaction, under a lock that was granted for it
pub record WriteOk (osts : ℕ) (past : List Line) (at : At) (d : Deed) : Type 0 where
  pub serves : IsServing osts past
  pub numbers : (server_of osts past).count < 4294967295
  pub request : RequestOf
  pub waits : In request (server_of osts past).waiting
  pub holder : Lock
  pub under : WritesUnder (server_of osts past) request.who request.op holder
  pub is : d ≡ told_on (server_of osts past) at request (next_number (server_of osts past)) (object_writes request.op) told.Done

-- a page is told, as far as the asker's lock on it goes
pub record PageOk (osts : ℕ) (past : List Line) (at : At) (d : Deed) : Type 0 where
  pub serves : IsServing osts past
  pub request : RequestOf
  pub waits : In request (server_of osts past).waiting
  pub resource : Resource
  pub cookie : Cookie
  pub page : ℕ
  pub of_op : request.op ≡ op.Get resource cookie page
  pub holder : Lock
  pub found : lock_of request.who cookie (locks_on resource (server_of osts past).granted) ≡ Some holder
  pub mode : mode_serves holder.ask.mode PR ≡ true
  pub meets : extents_meet (extent_of holder) (page_extent page) ≡ true
  pub is : d ≡ told_on (server_of osts past) at request none []
      (told.Content (content page (extent_of holder) (object_in (server_of osts past).objects resource)))

-- whether the lock that a life names serves to read the page, or to write the range
abbrev pub covers_page : ℕ → Option Lock → Bool
covers_page page None = false
covers_page page (Some holder) = mode_serves holder.ask.mode PR && extents_meet (extent_of holder) (page_extent page)

abbrev pub covers_range : Extent → Option Lock → Bool
covers_range extent None = false
covers_range extent (Some holder) = mode_serves holder.ask.mode PW && lies_in extent (extent_of holder)

-- no granted lock of that life serves what it asks for
abbrev pub IsUncovered : Server → Who → Op → Type 0
IsUncovered v who (op.Get resource cookie page) = covers_page page (lock_of who cookie (locks_on resource v.granted)) ≡ false
IsUncovered v who (op.Put resource cookie offset bytes) = covers_range (put_extent offset bytes)
    (lock_of who cookie (locks_on resource v.granted)) ≡ false
IsUncovered v who (op.Cut resource cookie size) = covers_range (cut_extent size) (lock_of who cookie (locks_on resource v.granted)) ≡ false
IsUncovered v who o = ⊥

-- who names no such lock is told so
pub record UncoveredOk (osts : ℕ) (past : List Line) (at : At) (d : Deed) : Type 0 where
  pub serves : IsServing osts past
  pub request : RequestOf
  pub waits : In request (server_of osts past).waiting
  pub uncovered : IsUncovered (server_of osts past) request.who request.op
  pub is : d ≡ told_on (server_of osts past) at request none [] told.Uncovered

-- ---- how long an object is

-- no glimpse waits for a holder on behalf of that request
abbrev pub Unasked : List Glimpse → RequestOf → Type 0
Unasked glimpses r = (g : Glimpse) → In g glimpses → same_request g.request r ≡ false

-- no lock to write is granted on the object, or the one of greatest start doesn't go to the end, and the object goes past it
abbrev pub GoesPast : Option Lock → ℕ → Type 0
GoesPast None size = Unit {0}
GoesPast (Some holder) size = (((extent_of holder).last == the_end) ≡ false) × (nat_lt (extent_of holder).last size ≡ true)

-- then the target tells the size itself
pub record SizedOk (osts : ℕ) (past : List Line) (at : At) (d : Deed) : Type 0 where
  pub serves : IsServing osts past
  pub request : RequestOf
  pub waits : In request (server_of osts past).waiting
  pub unasked : Unasked (server_of osts past).glimpses request
  pub resource : Resource
  pub of_op : request.op ≡ op.Size resource
  pub shown : shown_of past ≡ (server_of osts past).granted
  pub past_locks : GoesPast (highest (locks_on resource (server_of osts past).granted)) (size_at (server_of osts past) resource)
  pub is : d ≡ told_on (server_of osts past) at request none [] (told.Size (size_at (server_of osts past) resource))

-- the lock to write of greatest start doesn't go to the end, and the object doesn't go past it: the asker is told to take a lock
pub record LockFirstOk (osts : ℕ) (past : List Line) (at : At) (d : Deed) : Type 0 where
  pub serves : IsServing osts past
  pub request : RequestOf
  pub waits : In request (server_of osts past).waiting
  pub unasked : Unasked (server_of osts past).glimpses request
  pub resource : Resource
  pub of_op : request.op ≡ op.Size resource
  pub holder : Lock
  pub of_holder : highest (locks_on resource (server_of osts past).granted) ≡ Some holder
  pub short : ((extent_of holder).last == the_end) ≡ false
  pub within : nat_lt (extent_of holder).last (size_at (server_of osts past) resource) ≡ false
  pub is : d ≡ told_on (server_of osts past) at request none [] told.Lock

-- that lock goes to the end: its holder is to be asked
pub record AsksOk (osts : ℕ) (past : List Line) (g : Glimpse) : Type 0 where
  pub serves : IsServing osts past
  pub waits : In g.request (server_of osts past).waiting
  pub unasked : Unasked (server_of osts past).glimpses g.request
  pub of_op : g.request.op ≡ op.Size g.resource
  pub holder : Lock
  pub of_holder : highest (locks_on g.resource (server_of osts past).granted) ≡ Some holder
  pub to_end : ((extent_of holder).last == the_end) ≡ true
  pub of_cookie : g.cookie ≡ holder.cookie

-- the holder of a lock to write, to the end of the object, is asked on behalf of the request that waits for it
pub record AskHolderOk (osts : ℕ) (past : List Line) (c : ℕ) (who : Who) (boot : ℕ) (cookie : Cookie) (for_who : Who) (xid : Xid) : Type
    0 where
  pub serves : IsServing osts past
  pub glimpse : Glimpse
  pub waits : In glimpse (server_of osts past).glimpses
  pub lock : Lock
  pub granted : In lock (server_of osts past).granted
  pub same : glimpse.cookie ≡ lock.cookie
  pub on : lock.resource ≡ glimpse.resource
  pub mode : lock.ask.mode ≡ PW
  pub to_end : (extent_of lock).last ≡ the_end
  pub of_life : who ≡ lock.ask.who
  pub of_boot : boot ≡ (server_of osts past).boot
  pub of_cookie : cookie ≡ lock.cookie
  pub for_life : for_who ≡ glimpse.request.who
  pub for_xid : xid ≡ glimpse.request.xid
  pub to : c ≡ who.client

-- what a holder says is on behalf of that request, under the lock that was asked about
abbrev pub ReportsOn : SizeReport → Glimpse → Type 0
ReportsOn m g = (m.cookie ≡ g.cookie) × (m.for_who ≡ g.request.who) × (m.xid ≡ g.request.xid)

-- the newest line took that of a client, in this turn; it is of the present boot or a later one
pub record TookReport (osts : ℕ) (past : List Line) (at : At) (t : ℕ) (g : Glimpse) (m : SizeReport) : Type 0 where
  pub from : ℕ
  pub took : TookNow past at (Client from) (message.Size m)
  pub was : Was past (Client from) (Target t) (message.Size m)
  pub current : (server_of osts past).boot ≤ m.boot
  pub on : ReportsOn m g

abbrev pub IsReleaseOf : Cookie → Entry → Type 0
IsReleaseOf cookie (Release lock) = lock.cookie ≡ cookie
IsReleaseOf cookie _ = ⊥

-- a glimpse waits no longer: the holder has said how long the object is, or the turn released its lock
pub record GlimpseEndsOk (osts : ℕ) (past : List Line) (at : At) (t : ℕ) (g : Glimpse) : Type 0 where
  pub serves : IsServing osts past
  pub waits : In g (server_of osts past).glimpses
  pub cause : ((m : SizeReport) × TookReport osts past at t g m) ⊎ InTurn (IsReleaseOf g.cookie) past at

-- the newest line ended that glimpse, in this turn, as what the holder said came, or a lock was released
abbrev pub EndedBy : (List Line → Glimpse → Type 0) → List Line → At → Type 0
EndedBy P [] at = ⊥
EndedBy P (l ∷ past) at = elim l.entry [ Ends g ↦ (l.at ≡ at) × P past g | _ ↦ ⊥ ]

-- with it ended what is answered: the asker is told to take a lock, where the holder had no size or has given its lock back
pub record EndedOk (osts : ℕ) (past : List Line) (at : At) (t : ℕ) (d : Deed) : Type 0 where
  pub serves : IsServing osts past
  pub request : RequestOf
  pub waits : In request (server_of osts past).waiting
  pub unasked : Unasked (server_of osts past).glimpses request
  pub resource : Resource
  pub of_op : request.op ≡ op.Size resource
  pub ended : EndedBy (λ before g. (g.request ≡ request) × (((m : SizeReport) × TookReport osts before at t g m × (m.size ≡ None))
      ⊎ InTurn (IsReleaseOf g.cookie) before at)) past at
  pub is : d ≡ told_on (server_of osts past) at request none [] told.Lock

-- or the size that its holder said; the answer's turn is then the holder's
pub record ReportedOk (osts : ℕ) (past : List Line) (at : At) (t : ℕ) (d : Deed) : Type 0 where
  pub serves : IsServing osts past
  pub request : RequestOf
  pub waits : In request (server_of osts past).waiting
  pub unasked : Unasked (server_of osts past).glimpses request
  pub resource : Resource
  pub of_op : request.op ≡ op.Size resource
  pub report : SizeReport
  pub size : ℕ
  pub sized : report.size ≡ Some size
  pub ended : EndedBy (λ before g. (g.request ≡ request) × TookReport osts before at t g report) past at
  pub is : d ≡ told_on (server_of osts past) (by_holder report) request none [] (told.Size size)

-- what is answered without a printed line
abbrev pub AnswersOk : ℕ → List Line → At → ℕ → Deed → Type 0
AnswersOk osts past at t d = PageOk osts past at d ⊎ UncoveredOk osts past at d ⊎ LockFirstOk osts past at d ⊎ EndedOk osts past at t d
    ⊎ ReportedOk osts past at t d

-- ---- a lock that had waited is told of

-- it was granted just now
abbrev pub JustGranted : List Line → Lock → Type 0
JustGranted [] lock = ⊥
JustGranted (l ∷ past) lock = elim l.entry [ Grant given None ↦ given ≡ lock | _ ↦ ⊥ ]

-- its life asked where it is, of the present boot or a later one
pub record AskedWhere (osts : ℕ) (past : List Line) (t : ℕ) (lock : Lock) : Type 0 where
  pub from : ℕ
  pub boot : ℕ
  pub current : (server_of osts past).boot ≤ boot
  pub was : Was past (Client from) (Target t) (message.Where lock.ask.who boot lock.cookie)

-- a granted lock, with the object as it is now
pub record GivesOk (osts : ℕ) (past : List Line) (t c : ℕ) (g : GrantNotice) : Type 0 where
  pub serves : IsServing osts past
  pub lock : Lock
  pub granted : In lock (server_of osts past).granted
  pub is : g ≡ notice (server_of osts past) lock
  pub to : c ≡ lock.ask.who.client
  pub cause : JustGranted past lock ⊎ AskedWhere osts past t lock
