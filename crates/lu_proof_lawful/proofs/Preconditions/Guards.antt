-- When a line may be added to a past, whatever row makes it: what a single line rests on, over the past just
-- before it. What it says of one target is said over what concerns that target. What isn't listed never happens.
use Rattle.std.proofs.Common.{◌≡◌, ℕ, ◌<◌, Bool, true, false, List, [], ◌∷◌, Option, Some, None, ◌⊎◌}
use Rattle.std.specs.Prelude.{length, filter, nat_lt, not, ◌==◌, ◌&&◌, if◌then◌else◌}
use Rattle.std.specs.List.{list_any}
use Rattle.lu_base.specs.declared.ids.At.{At}
use Rattle.lu_base.specs.declared.ids.Node.{Node}
use Rattle.lu_base.specs.declared.ids.Node.TheVariants.{Client, Target}
use Rattle.lu_base.specs.declared.ids.Who.{Who}
use Rattle.lu_base.specs.declared.locks.Extent.{Extent}
use Rattle.lu_base.specs.declared.locks.Lock.{Lock}
use Rattle.lu_base.specs.declared.locks.Mode.TheVariants.{PW}
use Rattle.lu_base.specs.declared.locks.Policy.TheVariants.{Range}
use Rattle.lu_msg.specs.declared.answers.Answer.{Answer}
use Rattle.lu_msg.specs.declared.messages.GrantNotice.{GrantNotice}
use Rattle.lu_msg.specs.declared.messages.Message.{Message}
use Rattle.lu_msg.specs.declared.messages.Message.TheVariants as message
use Rattle.lu_msg.specs.declared.messages.Reply.{Reply as ReplyTo}
use Rattle.lu_msg.specs.declared.messages.Request.{Request as RequestOf}
use Rattle.lu_msg.specs.declared.operations.Op.{Op}
use Rattle.lu_held.specs.declared.locks.HeldLock.{HeldLock}
use Rattle.lu_held.specs.declared.names.LockName.{LockName}
use Rattle.lu_held.specs.Locks.{is_named}
use Rattle.lu_spec_entries.specs.Carried.{Deed, Said, Flight, Stage, Flushing, Sizes}
use Rattle.lu_spec_entries.specs.Words.{Entry, Begin, Changes, WritesBack, Shows as ShowsTo, Busy, Queues, Flies, Stands, Send, Take, Tick}
use Rattle.lu_spec_entries.specs.Words.{Heard, Hold, Drop, Told, Die, Pins, Unpins, Marks, Learns, Act, Txn, Grant, Wait}
use Rattle.lu_spec_entries.specs.Words.{Answers as Responds, Asks, Ends, Block, Release, Enters, Line, line, Skip, Commit, Life, Serves}
use Rattle.lu_spec_entries.specs.Words.{Settles, Evict, Joined, Binds, Unbinds, Knows, Unmarks, Peek, Acks, Fills, Zeroes, Grown, Crash}
use Rattle.lu_spec_entries.specs.Words.{Boot, Back, Close, Kept, Restore, Stores, Brings, Says, Wishes}
use Rattle.lu_spec_entries.specs.Concerns.{only}
use Rattle.lu_spec_entries.specs.Sent.{Sent}
use Rattle.lu_spec_target.specs.Lives.{is_life}
use Rattle.lu_spec_target.specs.Kept.{replayed}
use Rattle.lu_spec_target.specs.Recovery.{cut, empty_word}
use Rattle.lu_spec_target.specs.Rows.{lock_again}
use Rattle.lu_spec_target.specs.Leaving.{life_of as life_in}
use Rattle.lu_spec_target.specs.Windows.{Window, is_replay, is_lock, word_of, is_newest, is_back}
use Rattle.lu_spec_client.specs.Caches.{brought, held_at, patch_at, patches_at}
use Rattle.lu_spec_client.specs.Imports.{Serving}
use Rattle.lu_proof_lawful.specs.Covered.Imports.{standing_at, kept_at}
use Rattle.lu_spec_client.specs.Messages.{size_with}
use Rattle.lu_spec_client.specs.Patches.{has_change}
use Rattle.lu_spec_client.specs.Recovery.{next_life}
use Rattle.lu_proof_lawful.specs.Covered.TargetStates.{server_of, slot_of, closed_of, window_of, boot_at}
use Rattle.lu_proof_lawful.specs.Covered.Deeds.{asked}
use Rattle.lu_proof_lawful.specs.Covered.Calls.{call_at, life_at}
pub use Rattle.lu_proof_lawful.proofs.Preconditions.HeedMarks.{marks_of, MarkNext}
use Rattle.lu_proof_lawful.proofs.Preconditions.HeedMarks.{owed_of}
pub use Rattle.lu_proof_lawful.proofs.Preconditions.ClientGuards.{GivenOk, AsksWhere, TookAsk, PeekedNow, SizeOk, PeekOk}
pub use Rattle.lu_proof_lawful.proofs.Preconditions.Heard.{HasRange, In, Was, HeardAs, JustHeard, HeardNow, Learned, TookNow, Took, Noticed}
pub use Rattle.lu_proof_lawful.proofs.Preconditions.Heard.{TookRequest, Dropped, request, name_of, Later, Steps, Ending, Closes, InTurn}
pub use Rattle.lu_proof_lawful.proofs.Preconditions.CallGuards.{Begins, is_ready_for, is_welcome, BeginOk, IsAlone, IsGlimpse, IsFlush}
pub use Rattle.lu_proof_lawful.proofs.Preconditions.CallGuards.{IsRead, Reads, ReadsOn, WritesOn, CutsOn, ChangesOn, IsChange, InOrder}
pub use Rattle.lu_proof_lawful.proofs.Preconditions.CallGuards.{wanted_by, work_in, NamesAskOk, SizeAskOk, LockAskOk, GetAskOk, CallAsksOk}
pub use Rattle.lu_proof_lawful.proofs.Preconditions.CallGuards.{TakesBack, BackAskOk, QueuesOk, pieces_of, piece_on, NewestChanges}
pub use Rattle.lu_proof_lawful.proofs.Preconditions.CallGuards.{NotChanging, ChangesOk, WritesBackOk, WroteNow, ShowsWritten, ShowsOk}
pub use Rattle.lu_proof_lawful.proofs.Preconditions.CallGuards.{held_by, store_by, AllSized, HeardSize, NoneHeard, LeftSize, CameSize}
pub use Rattle.lu_proof_lawful.proofs.Preconditions.CallGuards.{SizesSoFar, heard_sizes, HasSizes, SizesStand, LacksOf, PinsSince, Narrowed}
pub use Rattle.lu_proof_lawful.proofs.Preconditions.CallGuards.{Wider, LockStand, GetStand, KnowsFile, ToldFile, GoesOn, StatOf, StatStand}
pub use Rattle.lu_proof_lawful.proofs.Preconditions.CallGuards.{Replied, LockGranted, LockBrought, came_marked, came_as, CameStand}
pub use Rattle.lu_proof_lawful.proofs.Preconditions.CallGuards.{WaitStand, MarkStand, ForgotStand, LookStand, MovedStand, HasChange}
pub use Rattle.lu_proof_lawful.proofs.Preconditions.CallGuards.{FlushStand, Locked, Unless, HadLock, used_of, used_in, HadUsed, LockDoes}
pub use Rattle.lu_proof_lawful.proofs.Preconditions.CallGuards.{CameFor, EndFirst, HeldFor, UsesHeld, StandsOk}
pub use Rattle.lu_proof_lawful.proofs.Preconditions.ToldGuards.{IsToldAsIs, ToldOk, KnownOk, BadOk, SizesToldOk, ReadTells, ReadToldOk}
pub use Rattle.lu_proof_lawful.proofs.Preconditions.ToldGuards.{StatToldOk, MadeNow, WroteOk, AllClean, FlushFrom, FlushedOk, EndsOk}
pub use Rattle.lu_proof_lawful.proofs.Preconditions.ToldGuards.{TellsOk, CamePins, IsUnmarked, PinsOk, IsFlushing, OfFlush, StartsRead}
pub use Rattle.lu_proof_lawful.proofs.Preconditions.ToldGuards.{Starts, StartsStat, OwesBegun, IsChanging, IsShowing}

-- ---- over the whole past

pub record TakeOk (past : List Line) (at : At) (n : ℕ) (from : Node) (m : Message) : Type 0 where
  pub sent : Sent past n from at.node m
  pub later : Later past at

-- a new life: each call of the old one was told
pub record LifeOk (past : List Line) (at : At) (c : ℕ) (who : Who) : Type 0 where
  pub notice : Noticed past at (life_at c past)
  pub next : who ≡ next_life (life_at c past)
  pub idle : (slot : ℕ) → call_at c slot past ≡ None

-- no held lock of that name is pinned
abbrev pub IsFree : List Line → ℕ → LockName → Type 0
IsFree past c name = (h : HeldLock) → In h (held_at c past) → is_named name h ≡ true → h.pins ≡ 0

-- or it was called back just now
abbrev pub CallsBack : List Line → At → LockName → Type 0
CallsBack past at name = (who : Who) × (boot : ℕ) × TookNow past at (Target name.target.0) (message.Block who boot name.cookie)

-- a held lock was called back or marked; under one to write no change of the object is left that wasn't taken to be written back
pub record MarkedOk (past : List Line) (c t : ℕ) (lock : Lock) : Type 0 where
  pub holding : HeldLock
  pub held : In holding (held_at c past)
  pub of_target : holding.target.0 ≡ t
  pub is : holding.lock ≡ lock
  pub marked : holding.marked ≡ true
  pub free : holding.pins ≡ 0
  pub serves : standing_at c t past ≡ Serving
  pub clean : lock.ask.mode ≡ PW → (x : Extent) → lock.ask.policy ≡ Range x → has_change x (patch_at lock.resource (patches_at c past))
      ≡ false

-- a marked lock that isn't pinned is given up, or its life is over
abbrev pub GivesUp : List Line → At → (c t : ℕ) → Lock → Type 0
GivesUp past at c t lock = MarkedOk past c t lock ⊎ Noticed past at (life_at c past)

-- a word counts the replays that the life has for the target, and the locks that it holds of it; not in the turn that ends the life
pub record WordOk (past : List Line) (at : At) (c t replayed locked : ℕ) : Type 0 where
  pub replays : replayed ≡ length (kept_at c t past).replays
  pub locks : locked ≡ length (filter (λ (h : HeldLock). h.target.0 == t) (held_at c past))
  pub alive : Noticed past at (life_at c past) → ⊥

-- what a client still has to show of the answer that it heard last
abbrev pub owed_by : Node → List Line → List Entry
owed_by (Client c) past = owed_of c past
owed_by (Target t) past = []

-- of a lock that came with the reply just heard: it is what is shown next
pub record HoldsOk (past : List Line) (at : At) (t : ℕ) (lock : Lock) (marked : Bool) (size : Option ℕ) (seen : List ℕ) : Type 0 where
  pub flight : Flight
  pub reply : ReplyTo
  pub heard : HeardNow past at t flight reply
  pub among : In lock (brought flight.op reply)
  pub unmarked : marked ≡ false
  pub sized : size ≡ size_with reply.answer
  pub saw : seen ≡ reply.seen
  pub next : (more : List Entry) × (owed_by at.node past ≡ Hold t lock marked size seen ∷ more)

-- what the reply just heard told is known under its locks
pub record LearnsOk (past : List Line) (at : At) (t : ℕ) (op : Op) (answer : Answer) (locks : List Lock) : Type 0 where
  pub names : t ≡ 0
  pub flight : Flight
  pub reply : ReplyTo
  pub heard : HeardNow past at t flight reply
  pub of_op : op ≡ flight.op
  pub of_answer : answer ≡ reply.answer
  pub of_locks : locks ≡ reply.locks

-- what was just done; the locks that it granted come with it
abbrev pub Did : List Line → Deed → Type 0
Did [] d = ⊥
Did (l ∷ past) d = elim l.entry [
  | Act e ↦ e ≡ d
  | Txn e ↦ e ≡ d
  | Grant lock asked ↦ asked ≡ Some d
  | Wait lock e ↦ e ≡ d
  | Responds e ↦ e
      ≡ d
  | _ ↦ ⊥
]

-- since what was just done the lock was shown: reads Grant
abbrev pub Shows : List Line → Lock → Type 0
Shows [] lock = ⊥
Shows (l ∷ past) lock = elim l.entry [ Grant k asked ↦ (k ≡ lock) ⊎ Shows past lock | _ ↦ ⊥ ]

-- all locks of what was just done were
abbrev pub AllShown : List Line → Type 0
AllShown past = (d : Deed) → Did past d → (lock : Lock) → In lock d.reply.locks → Shows past lock

-- the newest line took a message
pub record Taken (past : List Line) : Type 0 where
  pub at : At
  pub number : ℕ
  pub from : Node
  pub message : Message
  pub before : List Line
  pub newest : past ≡ line at (Take number from message) ∷ before

-- a reply is the kept one but for the boot and the committed number; it is to what was just done, or to what was done
-- before this turn
pub record RepliesNow (past : List Line) (t : ℕ) (k : ReplyTo) : Type 0 where
  pub who : Who
  pub tag : ℕ
  pub kept : ReplyTo
  pub slot : (slot_of who tag (only t past)).reply ≡ Some kept
  pub is : k ≡ record kept { boot = k.boot; committed = k.committed }
  pub now : ((d : Deed) × Did past d × (d.reply ≡ kept)) ⊎ Taken past

-- it is that to the newest request of its life and tag, which the newest line took once more, in this turn
pub record RepliesAgain (past : List Line) (at : At) (t : ℕ) (k : ReplyTo) : Type 0 where
  pub request : RequestOf
  pub took : TookRequest past at request
  pub kept : ReplyTo
  pub slot : (slot_of request.who request.tag (only t past)).reply ≡ Some kept
  pub is : k ≡ record kept { boot = k.boot; committed = k.committed }
  pub same : (slot_of request.who request.tag (only t past)).taken ≡ request.xid.0

-- the newest line is that of the request which it answers, in this turn
abbrev pub EntersFor : List Line → At → Deed → Type 0
EntersFor [] at d = ⊥
EntersFor (l ∷ past) at d = elim l.entry [ Enters r ↦ (l.at ≡ at) × (r.who ≡ d.reply.who) × (r.xid ≡ d.reply.xid) | _ ↦ ⊥ ]

-- or it ended the glimpse that waited for a holder on behalf of that request
abbrev pub EndsFor : List Line → At → Deed → Type 0
EndsFor [] at d = ⊥
EndsFor (l ∷ past) at d = elim l.entry [ Ends g ↦ (l.at ≡ at) × (g.request.who ≡ d.reply.who) × (g.request.xid ≡ d.reply.xid) | _ ↦ ⊥ ]

-- the newest line is that of that request, in this turn
abbrev pub EntersNow : List Line → At → RequestOf → Type 0
EntersNow [] at r = ⊥
EntersNow (l ∷ past) at r = elim l.entry [ Enters q ↦ (l.at ≡ at) × (q ≡ r) | _ ↦ ⊥ ]

-- at an object storage target what is done is done as its request enters
abbrev pub ActsAsEnters : List Line → At → ℕ → Deed → Type 0
ActsAsEnters past at t d = (t ≡ 0) ⊎ ((0 < t) × EntersFor past at d)

-- the newest line granted that lock, which had waited, in this turn
abbrev pub GrantedNow : List Line → At → GrantNotice → Type 0
GrantedNow [] at g = ⊥
GrantedNow (l ∷ past) at g = elim l.entry [ Grant lock None ↦ (l.at ≡ at) × (lock.cookie ≡ g.cookie) × (lock.ask.who ≡ g.who) | _ ↦ ⊥ ]

-- or it took the question of its life where it is
pub record SoughtNow (past : List Line) (at : At) (g : GrantNotice) : Type 0 where
  pub from : Node
  pub boot : ℕ
  pub took : TookNow past at from (message.Where g.who boot g.cookie)

-- its holder gives it back: the newest line took that, in this turn
pub record TookBack (past : List Line) (at : At) (t : ℕ) (lock : Lock) : Type 0 where
  pub from : Node
  pub boot : ℕ
  pub current : nat_lt boot (boot_at t past) ≡ false
  pub took : TookNow past at from (message.Cancel lock.ask.who boot lock.cookie)

abbrev pub IsEvict : Who → Entry → Type 0
IsEvict who (Evict other cause) = other ≡ who
IsEvict who _ = ⊥

abbrev pub IsCommit : Entry → Type 0
IsCommit (Commit to batch) = Unit {0}
IsCommit _ = ⊥

abbrev pub IsTick : Entry → Type 0
IsTick Tick = Unit {0}
IsTick _ = ⊥

abbrev pub IsTake : Entry → Type 0
IsTake (Take n from m) = Unit {0}
IsTake _ = ⊥

-- what was just done is answered next, in the same turn, once its locks were shown there
abbrev pub Answers : At → Deed → Entry → Type 0
Answers at d (Send (Client c) (message.Reply k)) = (k ≡ d.reply) × (d.reply.at ≡ at)
Answers at d (Grant lock (Some f)) = d.reply.at ≡ at
Answers at d _ = ⊥

-- the window, before a line and after it, doesn't count a life as back, and then it does
pub record CameBack (osts clients : ℕ) (past : List Line) (l : Line) (who : Who) : Type 0 where
  pub before : is_back (window_of osts clients past) who ≡ false
  pub now : is_back (window_of osts clients (l ∷ past)) who ≡ true

-- what is kept in recovery
abbrev pub IsMark : Entry → Type 0
IsMark (Stores replay) = Unit {0}
IsMark (Brings lock) = Unit {0}
IsMark (Says said) = Unit {0}
IsMark (Wishes who) = Unit {0}
IsMark _ = ⊥

-- with the newest line, which keeps something, the life is back
abbrev pub BackNow : ℕ → ℕ → List Line → Who → Type 0
BackNow osts clients [] who = ⊥
BackNow osts clients (l ∷ past) who = IsMark l.entry × CameBack osts clients past l who

-- ---- what a target that recovers keeps: a message of the present boot, of a life with a slot, once

abbrev pub says_first : Option Said → Said → Option Entry
says_first None said = Some (Says said)
says_first (Some before) said = None

-- a newer life than the one with a slot, and than those that wish to join so far
abbrev pub wish_by : Window → Who → Option Who → Option Entry
wish_by v who None = None
wish_by v who (Some old) = if nat_lt old.life who.life && is_newest who v.wishes then Some (Wishes who) else None

abbrev pub wish_mark : Window → ℕ → Who → ℕ → Option Entry
wish_mark v present who boot = if boot == present then wish_by v who (life_in who.client v.lives) else None

-- the mark that keeps the message, where it counts; a join of the life with a slot is a word, that of a newer one a wish
abbrev pub mark_of : Window → ℕ → Message → Option Entry
mark_of v present (message.Replay r) =
    if r.boot == present && is_life r.who v.lives && not (list_any (is_replay (replayed r)) v.replays) then Some (Stores (cut r)) else None
mark_of v present (message.Lock r) =
    if r.boot == present && is_life r.who v.lives && not (list_any (is_lock (lock_again r)) v.brought) then Some (Brings (lock_again r))
    else None
mark_of v present (message.Word who boot replays locks seen) =
    if boot == present && is_life who v.lives then says_first (word_of who v.words)
    (record { who = who; replays = replays; locks = locks; seen = seen }) else None
mark_of v present (message.Join who boot) =
    if boot == present && is_life who v.lives then says_first (word_of who v.words) (empty_word who) else wish_mark v present who boot
mark_of v present m = None

abbrev pub mark_at : (osts clients : ℕ) → List Line → Node → Message → Option Entry
mark_at osts clients past (Client c) m = None
mark_at osts clients past (Target t) m = if closed_of past == (server_of osts past).boot then None
    else mark_of (window_of osts clients past) (server_of osts past).boot m

-- where the newest line took it, that mark is due
abbrev pub due : (osts clients : ℕ) → List Line → Option Entry
due osts clients [] = None
due osts clients (l ∷ past) = elim l.entry [ Take n from m ↦ mark_at osts clients past l.at.node m | _ ↦ None ]

-- the newest line is of that turn
abbrev pub IsTurnOf : List Line → At → Type 0
IsTurnOf [] at = ⊥
IsTurnOf (l ∷ past) at = l.at ≡ at

-- what was just done is answered next, in the same turn, by a reply that may name another one
abbrev pub Replies : Deed → Entry → Type 0
Replies d (Send (Client c) (message.Reply k)) = k ≡ d.reply
Replies d _ = ⊥

-- who waited for the lock is told that it is granted
abbrev pub Gives : Lock → Entry → Type 0
Gives lock (Send (Client c) (message.Grant g)) = (g.who ≡ lock.ask.who) × (g.cookie ≡ lock.cookie)
Gives lock _ = ⊥

-- the lock of what was just done was shown, or one that had waited
abbrev pub OwesAsked : (SameTurn : Type 0) → At → Lock → Option Deed → Entry → Type 0
OwesAsked SameTurn at lock None e = SameTurn × Gives lock e
OwesAsked SameTurn at lock (Some d) e = Answers at d e

-- a request for the call in that slot is queued
abbrev pub IsQueuedFor : ℕ → Entry → Type 0
IsQueuedFor slot (Queues t q) = q.slot ≡ Some slot
IsQueuedFor slot _ = ⊥

-- what a flush that waits does leaves what was owed; a glimpse that is to ask how long an object is asks next
abbrev pub OwesStood : (SameTurn : Type 0) → ℕ → Stage → (Before : Type 0) → Entry → Type 0
OwesStood SameTurn slot (Flushing stripe) Before e = Before
OwesStood SameTurn slot (Sizes work) Before e = SameTurn × IsQueuedFor slot e
OwesStood SameTurn slot _ Before e = Unit {0}

abbrev pub OwesQueued : Option ℕ → (Before : Type 0) → Type 0
OwesQueued None Before = Before
OwesQueued (Some slot) Before = Unit {0}

abbrev pub Owes : List Line → At → Entry → Type 0
Owes [] at e = Unit {0}
Owes (l ∷ past) at e =
    elim l.entry [
      | Act d ↦ Answers at d e
      | Txn d ↦ Answers at d e
      | Wait lock d ↦ Answers at d e
      | Responds d ↦ (l.at ≡ at) × Replies d e
      | Grant lock asked ↦ OwesAsked (l.at ≡ at) at lock asked e
      | Begin slot running ↦ OwesBegun (l.at ≡ at) slot running.stage running.call e
      | Pins name ↦ (l.at ≡ at) × Owes past at e
      | Unpins name ↦ Owes past at e
      | Stands slot running ↦ OwesStood (l.at ≡ at) slot running.stage (Owes past at e) e
      | WritesBack resource change ↦ Owes past at e
      | Queues t q ↦ OwesQueued q.slot (Owes past at e)
      | Changes resource change ↦ (l.at ≡ at) × IsChanging e
      | ShowsTo resource cookie last ↦ (l.at ≡ at) × IsShowing e
      | _ ↦ Unit {0}
    ]

abbrev pub EntryOk : List Line → At → Node → Entry → Type 0
EntryOk past at node (Take n from m) = TakeOk past at n from m
EntryOk past at node Tick = Later past at
EntryOk past at (Client c) (Begin slot running) = BeginOk past at c slot running
EntryOk past at (Client c) (Busy slot) = Later past at
EntryOk past at (Client c) Die = Later past at
EntryOk past at (Client c) (Queues t q) = QueuesOk past c t q
EntryOk past at (Client c) (Stands slot running) = StandsOk past at c slot running
EntryOk past at (Client c) (Told slot turn answer work) = TellsOk past at c slot turn answer work
EntryOk past at (Client c) (Changes resource change) = ChangesOk past at c resource change
EntryOk past at (Client c) (WritesBack resource change) = WritesBackOk past c resource change
EntryOk past at (Client c) (ShowsTo resource cookie last) = ShowsOk past at c resource cookie last
EntryOk past at (Client c) (Flies t f) = Unit {0}
EntryOk past at (Client c) (Heard t f r) = ((t ≡ 0) ⊎ (r.locks ≡ [])) × TookNow past at (Target t) (message.Reply r)
EntryOk past at (Client c) (Hold t lock marked size seen) = HoldsOk past at t lock marked size seen
    ⊎ GivenOk past at c t lock marked size seen
EntryOk past at (Client c) (Learns t op answer locks) = LearnsOk past at t op answer locks
EntryOk past at (Client c) (Drop t lock) = GivesUp past at c t lock
EntryOk past at (Client c) (Life who) = LifeOk past at c who
EntryOk past at (Client c) (Binds handle file) = Unit {0}
EntryOk past at (Client c) (Unbinds handle) = Unit {0}
EntryOk past at (Client c) (Knows t boot) = TookNow past at (Target t) (message.Up boot)
EntryOk past at (Client c) (Unmarks t) = Unit {0}
EntryOk past at (Client c) (Serves t boot) = Unit {0}
EntryOk past at (Client c) (Settles t to) = Unit {0}
EntryOk past at (Client c) (Peek t cookie size) = PeekOk past at c t cookie size
EntryOk past at (Client c) (Acks resource) = MarkNext past c (Acks resource)
EntryOk past at (Client c) (Fills resource offset bytes) = MarkNext past c (Fills resource offset bytes)
EntryOk past at (Client c) (Zeroes resource size) = MarkNext past c (Zeroes resource size)
EntryOk past at (Client c) (Grown resource change) = MarkNext past c (Grown resource change)
EntryOk past at (Client c) (Pins name) = PinsOk past c name
EntryOk past at (Client c) (Unpins name) = Unit {0}
EntryOk past at (Client c) (Marks name) = IsFree past c name ⊎ CallsBack past at name
EntryOk past at (Client c) (Send (Target t) (message.Request r)) = Unit {0}
EntryOk past at (Client c) (Send (Target t) (message.Cancel who boot cookie)) = Unit {0}
EntryOk past at (Client c) (Send (Target t) (message.Where who boot cookie)) = AsksWhere past c t cookie
EntryOk past at (Client c) (Send (Target t) (message.Size s)) = SizeOk past at c t s
EntryOk past at (Client c) (Send (Target t) (message.Join who boot)) = Unit {0}
EntryOk past at (Client c) (Send (Target t) (message.Replay r)) = Unit {0}
EntryOk past at (Client c) (Send (Target t) (message.Lock r)) = Unit {0}
EntryOk past at (Client c) (Send (Target t) (message.Word who boot replays locks seen)) = WordOk past at c t replays locks
EntryOk past at (Target t) (Send (Client c) (message.Up boot)) = Unit {0}
EntryOk past at (Target t) (Send (Client c) (message.Reply k)) = RepliesNow past t k × (Taken past → RepliesAgain past at t k)
    × AllShown past
EntryOk past at (Target t) (Send (Client c) (message.Block who boot cookie)) = Unit {0}
EntryOk past at (Target t) (Send (Client c) (message.Grant g)) = GrantedNow past at g ⊎ SoughtNow past at g
EntryOk past at (Target t) (Send (Client c) (message.Ask who boot cookie for_who xid)) = Unit {0}
EntryOk past at (Target t) (Send (Client c) (message.Ready who boot committed)) = Unit {0}
EntryOk past at (Target t) (Send (Client c) (message.Evicted who boot)) = Unit {0}
EntryOk past at (Target t) (Enters r) = TookRequest past at r
EntryOk past at (Target t) (Act d) = ActsAsEnters past at t d
EntryOk past at (Target t) (Txn d) = ActsAsEnters past at t d
EntryOk past at (Target t) (Wait lock d) = (0 < t) × EntersFor past at d
EntryOk past at (Target t) (Responds d) = (0 < t) × (EntersFor past at d ⊎ EndsFor past at d)
EntryOk past at (Target t) (Asks g) = (0 < t) × EntersNow past at g.request
EntryOk past at (Target t) (Ends g) = 0 < t
EntryOk past at (Target t) (Grant lock None) = 0 < t
EntryOk past at (Target t) (Grant lock (Some d)) = ((t ≡ 0) × Did past d × In lock d.reply.locks) ⊎ ((0 < t) × EntersFor past at d)
EntryOk past at (Target t) (Block called) = Unit {0}
EntryOk past at (Target t) (Release lock) = TookBack past at t lock ⊎ InTurn (IsEvict lock.ask.who) (only t past) at
EntryOk past at (Target t) Skip = Later past at
EntryOk past at (Target t) (Commit to batch) = Unit {0}
EntryOk past at (Target t) Crash = Later past at
EntryOk past at (Target t) (Boot boot disk) = Later past at
EntryOk past at (Target t) (Back who) = Unit {0}
EntryOk past at (Target t) (Stores replay) = Unit {0}
EntryOk past at (Target t) (Brings lock) = Unit {0}
EntryOk past at (Target t) (Says said) = Unit {0}
EntryOk past at (Target t) (Wishes who) = Unit {0}
EntryOk past at (Target t) (Evict who cause) = Unit {0}
EntryOk past at (Target t) (Joined who) = Unit {0}
EntryOk past at (Target t) (Close o) = Unit {0}
EntryOk past at (Target t) (Kept number) = Unit {0}
EntryOk past at (Target t) (Restore lock) = Unit {0}
EntryOk past at _ _ = ⊥
