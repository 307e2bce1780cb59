-- When a line may be added to a past, by what concerns one target: what it rests on there, over the story of that target just before it.
use Rattle.std.proofs.Common.{◌≡◌, ℕ, ◌+◌, ◌<◌, ◌≤◌, true, false, List, [], ◌∷◌, Some, None, ◌⊎◌}
use Rattle.std.specs.Prelude.{length, map, max, nat_lt, not, filter, if◌then◌else◌}
use Rattle.std.specs.List.{list_any}
use Rattle.lu_base.specs.declared.ids.At.{At}
use Rattle.lu_base.specs.declared.ids.Cookie.{Cookie}
use Rattle.lu_base.specs.declared.ids.Node.{Node}
use Rattle.lu_base.specs.declared.ids.Node.TheVariants.{Client, Target}
use Rattle.lu_base.specs.declared.ids.Txn.{Txn as TxnOf}
use Rattle.lu_base.specs.declared.ids.Who.{Who}
use Rattle.lu_base.specs.declared.locks.Cause.{Cause}
use Rattle.lu_base.specs.declared.locks.Cause.TheVariants.{Expired, Replaced}
use Rattle.lu_base.specs.declared.locks.Lock.{Lock}
use Rattle.lu_base.specs.declared.locks.Mode.TheVariants.{PR, PW}
use Rattle.lu_lock.specs.Growth.{the_end}
use Rattle.lu_msg.specs.declared.answers.Answer.{Answer}
use Rattle.lu_msg.specs.declared.messages.Message.{Message}
use Rattle.lu_msg.specs.declared.messages.Message.TheVariants as message
use Rattle.lu_msg.specs.declared.messages.LockReplay.{LockReplay}
use Rattle.lu_msg.specs.declared.messages.RequestReplay.{RequestReplay}
use Rattle.lu_msg.specs.declared.messages.Reply.{Reply as ReplyTo}
use Rattle.lu_msg.specs.declared.messages.Request.{Request as RequestOf}
use Rattle.lu_msg.specs.declared.operations.Op.{Op}
use Rattle.lu_msg.specs.declared.operations.Op.TheVariants as op
use Rattle.lu_msg.specs.declared.commits.Batch.{Batch}
use Rattle.lu_held.specs.declared.locks.HeldLock.{HeldLock}
use Rattle.lu_held.specs.Held.{is_held}
use Rattle.lu_spec_machine.specs.Fits.{answer_fits}
use Rattle.lu_spec_machine.specs.Footprint.{changes}
use Rattle.lu_spec_entries.specs.Carried.{Deed, Said, Queued, Flight, Called, Disk, Outcome}
use Rattle.lu_spec_entries.specs.Words.{Entry, Begin, Busy, Queues, Flies, Stands, Send, Take, Tick, Heard, Hold, Drop, Told, Die, Pins}
use Rattle.lu_spec_entries.specs.Words.{Unpins, Marks, Learns, Act, Txn, Grant, Wait, Answers, Asks, Ends, Block, Release, Enters, Line}
use Rattle.lu_spec_entries.specs.Words.{turn_before, is_client, Skip, Commit, Life, Serves, Settles, Evict, Joined, Binds, Unbinds, Knows}
use Rattle.lu_spec_entries.specs.Words.{Unmarks, Peek, Changes, WritesBack, Acks, Fills, Zeroes, Grown, Shows, Crash, Boot, Back, Close}
use Rattle.lu_spec_entries.specs.Words.{Kept, Restore, Stores, Brings, Says, Wishes}
use Rattle.lu_spec_target.specs.Leaving.{is_over, life_of as life_in}
use Rattle.lu_spec_target.specs.Lives.{is_life}
use Rattle.lu_spec_target.specs.Locks.{with_lock, without_lock, same_request}
use Rattle.lu_spec_target.specs.Names.{in_way, is_free, is_read, guards_part}
use Rattle.lu_spec_target.specs.Objects.{lock_of}
use Rattle.lu_spec_target.specs.Replies.{is_called}
use Rattle.lu_spec_target.specs.Kept.{replayed}
use Rattle.lu_spec_target.specs.Recovery.{cut, empty_word}
use Rattle.lu_spec_target.specs.Rows.{lock_again}
use Rattle.lu_spec_target.specs.Phase.{first_of}
use Rattle.lu_spec_target.specs.Stored.{batch_of}
use Rattle.lu_spec_target.specs.Windows.{is_replay, is_lock, word_of, is_newest, all_settled}
use Rattle.lu_spec_client.specs.Caches.{brought, held_as, held_at}
use Rattle.lu_spec_client.specs.Imports.{Replay, Joining, Recovering, Serving}
use Rattle.lu_spec_client.specs.Recovery.{next_life, lock_replayed, replayed as replayed_by}
use Rattle.lu_spec_client.specs.Sending.{next_flight, front_waits}
use Rattle.lu_proof_lawful.specs.Covered.TargetParts.{without_request, cookie_after}
use Rattle.lu_proof_lawful.specs.Covered.TargetStates.{none, server_of, slot_of, lives_of, evicted_of, shown_of, up_of, replays_of}
use Rattle.lu_proof_lawful.specs.Covered.TargetStates.{brought_of, words_of, wishes_of, window_of, next_number}
use Rattle.lu_proof_lawful.specs.Covered.TargetCloses.{disk_of, outcome_of, closing_of}
use Rattle.lu_proof_lawful.specs.Covered.Deeds.{asked, deed, locks_of, written_by, again}
use Rattle.lu_proof_lawful.specs.Covered.ClientStates.{queue_of, flights_of, last_of, known_of, life_of, standing_of, kept_of, awaits_of}
use Rattle.lu_proof_lawful.specs.Covered.Heads.{Head}
pub use Rattle.lu_proof_lawful.proofs.Preconditions.ObjectGuards.{IsServing, IsRecovering, RangeOk, WaitOk, PromoteOk, WayOk, GoesUnder}
pub use Rattle.lu_proof_lawful.proofs.Preconditions.ObjectGuards.{WritesUnder, WriteOk, PageOk, covers_page, covers_range, IsUncovered}
pub use Rattle.lu_proof_lawful.proofs.Preconditions.ObjectGuards.{UncoveredOk, Unasked, GoesPast, SizedOk, LockFirstOk, AsksOk, AskHolderOk}
pub use Rattle.lu_proof_lawful.proofs.Preconditions.ObjectGuards.{ReportsOn, TookReport, IsReleaseOf, GlimpseEndsOk, EndedBy, EndedOk}
pub use Rattle.lu_proof_lawful.proofs.Preconditions.ObjectGuards.{ReportedOk, AnswersOk, JustGranted, AskedWhere, GivesOk}
pub use Rattle.lu_proof_lawful.proofs.Preconditions.ClientStoryGuards.{GivenOf, HeldNow, GivenSettles, WhereOk, ReportsOk}
use Rattle.lu_proof_lawful.proofs.Preconditions.Guards.{In, Was, HeardNow, TookNow, Took, Dropped, request, name_of, Did, InTurn, IsCommit}
use Rattle.lu_proof_lawful.proofs.Preconditions.Guards.{IsTick, IsTake, BackNow, IsTurnOf}

-- a line that a close has to show is that which comes next, in the turn of the close
abbrev pub Due : Head → List Line → At → Entry → Type 0
Due head past at e = (more : List Entry) × (closing_of head.clients past ≡ e ∷ more) × IsTurnOf past at

-- where the target serves the client's life; at an object storage target no other request on its object is in flight
pub record FliesOk (head : Head) (past : List Line) (c t : ℕ) (f : Flight) : Type 0 where
  pub serves : standing_of c past ≡ Serving
  pub front : Queued
  pub more : List Queued
  pub queue : queue_of (life_of c past) past ≡ front ∷ more
  pub is : f ≡ next_flight (last_of (life_of c past) past) (flights_of (life_of c past) past) front
  pub room : length (flights_of (life_of c past) past) < head.flight
  pub object : front_waits t front.op (flights_of (life_of c past) past) ≡ false

pub record AskOk (past : List Line) (c : ℕ) (r : RequestOf) : Type 0 where
  pub serves : standing_of c past ≡ Serving
  pub flight : Flight
  pub flying : In flight (flights_of (life_of c past) past)
  pub is : r ≡ request c past flight

-- a life that isn't served yet asks to be
pub record JoinsOk (past : List Line) (c : ℕ) (who : Who) (boot : ℕ) : Type 0 where
  pub joins : standing_of c past ≡ Joining
  pub of_life : who ≡ life_of c past
  pub of_boot : boot ≡ known_of c past

pub record HeardOk (past : List Line) (c : ℕ) (f : Flight) (r : ReplyTo) : Type 0 where
  pub from : ℕ
  pub was : Was past (Target from) (Client c) (message.Reply r)
  pub flying : In f (flights_of (life_of c past) past)
  pub xid : f.xid ≡ r.xid.0
  pub who : r.who ≡ life_of c past
  pub boot : r.boot ≡ known_of c past
  pub fits : answer_fits f.op r.answer ≡ true

-- the lock is held already, since the reply that brought it was heard
pub record HeldOk (past : List Line) (c t : ℕ) (lock : Lock) (seen : List ℕ) : Type 0 where
  pub at : At
  pub flight : Flight
  pub reply : ReplyTo
  pub here : at.node ≡ Client c
  pub heard : HeardNow past at t flight reply
  pub among : In lock (brought flight.op reply)
  pub saw : seen ≡ reply.seen
  pub held : In (held_as t lock false) (held_at c past)

pub record KnowsOk (past : List Line) (op : Op) (answer : Answer) (locks : List Lock) : Type 0 where
  pub at : At
  pub flight : Flight
  pub reply : ReplyTo
  pub heard : HeardNow past at 0 flight reply
  pub of_op : op ≡ flight.op
  pub of_answer : answer ≡ reply.answer
  pub of_locks : locks ≡ reply.locks

-- the lock is held; all that is held in this story is of that target
pub record DropOk (past : List Line) (c t : ℕ) (lock : Lock) : Type 0 where
  pub holding : HeldLock
  pub held : In holding (held_at c past)
  pub of_target : holding.target.0 ≡ t
  pub is : holding.lock ≡ lock
  pub there : (h : HeldLock) → In h (held_at c past) → h.target.0 ≡ t

-- a new life begins when nothing of the old one is held
pub record LifeOf (past : List Line) (c : ℕ) (who : Who) : Type 0 where
  pub next : who ≡ next_life (life_of c past)
  pub empty : held_at c past ≡ []

-- a target that was booted again tells a newer boot than the client knows
pub record BootKnownOk (past : List Line) (c t boot : ℕ) : Type 0 where
  pub newer : known_of c past < boot
  pub was : Was past (Target t) (Client c) (message.Up boot)

-- the locks that the client held when it was last told a boot, where that was in its present life: what it has of locks for a recovery. A
-- life
-- that is over gives its locks up one by one, before the next one begins
abbrev pub locks_told : ℕ → List Line → List Lock
locks_told c [] = []
locks_told c (l ∷ past) =
    elim l.entry [
      | Knows t boot ↦ if is_client c l.at.node then map {A = HeldLock} {B = Lock} (λ h. h.lock) (held_at c past) else locks_told c past
      | Life who ↦ if is_client c l.at.node then [] else locks_told c past
      | _ ↦ locks_told c past
    ]

-- what a life tells a target that recovers, of the boot that it knows
pub record TellsOk (past : List Line) (c : ℕ) (who : Who) (boot : ℕ) : Type 0 where
  pub recovers : standing_of c past ≡ Recovering
  pub of_life : who ≡ life_of c past
  pub of_boot : boot ≡ known_of c past

-- it tells a transaction that isn't committed as far as it knows, as it has it
pub record ReplaysOk (past : List Line) (c : ℕ) (r : RequestReplay) : Type 0 where
  pub tells : TellsOk past c r.who r.boot
  pub replay : Replay
  pub kept : In replay (kept_of r.who past).replays
  pub is : r ≡ replayed_by r.who r.boot replay

-- a lock that it holds
pub record RelocksOk (past : List Line) (c : ℕ) (r : LockReplay) : Type 0 where
  pub tells : TellsOk past c r.who r.boot
  pub holding : HeldLock
  pub held : In holding (held_at c past)
  pub is : r ≡ lock_replayed r.who r.boot holding.lock

-- and how many of both there are, with the numbers that it saw; it has given up none since it was told the boot
pub record WordsOk (past : List Line) (c : ℕ) (who : Who) (boot replays locks : ℕ) (seen : List ℕ) : Type 0 where
  pub tells : TellsOk past c who boot
  pub of_replays : replays ≡ length (kept_of who past).replays
  pub of_locks : locks ≡ length (held_at c past)
  pub whole : length (locks_told c past) ≤ length (held_at c past)
  pub of_seen : seen ≡ (kept_of who past).seen

-- the target said that all up to that number is committed
pub record ReadySettles (past : List Line) (c t to : ℕ) : Type 0 where
  pub serves : standing_of c past ≡ Serving
  pub boot : ℕ
  pub was : Was past (Target t) (Client c) (message.Ready (life_of c past) boot (record { 0 = to }))

-- as it served the life, or with the grant of a lock that waited
abbrev pub SettlesOk : List Line → (c t to : ℕ) → Type 0
SettlesOk past c t to = ReadySettles past c t to ⊎ GivenSettles past c t to

-- the target said that it serves the life
pub record ServesOk (past : List Line) (c t boot : ℕ) : Type 0 where
  pub committed : TxnOf
  pub was : Was past (Target t) (Client c) (message.Ready (life_of c past) boot committed)
  pub of_boot : boot ≡ known_of c past

-- the lock was just given up; or it was called back while it wasn't held nor waited for, and no request is in flight
pub record CancelOk (past : List Line) (c t : ℕ) (who : Who) (boot : ℕ) (cookie : Cookie) : Type 0 where
  pub of_life : who ≡ life_of c past
  pub of_boot : boot ≡ known_of c past
  pub free : is_held (name_of t cookie) (held_at c past) ≡ false
  pub there : (h : HeldLock) → In h (held_at c past) → h.target.0 ≡ t
  pub cause : Dropped past c t cookie
      ⊎ ((flights_of (life_of c past) past ≡ []) × (awaits_of (life_of c past) cookie.0 past ≡ 0)
      × ((from b : ℕ) × Was past (Target from) (Client c) (message.Block who b cookie)))

-- a request of a life with a slot, of the present boot or a later one, and of the newest number taken of its life and tag
pub record AsksAgain (head : Head) (past : List Line) (t : ℕ) (who : Who) (tag : ℕ) : Type 0 where
  pub request : RequestOf
  pub from : ℕ
  pub was : Was past (Client from) (Target t) (message.Request request)
  pub of_life : request.who ≡ who
  pub of_tag : request.tag ≡ tag
  pub same : (slot_of who tag past).taken ≡ request.xid.0
  pub current : (server_of head.osts past).boot ≤ request.boot
  pub has : is_life who (lives_of head.clients past) ≡ true

-- a reply that is kept for a life and tag: to what was just done, or to a request that comes again
pub record ReplyOk (head : Head) (past : List Line) (t c : ℕ) (k : ReplyTo) : Type 0 where
  pub serves : IsServing head.osts past
  pub who : Who
  pub tag : ℕ
  pub kept : ReplyTo
  pub slot : (slot_of who tag past).reply ≡ Some kept
  pub is : k ≡ again (server_of head.osts past) kept
  pub to : c ≡ k.who.client
  pub cause : ((d : Deed) × Did past d × (d.reply ≡ kept)) ⊎ AsksAgain head past t who tag

-- the holder of a granted lock is told to give it back
pub record CallsOk (osts : ℕ) (past : List Line) (c : ℕ) (who : Who) (boot : ℕ) (cookie : Cookie) : Type 0 where
  pub serves : IsServing osts past
  pub lock : Lock
  pub granted : In lock (server_of osts past).granted
  pub of_life : who ≡ lock.ask.who
  pub of_boot : boot ≡ (server_of osts past).boot
  pub of_cookie : cookie ≡ lock.cookie
  pub to : c ≡ who.client
  pub called : is_called cookie (server_of osts past).called ≡ true

-- a life that has a slot is told that it is served
pub record ReadyOk (head : Head) (past : List Line) (c : ℕ) (who : Who) (boot : ℕ) (committed : TxnOf) : Type 0 where
  pub serves : IsServing head.osts past
  pub has : is_life who (lives_of head.clients past) ≡ true
  pub to : c ≡ who.client
  pub of_boot : boot ≡ (server_of head.osts past).boot
  pub of_committed : committed ≡ (server_of head.osts past).committed

-- that life's: a request, a lock back, or what it tells in a recovery
abbrev pub SaidBy : Who → Message → Type 0
SaidBy who (message.Request r) = r.who ≡ who
SaidBy who (message.Cancel other boot cookie) = other ≡ who
SaidBy who (message.Where other boot cookie) = other ≡ who
SaidBy who (message.Size m) = m.who ≡ who
SaidBy who (message.Replay r) = r.who ≡ who
SaidBy who (message.Lock r) = r.who ≡ who
SaidBy who (message.Word other boot replays locks seen) = other ≡ who
SaidBy who _ = ⊥

-- that life sent the target such a message
abbrev pub Spoke : List Line → ℕ → Who → Type 0
Spoke past t who = (from : ℕ) × (m : Message) × Was past (Client from) (Target t) m × SaidBy who m

-- a target says which boot it is to a life that has a slot, or spoke to it, or asked to join
pub record UpOk (head : Head) (past : List Line) (t c boot : ℕ) : Type 0 where
  pub of_boot : boot ≡ (server_of head.osts past).boot
  pub who : Who
  pub to : c ≡ who.client
  pub cause : (is_life who (lives_of head.clients past) ≡ true) ⊎ Spoke past t who
      ⊎ ((from asked : ℕ) × Was past (Client from) (Target t) (message.Join who asked))

-- a newer life of its client has or had a slot
abbrev pub Newer : ℕ → List Line → Who → Type 0
Newer clients past who =
    record {
      life : Who;
      client : life.client ≡ who.client;
      newer : who.life < life.life;
      had : (is_life life (lives_of clients past) ≡ true) ⊎ (is_life life (evicted_of past) ≡ true);
    }

-- a life that was evicted, or has no slot though it spoke, or is older than one that has or had a slot, is told that it is over
pub record NoticeOk (head : Head) (past : List Line) (t c : ℕ) (who : Who) (boot : ℕ) : Type 0 where
  pub to : c ≡ who.client
  pub of_boot : boot ≡ (server_of head.osts past).boot
  pub cause : (is_life who (evicted_of past) ≡ true) ⊎ ((is_life who (lives_of head.clients past) ≡ false) × Spoke past t who)
      ⊎ Newer head.clients past who

-- a request of a life with a slot that was sent, of a number above the newest one taken of its life and tag
pub record EntersOk (osts clients : ℕ) (past : List Line) (t : ℕ) (r : RequestOf) : Type 0 where
  pub serves : IsServing osts past
  pub has : is_life r.who (lives_of clients past) ≡ true
  pub from : ℕ
  pub was : Was past (Client from) (Target t) (message.Request r)
  pub current : (server_of osts past).boot ≤ r.boot
  pub newer : (slot_of r.who r.tag past).taken < r.xid.0
  pub fresh : (q : RequestOf) → In q (server_of osts past).waiting → same_request q r ≡ false

-- a boot has room for the cookies of the locks that it grants
pub record ActOk (osts : ℕ) (past : List Line) (at : At) (d : Deed) : Type 0 where
  pub serves : IsServing osts past
  pub room : cookie_after (server_of osts past).cookie (Act d) ≤ first_of (server_of osts past).boot + 4294967295
  pub request : RequestOf
  pub waits : In request (server_of osts past).waiting
  pub still : changes osts (server_of osts past).tree (asked request none) ≡ false
  pub unasked : Unasked (server_of osts past).glimpses request
  pub is : d ≡ deed osts (server_of osts past) at request none (locks_of osts (server_of osts past) request)

-- the metadata target executes operations on names, an object storage target tells how long an object is
abbrev pub ActsOk : ℕ → List Line → At → ℕ → Deed → Type 0
ActsOk osts past at t d = ((t ≡ 0) × ActOk osts past at d) ⊎ ((0 < t) × SizedOk osts past at d)

-- no granted lock guards what it writes
pub record TxnOk (osts : ℕ) (past : List Line) (at : At) (d : Deed) : Type 0 where
  pub serves : IsServing osts past
  pub numbers : (server_of osts past).count < 4294967295
  pub request : RequestOf
  pub waits : In request (server_of osts past).waiting
  pub moves : changes osts (server_of osts past).tree (asked request none) ≡ true
  pub free : is_free (in_way (server_of osts past).granted (written_by osts (server_of osts past) request)) ≡ true
  pub is : d ≡ deed osts (server_of osts past) at request (next_number (server_of osts past)) []

-- the metadata target makes transactions on names, an object storage target on objects
abbrev pub TxnsOk : ℕ → List Line → At → ℕ → Deed → Type 0
TxnsOk osts past at t d = ((t ≡ 0) × TxnOk osts past at d) ⊎ ((0 < t) × WriteOk osts past at d)

-- what it shows stands since the act
pub record GrantOk (osts : ℕ) (past : List Line) (lock : Lock) (d : Deed) : Type 0 where
  pub did : Did past d
  pub among : In lock d.reply.locks
  pub granted : with_lock lock (server_of osts past).granted ≡ (server_of osts past).granted
  pub cookie : max (server_of osts past).cookie lock.cookie.0 ≡ (server_of osts past).cookie
  pub waiting : without_request d (server_of osts past).waiting ≡ (server_of osts past).waiting
  pub queued : without_lock lock (server_of osts past).queued ≡ (server_of osts past).queued
  pub slot : (slot_of d.reply.who d.tag past).reply ≡ Some d.reply

-- the metadata target shows the locks of what was just done, an object storage target grants the lock that was asked for
abbrev pub GrantsOk : ℕ → List Line → At → ℕ → Lock → Deed → Type 0
GrantsOk osts past at t lock d = ((t ≡ 0) × GrantOk osts past lock d) ⊎ ((0 < t) × RangeOk osts past at lock d)

-- a granted lock that isn't called back, and a request that waits for it: it would write what the lock guards
pub record BlockOk (osts : ℕ) (past : List Line) (called : Called) : Type 0 where
  pub serves : IsServing osts past
  pub lock : Lock
  pub granted : In lock (server_of osts past).granted
  pub of_cookie : called.cookie ≡ lock.cookie
  pub of_life : called.who ≡ lock.ask.who
  pub new : is_called lock.cookie (server_of osts past).called ≡ false
  pub request : RequestOf
  pub waits : In request (server_of osts past).waiting
  pub modifies : is_read request.op ≡ false
  pub for_it : list_any (guards_part lock) (written_by osts (server_of osts past) request) ≡ true

-- the metadata target calls back what guards what is to be written, an object storage target what is in the way of a lock that waits
abbrev pub BlocksOk : ℕ → List Line → ℕ → Called → Type 0
BlocksOk osts past t called = ((t ≡ 0) × BlockOk osts past called) ⊎ ((0 < t) × WayOk osts past called)

-- a granted lock whose holder gives it back
pub record BackOk (osts : ℕ) (past : List Line) (t : ℕ) (lock : Lock) : Type 0 where
  pub from : ℕ
  pub boot : ℕ
  pub was : Was past (Client from) (Target t) (message.Cancel lock.ask.who boot lock.cookie)
  pub found : lock_of lock.ask.who lock.cookie (server_of osts past).granted ≡ Some lock

-- what is shown of a lock of a life that was just evicted: it was granted before, and is no more
pub record LeftOk (osts : ℕ) (past : List Line) (lock : Lock) : Type 0 where
  pub evicted : is_life lock.ask.who (evicted_of past) ≡ true
  pub still : without_lock lock (server_of osts past).granted ≡ (server_of osts past).granted
  pub shown : In lock (shown_of past)

abbrev pub ReleaseOk : ℕ → List Line → ℕ → Lock → Type 0
ReleaseOk osts past t lock = IsServing osts past × (BackOk osts past t lock ⊎ LeftOk osts past lock)

-- the last of the transactions that go to the disk, or none where all are there; the batch has all of them, with lives that leave and
-- lives that come. Or it is that of a close, which has made all of it already
pub record CommitOk (head : Head) (past : List Line) (at : At) (to : ℕ) (batch : Batch) : Type 0 where
  pub serves : IsServing head.osts past
  pub is : ((d : Deed) × In d (server_of head.osts past).log × (to ≡ d.reply.txn.0)) ⊎ (to ≡ (server_of head.osts past).committed.0)
  pub of_batch : (batch ≡ batch_of (filter (λ (d : Deed). not (nat_lt to d.reply.txn.0)) (server_of head.osts past).log) batch.removed
      batch.added) ⊎ Due head past at (Commit to batch)

-- before that turn, and since the last close, a lock of that life was called back: reads Block and Close
abbrev pub CalledBefore : List Line → At → Who → Type 0
CalledBefore [] at who = ⊥
CalledBefore (l ∷ past) at who =
    elim l.entry [
      | Block called ↦ ((called.who ≡ who) × (turn_before l.at at ≡ true)) ⊎ CalledBefore past at who
      | Close o ↦ ⊥
      | _
          ↦ CalledBefore past at who
    ]

-- that turn took the message, and no window closed since: reads Take and Close
abbrev pub TookSince : List Line → At → Node → Message → Type 0
TookSince [] at from m = ⊥
TookSince (l ∷ past) at from m =
    elim l.entry [
      | Take number sender message ↦ ((l.at ≡ at) × (sender ≡ from) × (message ≡ m)) ⊎ TookSince past at from m
      | Close o ↦ ⊥
      | _
          ↦ TookSince past at from m
    ]

-- the turn took the join of a newer life of the client
pub record TookNewer (past : List Line) (at : At) (who : Who) : Type 0 where
  pub from : ℕ
  pub other : Who
  pub boot : ℕ
  pub took : TookSince past at (Client from) (message.Join other boot)
  pub client : other.client ≡ who.client
  pub newer : who.life < other.life

abbrev pub EvictedBy : List Line → At → Who → Cause → Type 0
EvictedBy past at who Expired = InTurn IsTick past at × CalledBefore past at who
EvictedBy past at who Replaced = TookNewer past at who
EvictedBy past at who _ = ⊥

-- what a close shows of a life that it evicted
pub record LeavesOk (head : Head) (past : List Line) (at : At) (who : Who) (cause : Cause) : Type 0 where
  pub due : Due head past at (Evict who cause)
  pub serves : IsServing head.osts past
  pub evicted : is_life who (evicted_of past) ≡ true
  pub gone : is_life who (lives_of head.clients past) ≡ false

-- a life with a slot loses it, once all is committed
pub record EvictOk (head : Head) (past : List Line) (at : At) (who : Who) (cause : Cause) : Type 0 where
  pub serves : IsServing head.osts past
  pub has : is_life who (lives_of head.clients past) ≡ true
  pub commits : InTurn IsCommit past at
  pub logged : (server_of head.osts past).log ≡ []
  pub caused : EvictedBy past at who cause

-- a life that asked for a slot, of the present boot, gets one: no life of its client has one, and none that isn't older had one
pub record JoinedOk (head : Head) (past : List Line) (at : At) (t : ℕ) (who : Who) : Type 0 where
  pub serves : IsServing head.osts past
  pub from : ℕ
  pub boot : ℕ
  pub took : Took past at (Client from) (message.Join who boot)
  pub was : Was past (Client from) (Target t) (message.Join who boot)
  pub current : (server_of head.osts past).boot ≤ boot
  pub none : life_in who.client (lives_of head.clients past) ≡ None
  pub newer : list_any (is_over who) (evicted_of past) ≡ false

-- what a close shows of a life that it gave a slot, which had asked for it
pub record ComesOk (head : Head) (past : List Line) (at : At) (t : ℕ) (who : Who) : Type 0 where
  pub due : Due head past at (Joined who)
  pub serves : IsServing head.osts past
  pub has : is_life who (lives_of head.clients past) ≡ true
  pub from : ℕ
  pub boot : ℕ
  pub was : Was past (Client from) (Target t) (message.Join who boot)

-- a target that is up goes down, and one that is down comes up in the next boot, with what stands on its disk
pub record BootOk (head : Head) (past : List Line) (boot : ℕ) (disk : Disk) : Type 0 where
  pub down : up_of past ≡ false
  pub next : boot ≡ (server_of head.osts past).boot + 1
  pub of_disk : disk ≡ disk_of head.osts head.clients past

-- a window closes: by what it has taken, and what stands on the disk; in a turn that took a message, once each life is back or left
pub record CloseOk (head : Head) (past : List Line) (at : At) (o : Outcome) : Type 0 where
  pub recovers : IsRecovering head.osts past
  pub up : up_of past ≡ true
  pub is : o ≡ outcome_of head.osts head.clients at past
  pub of_lives : (disk_of head.osts head.clients past).lives ≡ lives_of head.clients past
  pub of_removed : (disk_of head.osts head.clients past).removed ≡ evicted_of past
  pub of_committed : (disk_of head.osts head.clients past).committed ≡ (server_of head.osts past).committed.0
  pub settled : InTurn IsTake past at → all_settled (window_of head.osts head.clients past) (lives_of head.clients past) ≡ true

-- what a close shows of a lock that it restored
pub record RestoreOk (head : Head) (past : List Line) (at : At) (lock : Lock) : Type 0 where
  pub due : Due head past at (Restore lock)
  pub serves : IsServing head.osts past
  pub granted : In lock (server_of head.osts past).granted

-- what is kept in recovery came in this turn, under the present boot, of a life with a slot, and wasn't kept before
pub record KeepsOk (head : Head) (past : List Line) (at : At) (t : ℕ) (from : Node) (m : Message) (who : Who) (boot : ℕ) : Type 0 where
  pub recovers : IsRecovering head.osts past
  pub up : up_of past ≡ true
  pub took : TookNow past at from m
  pub was : Was past from (Target t) m
  pub of_boot : boot ≡ (server_of head.osts past).boot
  pub has : is_life who (lives_of head.clients past) ≡ true

pub record StoresOk (head : Head) (past : List Line) (at : At) (t : ℕ) (replay : RequestReplay) : Type 0 where
  pub from : Node
  pub given : RequestReplay
  pub keeps : KeepsOk head past at t from (message.Replay given) given.who given.boot
  pub is : replay ≡ cut given
  pub new : list_any (is_replay (replayed given)) (replays_of past) ≡ false

pub record BringsOk (head : Head) (past : List Line) (at : At) (t : ℕ) (lock : Lock) : Type 0 where
  pub from : Node
  pub given : LockReplay
  pub keeps : KeepsOk head past at t from (message.Lock given) given.who given.boot
  pub is : lock ≡ lock_again given
  pub new : list_any (is_lock lock) (brought_of past) ≡ false

-- a word, or the join of a life with a slot, which has nothing to tell
pub record SaysOk (head : Head) (past : List Line) (at : At) (t : ℕ) (said : Said) : Type 0 where
  pub from : Node
  pub boot : ℕ
  pub keeps : KeepsOk head past at t from (message.Word said.who boot said.replays said.locks said.seen) said.who boot
      ⊎ ((said ≡ empty_word said.who) × KeepsOk head past at t from (message.Join said.who boot) said.who boot)
  pub new : word_of said.who (words_of past) ≡ None

-- the join of a newer life than the one with a slot, the newest of its client so far
pub record WishesOk (head : Head) (past : List Line) (at : At) (t : ℕ) (who : Who) : Type 0 where
  pub from : Node
  pub boot : ℕ
  pub old : Who
  pub keeps : KeepsOk head past at t from (message.Join who boot) old boot
  pub client : old.client ≡ who.client
  pub newer : old.life < who.life
  pub newest : is_newest who (wishes_of past) ≡ true

-- a lock on an object is asked for on a range in order, to read or to write
abbrev pub AsksInOrder : Op → Type 0
AsksInOrder (op.Enqueue resource mode extent) = (extent.first ≤ extent.last) × (extent.last ≤ the_end) × ((mode ≡ PR) ⊎ (mode ≡ PW))
AsksInOrder _ = Unit {0}

abbrev pub SendOf : Head → List Line → Node → Node → Message → Type 0
SendOf head past (Client c) (Target t) (message.Request r) = AskOk past c r
SendOf head past (Client c) (Target t) (message.Cancel who boot cookie) = CancelOk past c t who boot cookie
SendOf head past (Client c) (Target t) (message.Where who boot cookie) = WhereOk past c who boot cookie
SendOf head past (Client c) (Target t) (message.Size s) = ReportsOk past c t s
SendOf head past (Client c) (Target t) (message.Join who boot) = JoinsOk past c who boot
SendOf head past (Client c) (Target t) (message.Replay r) = ReplaysOk past c r
SendOf head past (Client c) (Target t) (message.Lock r) = RelocksOk past c r
SendOf head past (Client c) (Target t) (message.Word who boot replays locks seen) = WordsOk past c who boot replays locks seen
SendOf head past (Target t) (Client c) (message.Up boot) = UpOk head past t c boot
SendOf head past (Target t) (Client c) (message.Reply k) = ReplyOk head past t c k
SendOf head past (Target t) (Client c) (message.Block who boot cookie) = CallsOk head.osts past c who boot cookie
SendOf head past (Target t) (Client c) (message.Grant g) = GivesOk head.osts past t c g
SendOf head past (Target t) (Client c) (message.Ask who boot cookie for_who xid) = AskHolderOk head.osts past c who boot cookie for_who xid
SendOf head past (Target t) (Client c) (message.Ready who boot committed) = ReadyOk head past c who boot committed
SendOf head past (Target t) (Client c) (message.Evicted who boot) = NoticeOk head past t c who boot
SendOf head past _ _ _ = ⊥

abbrev pub EntryOf : Head → List Line → At → Node → Entry → Type 0
EntryOf head past at node (Take n from m) = Unit {0}
EntryOf head past at node (Send to m) = SendOf head past node to m
EntryOf head past at node Tick = Unit {0}
EntryOf head past at (Client c) (Begin slot running) = Unit {0}
EntryOf head past at (Client c) (Busy slot) = Unit {0}
EntryOf head past at (Client c) (Queues t q) = AsksInOrder q.op
EntryOf head past at (Client c) (Stands slot running) = Unit {0}
EntryOf head past at (Client c) (Flies t f) = FliesOk head past c t f
EntryOf head past at (Client c) (Heard t f r) = HeardOk past c f r
EntryOf head past at (Client c) (Hold t lock marked size seen) = ((marked ≡ false) × HeldOk past c t lock seen) ⊎ GivenOf past c t lock seen
EntryOf head past at (Client c) (Learns t op answer locks) = KnowsOk past op answer locks
EntryOf head past at (Client c) (Drop t lock) = DropOk past c t lock
EntryOf head past at (Client c) (Pins name) = Unit {0}
EntryOf head past at (Client c) (Unpins name) = Unit {0}
EntryOf head past at (Client c) (Marks name) = Unit {0}
EntryOf head past at (Client c) (Told slot turn answer work) = Unit {0}
EntryOf head past at (Client c) (Life who) = LifeOf past c who
EntryOf head past at (Client c) (Binds handle file) = Unit {0}
EntryOf head past at (Client c) (Unbinds handle) = Unit {0}
EntryOf head past at (Client c) (Knows t boot) = BootKnownOk past c t boot
EntryOf head past at (Client c) (Unmarks t) = Unit {0}
EntryOf head past at (Client c) (Serves t boot) = ServesOk past c t boot
EntryOf head past at (Client c) (Settles t to) = SettlesOk past c t to
EntryOf head past at (Client c) Die = Unit {0}
EntryOf head past at (Client c) (Peek t cookie size) = Unit {0}
EntryOf head past at (Client c) (Changes resource change) = Unit {0}
EntryOf head past at (Client c) (WritesBack resource change) = Unit {0}
EntryOf head past at (Client c) (Acks resource) = Unit {0}
EntryOf head past at (Client c) (Fills resource offset bytes) = Unit {0}
EntryOf head past at (Client c) (Zeroes resource size) = Unit {0}
EntryOf head past at (Client c) (Grown resource change) = Unit {0}
EntryOf head past at (Client c) (Shows resource cookie last) = Unit {0}
EntryOf head past at (Target t) (Enters r) = EntersOk head.osts head.clients past t r
EntryOf head past at (Target t) (Act d) = ActsOk head.osts past at t d
EntryOf head past at (Target t) (Txn d) = TxnsOk head.osts past at t d
EntryOf head past at (Target t) (Grant lock (Some d)) = GrantsOk head.osts past at t lock d
EntryOf head past at (Target t) (Grant lock None) = (0 < t) × PromoteOk head.osts past lock
EntryOf head past at (Target t) (Wait lock d) = (0 < t) × WaitOk head.osts past at lock d
EntryOf head past at (Target t) (Answers d) = (0 < t) × AnswersOk head.osts past at t d
EntryOf head past at (Target t) (Asks g) = (0 < t) × AsksOk head.osts past g
EntryOf head past at (Target t) (Ends g) = (0 < t) × GlimpseEndsOk head.osts past at t g
EntryOf head past at (Target t) (Block called) = BlocksOk head.osts past t called
EntryOf head past at (Target t) (Release lock) = ReleaseOk head.osts past t lock
EntryOf head past at (Target t) Skip = Unit {0}
EntryOf head past at (Target t) (Commit to batch) = CommitOk head past at to batch
EntryOf head past at (Target t) Crash = up_of past ≡ true
EntryOf head past at (Target t) (Boot boot disk) = BootOk head past boot disk
EntryOf head past at (Target t) (Back who) = BackNow head.osts head.clients past who × IsTurnOf past at
EntryOf head past at (Target t) (Stores replay) = StoresOk head past at t replay
EntryOf head past at (Target t) (Brings lock) = BringsOk head past at t lock
EntryOf head past at (Target t) (Says said) = SaysOk head past at t said
EntryOf head past at (Target t) (Wishes who) = WishesOk head past at t who
EntryOf head past at (Target t) (Evict who cause) = EvictOk head past at who cause ⊎ LeavesOk head past at who cause
EntryOf head past at (Target t) (Joined who) = JoinedOk head past at t who ⊎ ComesOk head past at t who
EntryOf head past at (Target t) (Close o) = CloseOk head past at o
EntryOf head past at (Target t) (Kept number) = Due head past at (Kept number)
EntryOf head past at (Target t) (Restore lock) = RestoreOk head past at lock
EntryOf head past at _ _ = ⊥
