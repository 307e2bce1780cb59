-- Law of recovery (Lustre Operations Manual, recovery, for numbers, replay and evictions; seen numbers, what a close
-- loses and the lines after it are this project's profile).
--
-- At a `txn`: its number is above all earlier ones of its target and is of the target's boot. A `txn`, a reply sent
-- where it is executed, and a grant name the seen numbers. At a `commit`: its number is 0 or stands, and isn't below
-- the last one. A life that comes back in an open recovery window has a `back` line in that turn, and no other life
-- has one. At a `close`: the window is open, and where the turn took a message each life with a slot is back or has a
-- newer life that asked to join.
--
-- After a finished close, in its turn: the `kept` and `evict` lines are those that the close decides, in rising order,
-- the `restore` lines those that it decides, each once. What is missing breaks the law at the `close`; a line too much
-- or out of order at that line. No `kept` line names a number that was committed at the target's last close. An
-- `evict` line is of a life with a slot and stands after a `commit` of its turn; where no finished close stands before
-- it in its turn, its cause is `expired`, after a `tick` of its turn, of a life called back in an earlier turn of this
-- boot, or `replaced`, where the turn took the join of a newer life of that client.
--
-- `clients` is the number of the trace's clients.
use Rattle.std.specs.Prelude.{◌≡◌, ℕ, zero, suc, ◌/◌, ◌^◌, ◌<◌, ◌≤◌, Bool, true, false, not, ◌==◌, ◌&&◌, ◌||◌, nat_lt, if◌then◌else◌}
use Rattle.std.specs.Prelude.{Option, Some, None, List, [], ◌∷◌, filter}
use Rattle.std.specs.Bool.{then_some}
use Rattle.std.specs.List.{list_any}
use Rattle.lu_base.specs.declared.ids.At.{At}
use Rattle.lu_base.specs.declared.ids.Node.{Node}
use Rattle.lu_base.specs.declared.ids.Node.TheVariants.{Client, Target}
use Rattle.lu_base.specs.declared.ids.Txn.{Txn as TxnOf}
use Rattle.lu_base.specs.declared.ids.Who.{Who}
use Rattle.lu_base.specs.declared.locks.Cause.{Cause}
use Rattle.lu_base.specs.declared.locks.Cause.TheVariants.{Absent, Gap, Expired, Replaced}
use Rattle.lu_base.specs.declared.locks.Lock.{Lock as LockOf}
use Rattle.lu_msg.specs.declared.answers.Answer.{Answer}
use Rattle.lu_msg.specs.declared.messages.Message.{Message}
use Rattle.lu_msg.specs.declared.messages.Message.TheVariants as message
use Rattle.lu_msg.specs.declared.messages.Reply.{Reply as ReplyOf}
use Rattle.lu_msg.specs.declared.messages.GrantNotice.{GrantNotice}
use Rattle.lu_trace.specs.declared.entries.Entry.{Entry}
use Rattle.lu_trace.specs.declared.entries.Entry.TheVariants.{Send, Take, Tick, Txn, Commit, Back, Close, Kept, Restore, Evict, Joined}
use Rattle.lu_trace.specs.declared.entries.Line.{Line}
use Rattle.lu_spec_machine.specs.Tree.{same_life}
use Rattle.lu_spec_machine.specs.Footprint.{Every}
use Rattle.lu_spec_laws.specs.Words.Pasts.{Past, same_turn, some_line}
use Rattle.lu_spec_laws.specs.Words.Sends.{Sending, message_of, taken}
use Rattle.lu_spec_laws.specs.Words.Scopes.{last_in, any_in, any_later}
use Rattle.lu_spec_laws.specs.Words.Requests.{asked}
use Rattle.lu_spec_laws.specs.Words.Clients.{clients}
use Rattle.lu_spec_laws.specs.Words.Boots.{boot, committed, greatest, is_recovering}
use Rattle.lu_spec_laws.specs.Words.Slots.{has_slot, slots}
use Rattle.lu_spec_laws.specs.Words.Handed.{is_back, has_newer, comes_back}
use Rattle.lu_spec_laws.specs.Words.Lost.{Transaction, transactions, is_among, is_lost}
use Rattle.lu_spec_laws.specs.Words.Closes.{kept_at, cause_at, restored_at, find_lock, is_finished, decided, committed_at_close, last_kept}
use Rattle.lu_spec_laws.specs.Words.Closes.{last_evicted, has_restored, will_keep, will_evict, will_restore}
use Rattle.lu_spec_laws.specs.Words.CalledBack.{was_called_back}
use Rattle.lu_spec_laws.specs.Words.Seen.{touches_of, seen_by, notice_touches}

-- ---- transactions

-- what the request of a life saw that has this answer
abbrev pub request_sees : ℕ → ℕ → Past → TxnOf → Who → ℕ → Answer → List ℕ
request_sees osts t past number who x answer =
    seen_by osts t past (touches_of osts t past number who (asked past t who x) answer)

-- a transaction's number is above all earlier ones of its target, its high 32 bits are the target's boot, and it names
-- the seen numbers that are due
pub record TransactionAt (t : ℕ) (past : Past) (number : ℕ) (seen due : List ℕ) : Type 0 where
  pub above : greatest t past < number
  pub in_boot : number / 2 ^ 32 ≡ boot t past
  pub sees : seen ≡ due

-- ---- replies, where they are executed

-- the answer of a lock's holder to a glimpse of that life and request
abbrev pub answers_size : Who → ℕ → Message → Bool
answers_size who x (message.Size s) = same_life s.for_who who && s.xid.0 == x
answers_size who x _ = false

abbrev pub is_size_for : Who → ℕ → List Sending → Bool
is_size_for who x taken = list_any (λ (s : Sending). answers_size who x s.message) taken

-- the turn is the one that the reply names, or took the holder's answer that it passes on; a kept reply that is sent
-- again names an earlier turn
abbrev pub is_executed : Past → At → ReplyOf → Bool
is_executed past at r = same_turn r.at at || is_size_for r.who r.xid.0 (taken past at)

abbrev pub saw_as : Who → ℕ → Entry → Option (List ℕ)
saw_as who x (Txn number other xid seen answer) = then_some (same_life other who && xid.0 == x) seen
saw_as who x _ = None

-- the seen numbers of the transaction that the request made in this turn
abbrev pub seen_in : Past → At → Who → ℕ → Option (List ℕ)
seen_in past at who x = last_in (saw_as who x) at past

-- a transaction doesn't see itself; 0 is no transaction
abbrev pub other_than : ℕ → List ℕ → List ℕ
other_than zero seen = seen
other_than (suc n) seen = filter (λ m. not (m == suc n)) seen

-- a transaction's reply has the numbers of its `txn` line, that of an act those at this line
abbrev pub reply_seen : ℕ → ℕ → Past → ReplyOf → Option (List ℕ) → List ℕ
reply_seen osts t past r (Some seen) = seen
reply_seen osts t past r None = other_than r.txn.0 (request_sees osts t past r.txn r.who r.xid.0 r.answer)

abbrev pub ReplyAt : ℕ → ℕ → Past → At → ReplyOf → Type 0
ReplyAt osts t past at r =
    is_executed past at r ≡ true → r.seen ≡ reply_seen osts t past r (seen_in past at r.who r.xid.0)

-- a grant has the numbers over the range that is granted, when it is sent
abbrev pub NoticeAt : ℕ → ℕ → Past → GrantNotice → Type 0
NoticeAt osts t past g = g.seen ≡ seen_by osts t past (notice_touches t past g)

abbrev pub SentAt : ℕ → ℕ → Past → At → Message → Type 0
SentAt osts t past at (message.Reply r) = ReplyAt osts t past at r
SentAt osts t past at (message.Grant g) = NoticeAt osts t past g
SentAt osts t past at _ = Unit {0}

-- ---- commits

-- a transaction of the target has this number and isn't lost
abbrev pub stands : ℕ → Past → ℕ → Bool
stands t past n = list_any (λ (x : Transaction). x.number == n) (transactions t past) && not (is_lost past t n)

pub record CommitAt (t : ℕ) (past : Past) (n : ℕ) : Type 0 where
  pub standing : (n == 0 || stands t past n) ≡ true
  pub least : committed t past ≤ n

-- ---- who is back

abbrev pub is_back_of : Who → Entry → Bool
is_back_of who (Back other) = same_life other who
is_back_of who _ = false

-- a line of this turn brought the life back
abbrev pub came_back : ℕ → At → Past → Who → Bool
came_back t at past who = some_line (λ before (l : Line). same_turn l.at at && comes_back t who before l) past

-- the life came back in this turn, the window is still open, and it has no other `back` line there
pub record BackAt (t : ℕ) (past : Past) (at : At) (who : Who) : Type 0 where
  pub recovering : is_recovering t past ≡ true
  pub came : came_back t at past who ≡ true
  pub once : any_in (is_back_of who) at past ≡ false

-- what brings a life back is a message of it, or its slot
abbrev pub BringsBack : ℕ → Past → Line → List Line → Who → Type 0
BringsBack t past l later who = comes_back t who past l ≡ true → any_later (is_back_of who) l.at later ≡ true

abbrev pub TakenAt : ℕ → Past → Line → List Line → Option Message → Type 0
TakenAt t past l later (Some (message.Replay r)) = BringsBack t past l later r.who
TakenAt t past l later (Some (message.Lock r)) = BringsBack t past l later r.who
TakenAt t past l later (Some (message.Word who boot replays locks seen)) = BringsBack t past l later who
TakenAt t past l later (Some (message.Join who boot)) = BringsBack t past l later who
TakenAt t past l later _ = Unit {0}

-- ---- closes

abbrev pub is_take : Entry → Bool
is_take (Take n) = true
is_take _ = false

abbrev pub Evicts : At → List Line → Who → Option Cause → Type 0
Evicts at later who None = Unit {0}
Evicts at later who (Some cause) = will_evict at later who ≡ Some cause

abbrev pub Restores : At → List Line → LockOf → Type 0
Restores at later lock = will_restore at later lock.ask.who lock.cookie.0 ≡ Some lock

-- each line that the close decides stands in the rest of the turn
pub record FollowsAt (clients t : ℕ) (past : Past) (at : At) (later : List Line) : Type 0 where
  pub keeps : Every (λ n. will_keep at later n ≡ true) (kept_at t past)
  pub evicts : Every (λ who. Evicts at later who (cause_at t past who)) (slots clients t past)
  pub restores : Every (Restores at later) (restored_at t past)

abbrev pub AllBack : ℕ → ℕ → Past → Type 0
AllBack clients t past = Every (λ who. (is_back t past who || has_newer t past who) ≡ true) (slots clients t past)

pub record CloseAt (clients t : ℕ) (past : Past) (at : At) (later : List Line) : Type 0 where
  pub recovering : is_recovering t past ≡ true
  pub all_back : any_in is_take at past ≡ true → AllBack clients t past
  pub follows : is_finished at past later ≡ true → FollowsAt clients t past at later

-- ---- what is kept and restored

pub record KeptAfter (kept : List ℕ) (last n : ℕ) : Type 0 where
  pub named : is_among kept n ≡ true
  pub rises : last < n

abbrev pub KeptIn : Option (List ℕ) → ℕ → ℕ → Type 0
KeptIn None last n = Unit {0}
KeptIn (Some kept) last n = KeptAfter kept last n

pub record KeptAt (t : ℕ) (past : Past) (at : At) (later : List Line) (n : ℕ) : Type 0 where
  pub uncommitted : committed_at_close t past < n
  pub follows : KeptIn (decided (kept_at t) at past later) (last_kept at past) n

pub record RestoredAfter (due : Option LockOf) (restored : Bool) (lock : LockOf) : Type 0 where
  pub named : due ≡ Some lock
  pub once : restored ≡ false

abbrev pub RestoredIn : Option (List LockOf) → Bool → LockOf → Type 0
RestoredIn None restored lock = Unit {0}
RestoredIn (Some locks) restored lock = RestoredAfter (find_lock lock.ask.who lock.cookie.0 locks) restored lock

abbrev pub RestoredAt : ℕ → Past → At → List Line → LockOf → Type 0
RestoredAt t past at later lock =
    RestoredIn (decided (restored_at t) at past later) (has_restored at lock.ask.who lock.cookie.0 past) lock

-- ---- evictions

abbrev pub is_above : Option Who → Who → Bool
is_above None who = true
is_above (Some last) who = nat_lt last.client who.client || (last.client == who.client && nat_lt last.life who.life)

pub record EvictedAfter (due : Option Cause) (last : Option Who) (who : Who) (cause : Cause) : Type 0 where
  pub named : due ≡ Some cause
  pub rises : is_above last who ≡ true

abbrev pub is_commit : Entry → Bool
is_commit (Commit number) = true
is_commit _ = false

abbrev pub is_tick : Entry → Bool
is_tick Tick = true
is_tick _ = false

pub record ExpiredAt (t : ℕ) (past : Past) (at : At) (who : Who) : Type 0 where
  pub ticks : any_in is_tick at past ≡ true
  pub called : was_called_back t who at past ≡ true

abbrev pub joins_after : Who → Message → Bool
joins_after who (message.Join other boot) = other.client == who.client && nat_lt who.life other.life
joins_after who _ = false

-- the turn took the join of a newer life of the client
abbrev pub takes_newer : Past → At → Who → Bool
takes_newer past at who = list_any (λ (s : Sending). joins_after who s.message) (taken past at)

abbrev pub EvictedBy : ℕ → Past → At → Who → Cause → Type 0
EvictedBy t past at who Expired = ExpiredAt t past at who
EvictedBy t past at who Replaced = takes_newer past at who ≡ true
EvictedBy t past at who Absent = ⊥
EvictedBy t past at who Gap = ⊥

-- by a finished close of this turn, or else by a tick or a newer life
abbrev pub EvictedIn : ℕ → Past → At → Who → Cause → Option (Option Cause) → Type 0
EvictedIn t past at who cause None = EvictedBy t past at who cause
EvictedIn t past at who cause (Some due) = EvictedAfter due (last_evicted at past) who cause

pub record EvictAt (t : ℕ) (past : Past) (at : At) (later : List Line) (who : Who) (cause : Cause) : Type 0 where
  pub slot : has_slot t past who ≡ true
  pub commit : any_in is_commit at past ≡ true
  pub caused : EvictedIn t past at who cause (decided (λ before. cause_at t before who) at past later)

-- ---- the law

-- only a target's line says something
abbrev pub OnTarget : Node → (ℕ → Type 0) → Type 0
OnTarget (Target t) says = says t
OnTarget (Client c) says = Unit {0}

abbrev pub RecoveryAt : ℕ → ℕ → Past → Line → List Line → Entry → Type 0
RecoveryAt clients osts past l later (Send number to m) = OnTarget l.at.node (λ t. SentAt osts t past l.at m)
RecoveryAt clients osts past l later (Take n) = OnTarget l.at.node (λ t. TakenAt t past l later (message_of past n))
RecoveryAt clients osts past l later (Txn number who xid seen answer) =
    OnTarget l.at.node (λ t. TransactionAt t past number.0 seen (request_sees osts t past number who xid.0 answer))
RecoveryAt clients osts past l later (Commit number) = OnTarget l.at.node (λ t. CommitAt t past number.0)
RecoveryAt clients osts past l later (Back who) = OnTarget l.at.node (λ t. BackAt t past l.at who)
RecoveryAt clients osts past l later Close = OnTarget l.at.node (λ t. CloseAt clients t past l.at later)
RecoveryAt clients osts past l later (Kept number) = OnTarget l.at.node (λ t. KeptAt t past l.at later number.0)
RecoveryAt clients osts past l later (Restore lock) = OnTarget l.at.node (λ t. RestoredAt t past l.at later lock)
RecoveryAt clients osts past l later (Evict who cause) = OnTarget l.at.node (λ t. EvictAt t past l.at later who cause)
RecoveryAt clients osts past l later (Joined who) = OnTarget l.at.node (λ t. BringsBack t past l later who)
RecoveryAt clients osts past l later _ = Unit {0}

abbrev pub RecoveryOf : ℕ → ℕ → Past → Line → List Line → Type 0
RecoveryOf clients osts past l later = RecoveryAt clients osts past l later l.entry

-- the law of a whole trace
abbrev pub Recovery : ℕ → Past → Past → Line → List Line → Type 0
Recovery osts whole = RecoveryOf (clients whole) osts
