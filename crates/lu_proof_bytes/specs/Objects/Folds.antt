-- What a whole past says of one target t, and of a life c there: boots, slots, evictions, cookies and commits of the target
-- (Lustre Operations Manual, recovery; Wang et al., Understanding Lustre Filesystem Internals, the lock manager, for
-- cookies); what a life knows and has asked (Lustre Operations Manual, multiple requests in flight, for tags; this
-- project's profile for the rest).
use Rattle.lu_proof_bytes.specs.Object.Words.{Answer, Content, Done}
use Rattle.std.specs.Prelude.{◌≡◌, ◌⊎◌, ◌≤◌, ℕ, max, Bool, true, false, ◌&&◌, ◌||◌, nat_eq, if◌then◌else◌, List, [], ◌∷◌, Option, Some}
use Rattle.std.specs.Prelude.{None}
use Rattle.lu_proof_bytes.specs.Object.Words.{Request, Entry, Grant, Wait, Txn, Heard, Hold}
use Rattle.lu_proof_bytes.specs.Object.Folds.{also}
use Rattle.lu_proof_bytes.specs.Object.Guards.{HeardOf}
use Rattle.lu_proof_bytes.specs.Objects.Words.{Message, Line, Knows, Serves, Flies, Lives, Over, Joins, Queue, Serve, Evict}
use Rattle.lu_proof_bytes.specs.Objects.Words.{Commit as Commits, Crash, Boot, Close, Send, Flight, Place}

-- ---- of the target

-- the boot that the target has, from 1: reads Boot
abbrev pub boot : ℕ → List Line → ℕ
boot t [] = 1
boot t (Boot u b ∷ past) = if nat_eq t u then b else boot t past
boot t (_ ∷ past) = boot t past

-- the target serves: from the start, not from a crash until a close
abbrev pub serving : ℕ → List Line → Bool
serving t [] = true
serving t (Crash u ∷ past) = if nat_eq t u then false else serving t past
serving t (Close u lost gone ∷ past) = if nat_eq t u then true else serving t past
serving t (_ ∷ past) = serving t past

-- the boot that the last close had, 1 before any: reads Close. While the target serves this is its boot
abbrev pub closed : ℕ → List Line → ℕ
closed t [] = 1
closed t (Close u lost gone ∷ past) = if nat_eq t u then boot t past else closed t past
closed t (_ ∷ past) = closed t past

-- the life got a slot at the target at some time, which an eviction doesn't undo here: reads Joins
abbrev pub joined : ℕ → ℕ → List Line → Bool
joined t c [] = false
joined t c (Joins u d ∷ past) = (nat_eq t u && nat_eq c d) || joined t c past
joined t c (_ ∷ past) = joined t c past

-- the target evicted the life, of itself or at a close: reads Evict and Close
abbrev pub evicted : ℕ → ℕ → List Line → Bool
evicted t c [] = false
evicted t c (Evict u d ∷ past) = (nat_eq t u && nat_eq c d) || evicted t c past
evicted t c (Close u lost gone ∷ past) = (nat_eq t u && gone c) || evicted t c past
evicted t c (_ ∷ past) = evicted t c past

-- the greater of the number and the cookie that the entry gives: reads Grant and Wait
abbrev pub cookie_of : Entry → ℕ → ℕ
cookie_of (Grant r l s sn) n = max l.cookie n
cookie_of (Wait r l) n = max l.cookie n
cookie_of _ n = n

-- the greatest cookie that the target gave, 0 before any: reads Serve. A lock that is granted later keeps its cookie
abbrev pub top : ℕ → List Line → ℕ
top t [] = 0
top t (Serve u o g r e ∷ past) = if nat_eq t u then cookie_of e (top t past) else top t past
top t (_ ∷ past) = top t past

-- the entry gives this cookie
abbrev pub gave : Entry → ℕ → Bool
gave (Grant r l s sn) k = nat_eq l.cookie k
gave (Wait r l) k = nat_eq l.cookie k
gave _ k = false

-- the object that the cookie was given for: reads Serve
abbrev pub object_of : ℕ → ℕ → List Line → Option ℕ
object_of t k [] = None
object_of t k (Serve u o g r e ∷ past) = if nat_eq t u && gave e k then Some o else object_of t k past
object_of t k (_ ∷ past) = object_of t k past

-- the greater of the number and the request's number, where the entry is a transaction that isn't lost
abbrev pub txn_of : (ℕ → Bool) → Request → Entry → ℕ → ℕ
txn_of lost r (Txn n q) x = if lost n then x else max r.xid x
txn_of lost r _ x = x

-- the greatest request number of the life's transactions under the tag that are neither lost nor lost by a close after
-- them, 0 where there is none
abbrev pub stands : ℕ → (ℕ → Bool) → ℕ → ℕ → List Line → ℕ
stands t lost c g [] = 0
stands t lost c g (Serve u o h r e ∷ past) = if nat_eq t u && nat_eq c r.life && nat_eq g h then txn_of lost r e (stands t lost c g past)
    else stands t lost c g past
stands t lost c g (Close u l gone ∷ past) = if nat_eq t u then stands t (also lost l) c g past else stands t lost c g past
stands t lost c g (_ ∷ past) = stands t lost c g past

-- the request number of the slot of a life and tag (Lustre Operations Manual, multiple requests in flight: a client's slots
-- for replies at a target): the greatest of the requests that were taken since the last close and of the transactions that
-- stood at it, 0 where there is none
abbrev pub slot : ℕ → ℕ → ℕ → List Line → ℕ
slot t c g [] = 0
slot t c g (Serve u o h r e ∷ past) = if nat_eq t u && nat_eq c r.life && nat_eq g h then max r.xid (slot t c g past) else slot t c g past
slot t c g (Queue u o h r ∷ past) = if nat_eq t u && nat_eq c r.life && nat_eq g h then max r.xid (slot t c g past) else slot t c g past
slot t c g (Close u l gone ∷ past) = if nat_eq t u then stands t l c g past else slot t c g past
slot t c g (_ ∷ past) = slot t c g past

-- ---- of a life at the target

-- the life is over: reads Over
abbrev pub over : ℕ → List Line → Bool
over c [] = false
over c (Over d ∷ past) = nat_eq c d || over c past
over c (_ ∷ past) = over c past

-- the boot that the life knows, 1 before it learns of another: reads Knows
abbrev pub knows : ℕ → ℕ → List Line → ℕ
knows t c [] = 1
knows t c (Knows u d b ∷ past) = if nat_eq t u && nat_eq c d then b else knows t c past
knows t c (_ ∷ past) = knows t c past

-- the life may ask at the target: it took `Ready` since it learned of the boot that it knows, or was there from the start:
-- reads Knows and Serves
abbrev pub serves : ℕ → ℕ → List Line → Bool
serves t c [] = false
serves t c (Knows u d b ∷ past) = if nat_eq t u && nat_eq c d then false else serves t c past
serves t c (Serves u d b ∷ past) = if nat_eq t u && nat_eq c d then true else serves t c past
serves t c (_ ∷ past) = serves t c past

-- the number of the life's last request at the target, 0 before any: reads Flies
abbrev pub last : ℕ → ℕ → List Line → ℕ
last t c [] = 0
last t c (Flies u o g r ∷ past) = if nat_eq t u && nat_eq c r.life then r.xid else last t c past
last t c (_ ∷ past) = last t c past

-- where this request number of the life went: reads Flies
abbrev pub place : ℕ → ℕ → ℕ → List Line → Option Place
place t c x [] = None
place t c x (Flies u o g r ∷ past) = if nat_eq t u && nat_eq c r.life && nat_eq x r.xid then Some (record { object = o; tag = g })
    else place t c x past
place t c x (_ ∷ past) = place t c x past

-- the number of the request whose reply the entry hears
abbrev pub heard_of : Entry → Option ℕ
heard_of (Heard r a) = Some r.xid
heard_of _ = None

-- the flights but those of this request number
abbrev pub without : Option ℕ → List Flight → List Flight
without None fs = fs
without (Some x) [] = []
without (Some x) (f ∷ fs) = if nat_eq f.request.xid x then without (Some x) fs else f ∷ without (Some x) fs

-- the life's requests in flight at the target: begun and not heard yet
abbrev pub flights : ℕ → ℕ → List Line → List Flight
flights t c [] = []
flights t c (Flies u o g r ∷ past) = if nat_eq t u && nat_eq c r.life then record { object = o; tag = g; request = r } ∷ flights t c past
    else flights t c past
flights t c (Lives u o d e ∷ past) = if nat_eq t u && nat_eq c d then without (heard_of e) (flights t c past) else flights t c past
flights t c (_ ∷ past) = flights t c past

-- one of the flights is this
abbrev pub In : Flight → List Flight → Type 0
In f [] = ⊥
In f (k ∷ fs) = (k ≡ f) ⊎ In f fs

-- the request was taken, and waits for its answer: it was neither executed since, nor its life evicted at the target, nor
-- did a window of the target close
abbrev pub Queued : ℕ → List Line → Flight → Type 0
Queued t [] k = ⊥
Queued t (Queue u o g r ∷ past) k = ((t ≡ u) × (record { object = o; tag = g; request = r } ≡ k)) ⊎ Queued t past k
Queued t (Serve u o g r e ∷ past) k = (t ≡ u → r.life ≡ k.request.life → r.xid ≡ k.request.xid → ⊥) × Queued t past k
Queued t (Evict u c ∷ past) k = (t ≡ u → c ≡ k.request.life → ⊥) × Queued t past k
Queued t (Close u lost gone ∷ past) k = (t ≡ u → ⊥) × Queued t past k
Queued t (_ ∷ past) k = Queued t past k

-- ---- messages between the target and anyone

-- the target, or a life to it, sent this message at some time
abbrev pub Sent : List Line → ℕ → Message → Type 0
Sent [] t m = ⊥
Sent (Send u k ∷ past) t m = ((t ≡ u) × (k ≡ m)) ⊎ Sent past t m
Sent (_ ∷ past) t m = Sent past t m

-- ---- what a life knows of transactions: the numbers of its own that it heard, and those that its gets and holds saw
-- (Lustre Operations Manual, recovery, for what is replayed; this project's profile, for what a reply saw)

-- the answer shows the number of a transaction: its own, or one that the bytes told rest on
abbrev pub SawAnswer : Answer → ℕ → Type 0
SawAnswer (Done m) n = m ≡ n
SawAnswer (Content vs top sn) n = sn n ≡ true
SawAnswer _ n = ⊥

-- the entry shows the life a number: a reply that it heard, or the transactions below a lock that it took
abbrev pub SawIn : ℕ → Entry → ℕ → Type 0
SawIn c (Heard r a) n = (r.life ≡ c) × SawAnswer a n
SawIn c (Hold l s sn) n = (l.life ≡ c) × (sn n ≡ true)
SawIn c _ n = ⊥

-- the life saw this number of a transaction of the target: its own that it heard, or one that its gets and holds told of
abbrev pub Saw : ℕ → ℕ → List Line → ℕ → Type 0
Saw t c [] n = ⊥
Saw t c (Lives u o d e ∷ past) n = ((t ≡ u) × SawIn c e n) ⊎ Saw t c past n
Saw t c (_ ∷ past) n = Saw t c past n

-- the number of the target's last commit, 0 before any
abbrev pub committed : ℕ → List Line → ℕ
committed t [] = 0
committed t (Commits u n ∷ past) = if nat_eq t u then n else committed t past
committed t (_ ∷ past) = committed t past

-- ---- the same, said for the proofs line by line

-- of what a life did with an object: unless it is out it heard of no lost transaction, its own or one that it saw. The life
-- is that of the entry
abbrev pub KeptIn : (ℕ → Bool) → (ℕ → Bool) → ℕ → Entry → Type 0
KeptIn out lost c (Heard r a) = out r.life ≡ false → HeardOf lost a
KeptIn out lost c (Hold l s sn) = out l.life ≡ false → (n : ℕ) → sn n ≡ true → lost n ≡ false
KeptIn out lost c _ = Unit {0}

-- the same of the whole past: at target t, no life that isn't out heard of a transaction that is lost, by then or by a
-- close after it, and none that was committed is lost
abbrev pub Kept : ℕ → (ℕ → Bool) → (ℕ → Bool) → List Line → Type 0
Kept t out lost [] = Unit {0}
Kept t out lost (Lives u o c e ∷ past) = (t ≡ u → KeptIn out lost c e) × Kept t out lost past
Kept t out lost (Commits u m ∷ past) = (t ≡ u → (n : ℕ) → n ≤ m → lost n ≡ false) × Kept t out lost past
Kept t out lost (Close u l gone ∷ past) = Kept t out (if nat_eq t u then also lost l else lost) past
Kept t out lost (_ ∷ past) = Kept t out lost past
