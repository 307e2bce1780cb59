-- What each line of a whole past may rest on; nothing else ever happens. What concerns one object is said of its story
-- (`specs/Object/Guards`), what concerns a target or a life there of the whole past: boots, slots and what a close
-- owes (Lustre Operations Manual, recovery and multiple requests in flight), locks and calls for them (Wang et al.,
-- Understanding Lustre Filesystem Internals, the lock manager), and seen numbers (this project's profile).
use Rattle.std.specs.Prelude.{◌≤◌}
use Rattle.std.specs.Prelude.{◌≡◌, ◌⊎◌, ℕ, ◌<◌, ◌||◌, Bool, true, false, List, [], ◌∷◌, Some, None}
use Rattle.lu_proof_bytes.specs.Object.Words.{Lock, Change, Flush, Request, Granted, Call, Entry, Takes, Heard, Hold, Drop, Grant, Wait}
use Rattle.lu_proof_bytes.specs.Object.Words.{Promote, Acts, Txn, Release, covers, changes}
use Rattle.lu_proof_bytes.specs.Object.Folds.{Answered, HeldBy, IsGranted, WasDropped, awaits}
use Rattle.lu_proof_bytes.specs.Object.Guards.{GrantedNumber, ToldOk, OpOk, Sees, ActsOk, IsEnd, Named, Asks, Free, PromoteOk, DropOk}
use Rattle.lu_proof_bytes.specs.Object.Guards.{TakesOk}
use Rattle.lu_proof_bytes.specs.Objects.Words.{Message, Ask, Reply, Give, Block, Cancel, Join, Ready, Line, Knows, Serves, Flies, Lives}
use Rattle.lu_proof_bytes.specs.Objects.Words.{Tells, Over, Joins, Queue, Serve, Works, Evict, Commit, Crash, Boot, Close, Send, Flight}
use Rattle.lu_proof_bytes.specs.Objects.Folds.{boot, serving, closed, joined, evicted, top, object_of, slot, over, knows, serves, last}
use Rattle.lu_proof_bytes.specs.Objects.Folds.{place, heard_of, flights, In, Queued, Sent, Saw, committed}
use Rattle.lu_proof_bytes.specs.Objects.Only.{only, live, is_at}

-- a request that is taken now: the target serves, the request was sent with the target's boot, its life has a slot and
-- wasn't evicted, and its number is above that of the slot of its tag, so none is taken twice
pub record FreshAt (past : List Line) (t o g : ℕ) (r : Request) : Type 0 where
  pub serving : serving t past ≡ true
  pub sent : Sent past t (Ask (boot t past) g o r)
  pub joined : joined t r.life past ≡ true
  pub evicted : evicted t r.life past ≡ false
  pub above : slot t r.life g past < r.xid

-- or one that was taken so and waits; the target still serves and its life still has its slot
pub record WaitsAt (past : List Line) (t o g : ℕ) (r : Request) : Type 0 where
  pub serving : serving t past ≡ true
  pub queued : Queued t past (record { object = o; tag = g; request = r })
  pub joined : joined t r.life past ≡ true
  pub evicted : evicted t r.life past ≡ false

-- what a request for an object may come to. A lock is granted for the asking life, under a new cookie above all that the
-- target gave, over what was asked or more, where it conflicts with no granted one on the object, with the object's size
-- and all that stands, may have changed something under it and isn't committed; or it has to wait, under a new cookie; or
-- the request is answered without a transaction: a get with the bytes of the object, under a granted lock that covers them,
-- a glimpse with any size (which sizes are right, `objects_theorems::glimpses` says), and any may be refused as uncovered; or a put
-- or cut is a transaction, under a granted lock for writing that covers all that it may change
abbrev pub ServedOk : List Line → ℕ → ℕ → Request → Entry → Type 0
ServedOk past t o r (Grant q l s sn) = (q ≡ r) × (l.life ≡ r.life) × (top t past < l.cookie) × Asks r.op l
    × Free (only t o past) l × IsEnd (only t o past) s × Sees (only t o past) sn (covers l)
ServedOk past t o r (Wait q l) = (q ≡ r) × (l.life ≡ r.life) × (top t past < l.cookie) × Asks r.op l
ServedOk past t o r (Acts q a) = (q ≡ r) × ActsOk (only t o past) r a
ServedOk past t o r (Txn n q) = (q ≡ r) × (0 < n)
    × ((k : ℕ) × (ch : Change) × (r.op ≡ Flush k ch) × GrantedNumber (only t o past) r.life k true (changes ch))
ServedOk past t o r _ = ⊥

-- a lock that waits is granted, as the object's story allows it; a granted one is released, where a serving target has a
-- `Cancel` with its boot from a life that it hasn't evicted, or where the lock's life was evicted
abbrev pub WorksOk : List Line → ℕ → ℕ → Entry → Type 0
WorksOk past t o (Promote l) = PromoteOk (only t o past) l
WorksOk past t o (Release k) = (object_of t k past ≡ Some o)
    × (((serving t past ≡ true) × ((c : ℕ) × Sent past t (Cancel (boot t past) c k) × (evicted t c past ≡ false)))
    ⊎ ((l : Lock) → IsGranted (only t o past) l → l.cookie ≡ k → evicted t l.life past ≡ true))
WorksOk past t o _ = ⊥

-- what a life does with an object: it hears a reply with the boot that it knows to a request in flight there; it holds a
-- lock of its own that it awaits and that such a reply or a grant has; it drops a lock of its own, as the object's story
-- allows it
abbrev pub LivesOk : List Line → ℕ → ℕ → ℕ → Entry → Type 0
LivesOk past t o c (Heard r a) = (r.life ≡ c) × ((g : ℕ) × In (record { object = o; tag = g; request = r }) (flights t c past))
    × Sent past t (Reply (knows t c past) c r.xid a)
LivesOk past t o c (Hold l s sn) = (l.life ≡ c) × (object_of t l.cookie past ≡ Some o) × (awaits c l.cookie (only t o past) ≡ true)
    × (((x : ℕ) × Sent past t (Reply (knows t c past) c x (Granted l s sn)) × (is_at (place t c x past) o ≡ true))
    ⊎ Sent past t (Give (knows t c past) l s sn))
LivesOk past t o c (Drop l) = (l.life ≡ c) × DropOk (only t o past) l
LivesOk past t o c (Takes d k ch) = (d ≡ c) × TakesOk (only t o past) c k ch
LivesOk past t o c _ = ⊥

-- a life begins a request: it isn't over and may ask at the target, the number is above all its earlier ones there, it has
-- no other in flight on the object, and what it asks rests on what it holds and wrote there
pub record FliesOk (past : List Line) (t o g : ℕ) (r : Request) : Type 0 where
  pub goes_on : over r.life past ≡ false
  pub serves : serves t r.life past ≡ true
  pub next : last t r.life past < r.xid
  pub one : (f : Flight) → In f (flights t r.life past) → f.object ≡ o → ⊥
  pub op : live t r.life past ≡ true → OpOk (only t o past) r.life r.op

-- what may be sent. A life asks, again and again, with the boot that it knows, for what is in flight. A serving target
-- replies, with its boot to a life with a slot, what it answered that request of that object; and it tells a granted lock
-- again, with the object's size and what stands, may have changed something under it and isn't committed. It calls back
-- what is granted. A life that is live gives back a lock that it dropped, or one that was called back and that it neither
-- holds nor awaits, while nothing is in flight there. A life asks for a slot with the boot that it knows, and a serving
-- target says that it serves a life with a slot
abbrev pub SentOk : List Line → ℕ → Message → Type 0
SentOk past t (Ask b g o r) = (over r.life past ≡ false) × (serves t r.life past ≡ true) × (b ≡ knows t r.life past)
    × In (record { object = o; tag = g; request = r }) (flights t r.life past)
SentOk past t (Reply b c x a) = (serving t past ≡ true) × (b ≡ boot t past) × (joined t c past ≡ true)
    × ((o g : ℕ) × (place t c x past ≡ Some (record { object = o; tag = g })) × Answered (only t o past) c x a)
SentOk past t (Give b l s sn) = (serving t past ≡ true) × (b ≡ boot t past) × (joined t l.life past ≡ true)
    × ((o : ℕ) × (object_of t l.cookie past ≡ Some o) × IsGranted (only t o past) l × IsEnd (only t o past) s
    × Sees (only t o past) sn (covers l))
SentOk past t (Block b c k) = (o : ℕ) × (object_of t k past ≡ Some o) × Named (λ l. IsGranted (only t o past) l) c k
SentOk past t (Cancel b c k) = (over c past ≡ false)
    × (live t c past ≡ true → (o : ℕ) × (object_of t k past ≡ Some o)
    × (Named (λ l. WasDropped (only t o past) l) c k
    ⊎ (((d : ℕ) × Sent past t (Block d c k)) × (flights t c past ≡ []) × (awaits c k (only t o past) ≡ false)
    × ((l : Lock) → HeldBy (only t o past) l → l.cookie ≡ k → ⊥))))
SentOk past t (Join b c) = b ≡ knows t c past
SentOk past t (Ready b c) = (serving t past ≡ true) × (b ≡ boot t past) × (joined t c past ≡ true)

-- what a close owes to recovery: the target is down, in a boot that is newer than that of the last close; those with a slot
-- that stay know the boot, so they await nothing; nothing of what is lost is known to those that stay; and no committed
-- transaction is lost
pub record ClosesOk (past : List Line) (t : ℕ) (lost gone : ℕ → Bool) : Type 0 where
  pub down : serving t past ≡ false
  pub booted : closed t past < boot t past
  pub known : (c : ℕ) → joined t c past ≡ true → (gone c || evicted t c past) ≡ false → knows t c past ≡ boot t past
  pub saw : (c n : ℕ) → (gone c || evicted t c past) ≡ false → Saw t c past n → lost n ≡ false
  pub above : (n : ℕ) → lost n ≡ true → committed t past < n

-- what each line may rest on, over the lines before it. A life learns of boots newer than the one it knows, and takes
-- `Ready` in that one, or uses boot 1 from the start, with a slot. A life that is over hears nothing; what one that isn't
-- live at the target does with an object there is free, since no story has it. A call that is told rests on what its life
-- knows of each object, at each target where it is live. A life ends once some target evicted it. A life gets a slot that
-- asked for it, or in boot 1. Commits never fall; a target that is down boots with a newer boot
abbrev pub LineOk : List Line → Line → Type 0
LineOk past (Knows t c b) = (over c past ≡ false) × (knows t c past < b)
LineOk past (Serves t c b) = (b ≡ knows t c past) × (Sent past t (Ready b c) ⊎ ((b ≡ 1) × (joined t c past ≡ true) × (boot t past ≡ 1)))
LineOk past (Flies t o g r) = FliesOk past t o g r
LineOk past (Lives t o c e) = (over c past ≡ true → heard_of e ≡ None) × (live t c past ≡ true → LivesOk past t o c e)
LineOk past (Tells c does) = (t o : ℕ) (call : Call) → live t c past ≡ true → does t o ≡ Some call → ToldOk (only t o past) c call
LineOk past (Over c) = (t : ℕ) × (evicted t c past ≡ true)
LineOk past (Joins t c) = Sent past t (Join (boot t past) c) ⊎ (boot t past ≡ 1)
LineOk past (Queue t o g r) = FreshAt past t o g r
LineOk past (Serve t o g r e) = (FreshAt past t o g r ⊎ WaitsAt past t o g r) × ServedOk past t o r e
LineOk past (Works t o e) = WorksOk past t o e
LineOk past (Evict t c) = Unit {0}
LineOk past (Commit t n) = committed t past ≤ n
LineOk past (Crash t) = Unit {0}
LineOk past (Boot t b) = (serving t past ≡ false) × (boot t past < b)
LineOk past (Close t lost gone) = ClosesOk past t lost gone
LineOk past (Send t m) = SentOk past t m

-- the past is allowed: each line over those before it
abbrev pub AllOk : List Line → Type 0
AllOk [] = Unit {0}
AllOk (l ∷ past) = LineOk past l × AllOk past
