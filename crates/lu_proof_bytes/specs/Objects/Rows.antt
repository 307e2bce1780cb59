-- The turns of a run. What a turn may choose freely is left open: which lock is granted how wide, when a life writes back
-- or drops a lock, when a lock is called back, when a target commits, crashes, boots and closes, and whom a close evicts. A
-- message that was ever sent may come, again, late or never (Wang et al., Understanding Lustre Filesystem Internals, the
-- lock manager; Lustre Operations Manual, recovery; this project's profile, for what is one turn).
use Rattle.std.specs.Prelude.{◌≡◌, ◌⊎◌, ℕ, ◌<◌, ◌≤◌, Bool, true, false, List, [], ◌∷◌, Option, Some}
use Rattle.lu_proof_bytes.specs.Object.Words.{Lock, Change, Op, Request, Answer, Granted, Waiting, Done, Uncovered, Call, Entry, Takes}
use Rattle.lu_proof_bytes.specs.Object.Words.{Heard, Hold, Drop, Grant, Wait, Promote, Acts, Txn, Release, covers}
use Rattle.lu_proof_bytes.specs.Object.Folds.{Answered, HeldBy, IsGranted, awaits}
use Rattle.lu_proof_bytes.specs.Object.Guards.{ToldOk, Sees, IsEnd, Named, PromoteOk, DropOk, TakesOk}
use Rattle.lu_proof_bytes.specs.Objects.Words.{Ask, Reply, Give, Block, Cancel, Join, Ready, Line, Knows, Serves, Flies, Lives, Tells, Over}
use Rattle.lu_proof_bytes.specs.Objects.Words.{Joins, Queue, Serve, Works, Evict, Commit, Crash, Boot, Close, Send, Flight}
use Rattle.lu_proof_bytes.specs.Objects.Folds.{boot, serving, joined, evicted, object_of, over, knows, serves, place, flights, In, Sent}
use Rattle.lu_proof_bytes.specs.Objects.Folds.{committed}
use Rattle.lu_proof_bytes.specs.Objects.Only.{only, live}
use Rattle.lu_proof_bytes.specs.Objects.Guards.{FreshAt, WaitsAt, ServedOk, FliesOk, ClosesOk}

-- a request in flight, of an object and under a tag
abbrev pub flight_at : ℕ → ℕ → Request → Flight
flight_at o g r = record { object = o; tag = g; request = r }

-- the request of a life under a number
abbrev pub ask_of : ℕ → ℕ → Op → Request
ask_of c x op = record { life = c; xid = x; op = op }

-- what life c goes on to do in a turn, over the lines so far: it rests; a call is told; a change is taken to be written back; it
-- begins a request and sends it; it sends one in flight again; it drops a lock and gives it back
pub data LifeSteps (c : ℕ) : List Line → List Line → Type 0 where
  rests : {h : List Line} → LifeSteps c h []
  tells : {h ls : List Line} (does : ℕ → ℕ → Option Call)
      → ((t o : ℕ) (call : Call) → live t c h ≡ true → does t o ≡ Some call → ToldOk (only t o h) c call)
      → LifeSteps c (Tells c does ∷ h) ls → LifeSteps c h (Tells c does ∷ ls)
  takes : {h ls : List Line} (t o k : ℕ) (ch : Change) → (live t c h ≡ true → TakesOk (only t o h) c k ch)
      → LifeSteps c (Lives t o c (Takes c k ch) ∷ h) ls → LifeSteps c h (Lives t o c (Takes c k ch) ∷ ls)
  asks : {h ls : List Line} (t o g x : ℕ) (op : Op) → FliesOk h t o g (ask_of c x op)
      → LifeSteps c (Send t (Ask (knows t c h) g o (ask_of c x op)) ∷ Flies t o g (ask_of c x op) ∷ h) ls
      → LifeSteps c h (Flies t o g (ask_of c x op) ∷ Send t (Ask (knows t c h) g o (ask_of c x op)) ∷ ls)
  asks_again : {h ls : List Line} (t o g x : ℕ) (op : Op) → serves t c h ≡ true → In (flight_at o g (ask_of c x op)) (flights t c h)
      → LifeSteps c (Send t (Ask (knows t c h) g o (ask_of c x op)) ∷ h) ls
      → LifeSteps c h (Send t (Ask (knows t c h) g o (ask_of c x op)) ∷ ls)
  drops : {h ls : List Line} (t o : ℕ) (l : Lock) → l.life ≡ c → object_of t l.cookie h ≡ Some o
      → (live t c h ≡ true → DropOk (only t o h) l)
      → LifeSteps c (Send t (Cancel (knows t c h) c l.cookie) ∷ Lives t o c (Drop l) ∷ h) ls
      → LifeSteps c h (Lives t o c (Drop l) ∷ Send t (Cancel (knows t c h) c l.cookie) ∷ ls)

-- what target t goes on to do in a turn: it stops; it grants a lock that waits and conflicts with nothing, and tells it; it
-- calls back what is granted; it frees the locks of the evicted
pub data TargetSteps (t : ℕ) : List Line → List Line → Type 0 where
  stops : {h : List Line} → TargetSteps t h []
  promotes : {h ls : List Line} (o : ℕ) (l : Lock) (s : ℕ) (sn : ℕ → Bool) → serving t h ≡ true → joined t l.life h ≡ true
      → object_of t l.cookie h ≡ Some o → PromoteOk (only t o h) l → IsEnd (only t o h) s → Sees (only t o h) sn (covers l)
      → TargetSteps t (Send t (Give (boot t h) l s sn) ∷ Works t o (Promote l) ∷ h) ls
      → TargetSteps t h (Works t o (Promote l) ∷ Send t (Give (boot t h) l s sn) ∷ ls)
  calls_back : {h ls : List Line} (o c k : ℕ) → object_of t k h ≡ Some o → Named (λ l. IsGranted (only t o h) l) c k
      → TargetSteps t (Send t (Block (boot t h) c k) ∷ h) ls → TargetSteps t h (Send t (Block (boot t h) c k) ∷ ls)
  frees : {h ls : List Line} (o k : ℕ) → object_of t k h ≡ Some o
      → ((l : Lock) → IsGranted (only t o h) l → l.cookie ≡ k → evicted t l.life h ≡ true)
      → TargetSteps t (Works t o (Release k) ∷ h) ls → TargetSteps t h (Works t o (Release k) ∷ ls)

-- the answer that is sent of what was served
abbrev pub answer_of : Entry → Answer
answer_of (Grant r l s sn) = Granted l s sn
answer_of (Wait r l) = Waiting l.cookie
answer_of (Acts r a) = a
answer_of (Txn n r) = Done n
answer_of _ = Uncovered

-- one turn: its lines over those before it, the oldest of the turn first
pub data Row (h : List Line) : List Line → Type 0 where
  -- of a life: what it does of itself; a newer boot that it learns of; `Ready`; a reply without and with a lock; a `Give`
  -- of a lock that it awaits; a `Block` of a lock that it neither holds nor awaits; that it asks for a slot; its end once
  -- some target evicted it
  goes_on : (c : ℕ) (ls : List Line) → over c h ≡ false → LifeSteps c h ls → Row h ls
  learns : (t c b : ℕ) (ls : List Line) → over c h ≡ false → knows t c h < b → LifeSteps c (Knows t c b ∷ h) ls → Row h (Knows t c b ∷ ls)
  readies : (t c : ℕ) (ls : List Line) → over c h ≡ false → Sent h t (Ready (knows t c h) c)
      → LifeSteps c (Serves t c (knows t c h) ∷ h) ls → Row h (Serves t c (knows t c h) ∷ ls)
  hears : (t o g c x : ℕ) (op : Op) (a : Answer) (ls : List Line) → over c h ≡ false
      → In (flight_at o g (ask_of c x op)) (flights t c h) → Sent h t (Reply (knows t c h) c x a)
      → LifeSteps c (Lives t o c (Heard (ask_of c x op) a) ∷ h) ls → Row h (Lives t o c (Heard (ask_of c x op) a) ∷ ls)
  hears_lock : (t o g c x : ℕ) (op : Op) (l : Lock) (s : ℕ) (sn : ℕ → Bool) (ls : List Line) → over c h ≡ false
      → In (flight_at o g (ask_of c x op)) (flights t c h) → Sent h t (Reply (knows t c h) c x (Granted l s sn)) → l.life ≡ c
      → object_of t l.cookie h ≡ Some o
      → LifeSteps c (Lives t o c (Hold l s sn) ∷ Lives t o c (Heard (ask_of c x op) (Granted l s sn)) ∷ h) ls
      → Row h (Lives t o c (Heard (ask_of c x op) (Granted l s sn)) ∷ Lives t o c (Hold l s sn) ∷ ls)
  given : (t o c : ℕ) (l : Lock) (s : ℕ) (sn : ℕ → Bool) (ls : List Line) → over c h ≡ false → Sent h t (Give (knows t c h) l s sn)
      → l.life ≡ c → object_of t l.cookie h ≡ Some o → awaits c l.cookie (only t o h) ≡ true
      → LifeSteps c (Lives t o c (Hold l s sn) ∷ h) ls → Row h (Lives t o c (Hold l s sn) ∷ ls)
  unknown : (t o c k d : ℕ) → over c h ≡ false → Sent h t (Block d c k) → object_of t k h ≡ Some o → flights t c h ≡ []
      → awaits c k (only t o h) ≡ false → ((l : Lock) → HeldBy (only t o h) l → l.cookie ≡ k → ⊥)
      → Row h (Send t (Cancel (knows t c h) c k) ∷ [])
  joins_in : (t c : ℕ) → Row h (Send t (Join (knows t c h) c) ∷ [])
  ends : (t c : ℕ) → evicted t c h ≡ true → Row h (Over c ∷ [])
  -- of a target: a request that is executed, at once or after it waited, that has to wait, or that was answered before; a
  -- `Cancel`; a granted lock that is told again; a `Join`; that it serves a life; and what it does of itself: grants and
  -- calls for locks, evictions, commits, crashes, boots and closes
  executes : (t o g : ℕ) (r : Request) (e : Entry) (ls : List Line) → FreshAt h t o g r ⊎ WaitsAt h t o g r → ServedOk h t o r e
      → TargetSteps t (Send t (Reply (boot t h) r.life r.xid (answer_of e)) ∷ Serve t o g r e ∷ h) ls
      → Row h (Serve t o g r e ∷ Send t (Reply (boot t h) r.life r.xid (answer_of e)) ∷ ls)
  queues : (t o g : ℕ) (r : Request) → FreshAt h t o g r → Row h (Queue t o g r ∷ [])
  repeats : (t o g c x : ℕ) (a : Answer) → serving t h ≡ true → joined t c h ≡ true
      → place t c x h ≡ Some (record { object = o; tag = g }) → Answered (only t o h) c x a
      → Row h (Send t (Reply (boot t h) c x a) ∷ [])
  cancels : (t o c k : ℕ) (ls : List Line) → serving t h ≡ true → Sent h t (Cancel (boot t h) c k) → evicted t c h ≡ false
      → object_of t k h ≡ Some o → TargetSteps t (Works t o (Release k) ∷ h) ls → Row h (Works t o (Release k) ∷ ls)
  tells_where : (t o : ℕ) (l : Lock) (s : ℕ) (sn : ℕ → Bool) → serving t h ≡ true → joined t l.life h ≡ true
      → object_of t l.cookie h ≡ Some o → IsGranted (only t o h) l → IsEnd (only t o h) s → Sees (only t o h) sn (covers l)
      → Row h (Send t (Give (boot t h) l s sn) ∷ [])
  joins : (t c : ℕ) → Sent h t (Join (boot t h) c) → Row h (Joins t c ∷ [])
  readies_life : (t c : ℕ) → serving t h ≡ true → joined t c h ≡ true → Row h (Send t (Ready (boot t h) c) ∷ [])
  works : (t : ℕ) (ls : List Line) → TargetSteps t h ls → Row h ls
  evicts : (t c : ℕ) (ls : List Line) → TargetSteps t (Evict t c ∷ h) ls → Row h (Evict t c ∷ ls)
  commits : (t n : ℕ) → committed t h ≤ n → Row h (Commit t n ∷ [])
  crashes : (t : ℕ) → Row h (Crash t ∷ [])
  boots : (t b : ℕ) → serving t h ≡ false → boot t h < b → Row h (Boot t b ∷ [])
  closes : (t : ℕ) (lost gone : ℕ → Bool) (ls : List Line) → ClosesOk h t lost gone → TargetSteps t (Close t lost gone ∷ h) ls
      → Row h (Close t lost gone ∷ ls)

-- the lines of a turn, its oldest first, put before those so far
abbrev pub pushed : List Line → List Line → List Line
pushed [] h = h
pushed (l ∷ ls) h = pushed ls (l ∷ h)

-- the lives that are there from the start, each pair a target and a life: each has a slot there and serves boot 1
abbrev pub starts : List (ℕ × ℕ) → List Line
starts [] = []
starts (p ∷ ps) = Serves p.0 p.1 1 ∷ Joins p.0 p.1 ∷ starts ps

-- the past of a run: turns, the newest first, over the start
abbrev pub past_of : List (ℕ × ℕ) → List (List Line) → List Line
past_of ps [] = starts ps
past_of ps (turn ∷ earlier) = pushed turn (past_of ps earlier)

-- each turn is one over the past before it
abbrev pub Run : List (ℕ × ℕ) → List (List Line) → Type 0
Run ps [] = Unit {0}
Run ps (turn ∷ earlier) = Row (past_of ps earlier) turn × Run ps earlier
