-- The words of a whole past: several targets, each with several objects, and lives that use them all. Targets, objects and
-- lives are numbers; a life is a client's time from its start, or its last eviction, to the next (this project's profile;
-- Wang et al., Understanding Lustre Filesystem Internals, the lock manager, for locks, calls for them and cancels). Boots of a
-- target are counted from 1, and so are a life's requests at a target, a target's cookies and its transactions. The newest
-- line of a past comes first.
use Rattle.std.specs.Prelude.{ℕ, Bool, Option}
use Rattle.lu_proof_bytes.specs.Object.Words.{Lock, Request, Answer, Call, Entry}

-- What goes between a target and a life: `Ask`, a request under a tag (Lustre Operations Manual, multiple requests in flight)
-- for an object, again and again; `Reply`, its answer; `Give`, a lock that waited, or a lock that is granted, told again, with
-- the object's size and the transactions that stand below it; `Block`, the call for a lock; `Cancel`, that it is given back;
-- `Join`, a life asks for a slot; `Ready`, the target tells a life that it serves it. Each names a boot of the target.
-- Of these only `Ask` names its object: the others go by request number or by cookie
pub data Message : Type 0 where
  Ask : (boot : ℕ) (tag : ℕ) (object : ℕ) (request : Request) → Message
  Reply : (boot : ℕ) (life : ℕ) (xid : ℕ) (answer : Answer) → Message
  Give : (boot : ℕ) (lock : Lock) (size : ℕ) (seen : ℕ → Bool) → Message
  Block : (boot : ℕ) (life : ℕ) (cookie : ℕ) → Message
  Cancel : (boot : ℕ) (life : ℕ) (cookie : ℕ) → Message
  Join : (boot : ℕ) (life : ℕ) → Message
  Ready : (boot : ℕ) (life : ℕ) → Message

-- Of a life: Knows, it learns of a boot; Serves, it takes `Ready`, so it may ask there; Flies, a request is in flight from now
-- on; Lives, what it does with an object (takes, hears, holds, drops); Tells, a call is told, with what it did to each object of each
-- target; Over, it ends. Of a target: Joins, a life gets its slot; Queue, a request is taken and has to wait for its answer (a
-- glimpse, while a holder is asked); Serve, a request is executed (granted, waits, acts, is a transaction); Works, a waiting
-- lock is granted or a lock released. Then what concerns all its objects: Evict, a life is evicted; Commit, all transactions up
-- to the number are; Crash, it serves no more; Boot, it comes up and recovers; Close, its recovery window closes, with the
-- transactions that are lost by it and the lives that are evicted by it, and it serves (Lustre Operations Manual, recovery).
-- Send, of either: a message goes out
pub data Line : Type 0 where
  Knows : (target : ℕ) (life : ℕ) (boot : ℕ) → Line
  Serves : (target : ℕ) (life : ℕ) (boot : ℕ) → Line
  Flies : (target : ℕ) (object : ℕ) (tag : ℕ) (request : Request) → Line
  Lives : (target : ℕ) (object : ℕ) (life : ℕ) (entry : Entry) → Line
  Tells : (life : ℕ) (does : ℕ → ℕ → Option Call) → Line
  Over : (life : ℕ) → Line
  Joins : (target : ℕ) (life : ℕ) → Line
  Queue : (target : ℕ) (object : ℕ) (tag : ℕ) (request : Request) → Line
  Serve : (target : ℕ) (object : ℕ) (tag : ℕ) (request : Request) (entry : Entry) → Line
  Works : (target : ℕ) (object : ℕ) (entry : Entry) → Line
  Evict : (target : ℕ) (life : ℕ) → Line
  Commit : (target : ℕ) (number : ℕ) → Line
  Crash : (target : ℕ) → Line
  Boot : (target : ℕ) (boot : ℕ) → Line
  Close : (target : ℕ) (lost : ℕ → Bool) (gone : ℕ → Bool) → Line
  Send : (target : ℕ) (message : Message) → Line

-- a request in flight at a target: its object and its tag
pub record Flight : Type 0 where
  pub object : ℕ
  pub tag : ℕ
  pub request : Request

-- where a request number of a life goes at a target: its object and its tag
pub record Place : Type 0 where
  pub object : ℕ
  pub tag : ℕ
