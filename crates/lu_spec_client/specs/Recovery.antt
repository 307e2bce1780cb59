-- A client's part in recovery (Lustre Operations Manual, recovery: replay of transactions and locks, eviction, reconnecting
-- in a new life), and what it does as time goes on.
use Rattle.std.specs.Prelude.{ℕ, ◌+◌, ◌==◌, if◌then◌else◌, Bool, false, List, [], ◌∷◌, ◌++◌, length, filter, Option, Some, None}
use Rattle.lu_base.specs.declared.ids.At.{At}
use Rattle.lu_base.specs.declared.ids.Node.TheVariants.{Target}
use Rattle.lu_base.specs.declared.ids.Who.{Who}
use Rattle.lu_msg.specs.declared.answers.Answer.TheVariants as answer
use Rattle.lu_msg.specs.declared.answers.Errno.TheVariants.{EIO}
use Rattle.lu_base.specs.declared.locks.Lock.{Lock}
use Rattle.lu_msg.specs.declared.messages.LockReplay.{LockReplay}
use Rattle.lu_msg.specs.declared.messages.Message.TheVariants as message
use Rattle.lu_msg.specs.declared.messages.RequestReplay.{RequestReplay}
use Rattle.lu_held.specs.declared.locks.HeldLock.{HeldLock}
use Rattle.lu_held.specs.declared.locks.Use.{Use}
use Rattle.lu_held.specs.Held.{in_order}
use Rattle.lu_spec_entries.specs.Carried.{Stage, Looks, Waits, Forgotten, Running}
use Rattle.lu_spec_entries.specs.Words.{Entry, Send, Told, Drop, Life, Knows, Serves, Settles, Stands, Unmarks}
use Rattle.lu_spec_client.specs.Imports.{Standing, Joining, Recovering, Serving, Replay, Kept, Import, import_of}
use Rattle.lu_spec_client.specs.States.{Client, follow}
use Rattle.lu_spec_client.specs.Advances.{at_stage}
use Rattle.lu_spec_client.specs.Sending.{resends}

-- ---- what is told to a target that recovers

-- with the numbers that its reply saw
abbrev pub replayed : Who → ℕ → Replay → RequestReplay
replayed who boot r = record { who = who; boot = boot; txn = r.txn; xid = r.xid; tag = r.tag; seen = r.seen; op = r.op }

-- each transaction that isn't committed, in rising number
abbrev pub replays : Who → ℕ → ℕ → List Replay → List Entry
replays who boot t [] = []
replays who boot t (r ∷ rs) =
    Send (Target t) (message.Replay (replayed who boot r)) ∷ replays who boot t rs

-- each lock that is held of it, in rising cookie
abbrev pub held_of : ℕ → List HeldLock → List HeldLock
held_of t held = filter (λ (h : HeldLock). h.target.0 == t) (in_order held)

abbrev pub lock_replayed : Who → ℕ → Lock → LockReplay
lock_replayed who boot l =
    record { who = who; boot = boot; cookie = l.cookie; resource = l.resource; mode = l.ask.mode; policy = l.ask.policy }

abbrev pub lock_replays : Who → ℕ → ℕ → List HeldLock → List Entry
lock_replays who boot t [] = []
lock_replays who boot t (h ∷ held) =
    Send (Target t) (message.Lock (lock_replayed who boot h.lock)) ∷ lock_replays who boot t held

-- how many these are, and the numbers that it has seen
abbrev pub word : Who → ℕ → ℕ → ℕ → ℕ → List ℕ → Entry
word who boot t count locks seen = Send (Target t) (message.Word who boot count locks seen)

abbrev pub tells_all : Who → ℕ → ℕ → Kept → List HeldLock → List Entry
tells_all who boot t kept held =
    replays who boot t kept.replays ++ lock_replays who boot t held ++ word who boot t (length kept.replays) (length held) kept.seen ∷ []

abbrev pub recovers : ℕ → Client → Import → List Entry
recovers t k i = tells_all k.who i.boot t i.kept (held_of t k.store.held)

abbrev pub joins : Who → ℕ → ℕ → Entry
joins who boot t = Send (Target t) (message.Join who boot)

-- ---- a target is up again

-- an ask that waits there is forgotten
abbrev pub forgets_stage : ℕ → ℕ → Running → Stage → List Entry
forgets_stage t slot r (Waits w target l marked) = if target.0 == t then Stands slot (at_stage r (Forgotten w)) ∷ [] else []
forgets_stage t slot r _ = []

-- and made again once the target serves
abbrev pub is_left_at : ℕ → List Use → Bool
is_left_at t [] = false
is_left_at t (wanted ∷ left) = wanted.target.0 == t

abbrev pub looks_stage : ℕ → ℕ → Running → Stage → List Entry
looks_stage t slot r (Forgotten w) = if is_left_at t w.left then Stands slot (at_stage r (Looks w)) ∷ [] else []
looks_stage t slot r _ = []

abbrev pub on_call : (ℕ → Running → Stage → List Entry) → ℕ → Option Running → List Entry
on_call stands slot None = []
on_call stands slot (Some r) = stands slot r r.stage

-- slot by slot, from this one on
abbrev pub on_calls : (ℕ → Running → Stage → List Entry) → ℕ → List (Option Running) → List Entry
on_calls stands slot [] = []
on_calls stands slot (c ∷ calls) = on_call stands slot c ++ on_calls stands (slot + 1) calls

-- a client that is joining there joins; another recovers
abbrev pub comes_up : ℕ → Client → Import → Standing → List Entry
comes_up t k i Joining = joins k.who i.boot t ∷ []
comes_up t k i _ = Unmarks t ∷ on_calls (forgets_stage t) 0 k.calls ++ recovers t k i

abbrev pub up : ℕ → ℕ → Client → List Entry
up t boot k = follow (Knows t boot ∷ []) (λ k. comes_up t k (import_of t k.imports) (import_of t k.imports).standing) k

-- ---- a target serves the life

-- what is in flight is sent again, and asks that were forgotten are made again
abbrev pub resumes : ℕ → Client → Import → List Entry
resumes t k i = resends k.who i.boot t i.flights ++ on_calls (looks_stage t) 0 k.calls

abbrev pub ready : ℕ → ℕ → ℕ → Client → List Entry
ready t boot committed k = Serves t boot ∷ Settles t committed ∷ resumes t k (import_of t k.imports)

-- ---- eviction: no call, lock, change, handle or request outlives its life

-- each call that isn't told ends, by slot
abbrev pub ends_call : At → ℕ → Option Running → List Entry
ends_call at slot None = []
ends_call at slot (Some r) = Told slot at (answer.Refused EIO) None ∷ []

abbrev pub ends_calls : At → ℕ → List (Option Running) → List Entry
ends_calls at slot [] = []
ends_calls at slot (c ∷ calls) = ends_call at slot c ++ ends_calls at (slot + 1) calls

-- each lock goes, by target and cookie
abbrev pub drops_all : List HeldLock → List Entry
drops_all [] = []
drops_all (h ∷ held) = Drop h.target.0 h.lock ∷ drops_all held

abbrev pub next_life : Who → Who
next_life who = record { client = who.client; life = who.life + 1 }

abbrev pub joins_all : Who → ℕ → List Import → List Entry
joins_all who t [] = []
joins_all who t (i ∷ imports) = joins who i.boot t ∷ joins_all who (t + 1) imports

-- the notice teaches no boot
abbrev pub evicted : At → Client → List Entry
evicted at k =
    ends_calls at 0 k.calls ++ drops_all (in_order k.store.held) ++ Life (next_life k.who) ∷ joins_all (next_life k.who) 0 k.imports

-- ---- time goes on

-- where a lock is that a call waits for there
abbrev pub where_stage : Who → ℕ → ℕ → ℕ → Running → Stage → List Entry
where_stage who boot t slot r (Waits w target l marked) = if target.0 == t then Send (Target t) (message.Where who boot l.cookie) ∷ []
    else []
where_stage who boot t slot r _ = []

abbrev pub ticks_at : ℕ → Client → Import → Standing → List Entry
ticks_at t k i Serving = resends k.who i.boot t i.flights ++ on_calls (where_stage k.who i.boot t) 0 k.calls
ticks_at t k i Recovering = recovers t k i
ticks_at t k i Joining = joins k.who i.boot t ∷ []

-- for each target in order
abbrev pub ticks : ℕ → List Import → Client → List Entry
ticks t [] k = []
ticks t (i ∷ imports) k = ticks_at t k i i.standing ++ ticks (t + 1) imports k
