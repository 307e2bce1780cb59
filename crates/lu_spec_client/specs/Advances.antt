-- How far a call on bytes goes by what the client knows: it looks for its locks one after another, fetches what is
-- missing, and acts. What a part reads is the store as the entries before it have left it (Wang et al., Understanding
-- Lustre Filesystem Internals: locks before pages; the narrow read is this project's profile).
use Rattle.std.specs.Prelude.{ℕ, ◌+◌, ◌-◌, min, if◌then◌else◌, List, [], ◌∷◌, ◌++◌, length, Option, Some, None}
use Rattle.lu_base.specs.declared.ids.At.{At}
use Rattle.lu_base.specs.declared.locks.Lock.{Lock}
use Rattle.lu_base.specs.declared.locks.Policy.TheVariants.{Bits, Range}
use Rattle.lu_layout.specs.Raid0.{Raid0}
use Rattle.lu_msg.specs.declared.answers.Answer.{Answer}
use Rattle.lu_msg.specs.declared.answers.Answer.TheVariants as answer
use Rattle.lu_msg.specs.declared.operations.Op.{Op}
use Rattle.lu_msg.specs.declared.operations.Op.TheVariants as op
use Rattle.lu_held.specs.declared.locks.HeldLock.{HeldLock}
use Rattle.lu_held.specs.declared.locks.Use.{Use}
use Rattle.lu_held.specs.declared.names.LockName.{LockName}
use Rattle.lu_held.specs.Locks.{named}
use Rattle.lu_held.specs.Held.{serving}
use Rattle.lu_spec_entries.specs.declared.changes.Flush.TheVariants.{Cut, Put}
use Rattle.lu_spec_entries.specs.declared.uses.Using.{Using}
use Rattle.lu_spec_entries.specs.Carried.{Queued, Kind, Narrow, Wide, Writes, Cuts, Stats, Glimpses, Work, Stage, Enqueued, Gets, Running}
use Rattle.lu_spec_entries.specs.Words.{Entry, Told, Queues, Stands, Pins, Unpins, Changes, Shows}
use Rattle.lu_spec_client.specs.Stripes.{below_on, stripes, bytes_on}
use Rattle.lu_spec_client.specs.States.{Store, follow_store}
use Rattle.lu_spec_client.specs.Looks.{Page, missing, content, file_size, has_reached}
use Rattle.lu_spec_client.specs.Wants.{wants_of}

-- ---- pins: a lock in use is pinned until the call is told

abbrev pub pinned : LockName → Running → Running
pinned name r = record r { pins = r.pins ++ name ∷ [] }

-- in the order in which they were pinned
abbrev pub unpins : List LockName → List Entry
unpins [] = []
unpins (name ∷ names) = Unpins name ∷ unpins names

-- the call is told, and unpins its locks
abbrev pub tells : ℕ → Running → At → Answer → Option Work → List Entry
tells slot r at a work = Told slot at a work ∷ unpins r.pins

-- ---- looking for locks

abbrev pub enqueue_of : Use → Op
enqueue_of wanted = elim wanted.policy [
  | Range extent ↦ op.Enqueue wanted.resource wanted.mode extent
  | Bits bits
      ↦ op.Size wanted.resource
]

abbrev pub queued_for : ℕ → Op → Queued
queued_for slot o = record { slot = Some slot; op = o }

abbrev pub at_stage : Running → Stage → Running
at_stage r stage = record r { stage = stage }

-- no held lock does: it is asked for, and the call waits
abbrev pub asks_lock : ℕ → Use → Running → Work → List Entry
asks_lock slot wanted r w = Stands slot (at_stage r (Enqueued w)) ∷ Queues wanted.target.0 (queued_for slot (enqueue_of wanted)) ∷ []

abbrev pub name_under : Use → Lock → LockName
name_under wanted l = named wanted.target l.cookie

abbrev pub using : Use → Lock → List Use → Work → Work
using wanted l left w = record w { used = w.used ++ record { want = wanted; lock = l } ∷ []; left = left }

-- What comes when all locks are in use.
abbrev pub Next : Type 0
Next = Running → Work → Store → List Entry

-- the lock is pinned, and the next is looked for
abbrev pub takes_up : ℕ → Use → Lock → List Use → Next → Next
takes_up slot wanted l left more r w s = follow_store (Pins (name_under wanted l) ∷ [])
    (more (pinned (name_under wanted l) r) (using wanted l left w)) s

abbrev pub looks_on : ℕ → (HeldLock → List Entry) → Use → List Use → Running → Work → Option HeldLock → List Entry
looks_on slot more wanted left r w None = asks_lock slot wanted r (record w { left = wanted ∷ left })
looks_on slot more wanted left r w (Some h) = more h

-- a held lock that isn't called back and serves is used: one that reaches the end before one that doesn't, then the least
-- cookie
abbrev pub looks : ℕ → Next → List Use → Next
looks slot next [] r w s = next r w s
looks slot next (wanted ∷ left) r w s =
    looks_on slot (λ h. takes_up slot wanted h.lock left (looks slot next left) r w s) wanted left r w (serving wanted s.held)

-- the lock that came is used, also where it was called back meanwhile, and no other is looked for
abbrev pub comes : ℕ → Next → Lock → List Use → Next
comes slot next l [] r w s = []
comes slot next l (wanted ∷ left) r w s = takes_up slot wanted l left (looks slot next left) r w s

-- ---- acting

-- a missing page is fetched under the lock in use on its stripe, one at a time
abbrev pub gets : ℕ → Page → Running → Work → List Entry
gets slot g r w =
    Stands slot (at_stage r (Gets w))
    ∷ Queues g.under.want.target.0 (queued_for slot (op.Get g.under.want.resource g.under.lock.cookie g.page)) ∷ []

-- a read that asks to the end gives the bytes up to the file's size
abbrev pub reads_wide : At → ℕ → ℕ → ℕ → Next
reads_wide at slot p n r w s =
    elim (missing w.layout p (p + n) s w.used) [
      | Some g ↦ gets slot g r w
      | None ↦ tells slot r at (answer.Content (content w.layout w.fid s p (min n (file_size w.layout (stripes w.layout) w.used s - p))))
          (Some w)
    ]

-- the same call, asking to the end
abbrev pub widened : ℕ → ℕ → Work → Work
widened p n w = record { kind = Wide p n; fid = w.fid; layout = w.layout; used = []; left = wants_of w.layout w.fid (Wide p n) }

-- a read that hasn't reached unpins its locks and asks anew in the same turn
abbrev pub widens : At → ℕ → ℕ → ℕ → Next
widens at slot p n r w s =
    follow_store (unpins r.pins) (looks slot (reads_wide at slot p n) (widened p n w).left (record r { pins = [] }) (widened p n w)) s

-- a narrow read that has reached is told all its bytes; whether it has is looked at when no page is missing
abbrev pub reads_narrow : At → ℕ → ℕ → ℕ → Next
reads_narrow at slot p n r w s =
    elim (missing w.layout p (p + n) s w.used) [
      | Some g ↦ gets slot g r w
      | None ↦
          if has_reached w.layout (p + n - 1) w.used s
          then tells slot r at (answer.Content (content w.layout w.fid s p n)) (Some w)
          else widens at slot p n r w s
    ]

-- the last byte of a write is shown under the lock that the write used
abbrev pub writes_on : Using → ℕ → List ℕ → List Entry
writes_on u first bs =
    Changes u.want.resource (Put first bs) ∷ Shows u.want.resource u.lock.cookie (first + length bs - 1) ∷ []

abbrev pub writes : Raid0 → ℕ → List ℕ → List Using → List Entry
writes l p bs [] = []
writes l p bs (u ∷ us) =
    writes_on u (below_on l u.want.resource.stripe p) (bytes_on l u.want.resource.stripe p bs) ++ writes l p bs us

abbrev pub cuts : Raid0 → ℕ → List Using → List Entry
cuts l n [] = []
cuts l n (u ∷ us) = Changes u.want.resource (Cut (below_on l u.want.resource.stripe n)) ∷ cuts l n us

-- a glimpse pins no lock, and goes its own way
abbrev pub acts : At → ℕ → Kind → Next
acts at slot (Narrow p n) r w s = reads_narrow at slot p n r w s
acts at slot (Wide p n) r w s = reads_wide at slot p n r w s
acts at slot (Writes p bs) r w s = writes w.layout p bs w.used ++ tells slot r at answer.Done (Some w)
acts at slot (Cuts n) r w s = cuts w.layout n w.used ++ tells slot r at answer.Done (Some w)
acts at slot (Stats mode links) r w s = tells slot r at (answer.FileSize w.fid mode links (file_size w.layout (stripes w.layout) w.used s))
    (Some w)
acts at slot (Glimpses sizes) r w s = []
