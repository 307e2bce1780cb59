-- The locks that a call on bytes uses: each is held and pinned, and among the call's pins. It is said of the held locks alone.
use Rattle.std.specs.Prelude.{◌≡◌, ◌+◌, ◌<◌, ◌≤◌, true, List, ◌++◌, map}
use Rattle.lu_base.specs.declared.locks.Lock.{Lock}
use Rattle.lu_lock.specs.Growth.{the_end}
use Rattle.lu_lock.specs.Modes.{serves}
use Rattle.lu_lock.specs.Overlap.{covers}
use Rattle.lu_layout.specs.Sound.{IsLayout}
use Rattle.lu_held.specs.declared.locks.HeldLock.{HeldLock}
use Rattle.lu_held.specs.declared.locks.Use.{Use}
use Rattle.lu_held.specs.declared.names.LockName.{LockName}
use Rattle.lu_spec_entries.specs.declared.uses.Using.{Using}
use Rattle.lu_spec_entries.specs.Carried.{Kind, Narrow, Wide, Cuts, Glimpses, Work, Stage, Looks, Enqueued, Waits, Came, Forgotten, Gets}
use Rattle.lu_spec_client.specs.Wants.{wants_of}
use Rattle.lu_spec_client.specs.Advances.{name_under}
use Rattle.lu_proof_objects.specs.Sound.{In}

-- this lock is held of the target that is wanted, and does for what is wanted: it is on that object, and covers it in a mode that serves
pub record IsFor (locks : List HeldLock) (wanted : Use) (l : Lock) : Type 0 where
  pub lock : HeldLock
  pub held : In lock locks
  pub target : lock.target.0 ≡ wanted.target.0
  pub same : lock.lock ≡ l
  pub object : l.resource ≡ wanted.resource
  pub serves : serves l.ask.mode wanted.mode ≡ true
  pub covers : covers l.ask.policy wanted.policy ≡ true

-- and it is in use: pinned
pub record IsUsed (locks : List HeldLock) (u : Using) : Type 0 where
  pub does : IsFor locks u.want u.lock
  pub pinned : 0 < does.lock.pins

-- a glimpse uses no lock
abbrev pub IsOnBytes : Kind → Type 0
IsOnBytes (Glimpses sizes) = ⊥
IsOnBytes _ = Unit {0}

-- its positions are those of a file
abbrev pub IsShort : Kind → Type 0
IsShort (Narrow p n) = p + n ≤ the_end
IsShort (Wide p n) = p + n ≤ the_end
IsShort (Cuts n) = n ≤ the_end
IsShort _ = Unit {0}

-- what a call uses, and what it still looks for, is what it wants, stripe by stripe
pub record IsWork (locks : List HeldLock) (pins : List LockName) (w : Work) : Type 0 where
  pub used : (u : Using) → In u w.used → IsUsed locks u
  pub mine : (u : Using) → In u w.used → In (name_under u.want u.lock) pins
  pub wants : map (λ (u : Using). u.want) w.used ++ w.left ≡ wants_of w.layout w.fid w.kind
  pub layout : IsLayout w.layout
  pub short : IsShort w.kind

abbrev pub IsWorkOf : List HeldLock → List LockName → Kind → Work → Type 0
IsWorkOf locks pins (Glimpses sizes) w = Unit {0}
IsWorkOf locks pins kind w = IsWork locks pins w

-- so it is of a call in each stage that has a work
abbrev pub IsStage : List HeldLock → List LockName → Stage → Type 0
IsStage locks pins (Looks w) = IsWorkOf locks pins w.kind w
IsStage locks pins (Enqueued w) = IsWorkOf locks pins w.kind w
IsStage locks pins (Waits w target lock marked) = IsWorkOf locks pins w.kind w
IsStage locks pins (Came w lock) = IsWorkOf locks pins w.kind w
IsStage locks pins (Forgotten w) = IsWorkOf locks pins w.kind w
IsStage locks pins (Gets w) = IsWorkOf locks pins w.kind w
IsStage locks pins _ = Unit {0}
