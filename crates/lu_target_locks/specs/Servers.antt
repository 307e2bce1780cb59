-- The locks of a target with what it has asked of their holders, as its calls see it and as the rows read it.
use Rattle.std.specs.Prelude.{◌≡◌, ℕ, ◌+◌, ◌≤◌, if◌then◌else◌, true, false, List, [], ◌∷◌, Option, Some, None}
use Rattle.lu_base.specs.declared.ids.At.{At}
use Rattle.lu_base.specs.declared.ids.Cookie.{Cookie}
use Rattle.lu_base.specs.declared.ids.Who.{Who}
use Rattle.lu_base.specs.declared.locks.Ask.{Ask}
use Rattle.lu_base.specs.declared.locks.Lock.{Lock}
use Rattle.lu_base.specs.declared.locks.Resource.{Resource}
use Rattle.lu_callback.specs.declared.callbacks.Asked.{Asked}
use Rattle.lu_queue.specs.declared.locks.Placed.{Placed}
use Rattle.lu_queue.specs.declared.locks.Placed.TheVariants as placed
use Rattle.lu_lockspace.specs.Spaces.{SpaceState}
use Rattle.lu_spec_entries.specs.Carried.{Deed}
use Rattle.lu_spec_entries.specs.Words.{Entry, Block, Grant, Wait}
use Rattle.lu_spec_target.specs.Phase.{first_of}
use Rattle.lu_spec_target.specs.Replies.{locks_on, called, block_of}
use Rattle.lu_spec_target.specs.Queues.{has_to_wait, grown, grants_go, blocks_go}
use Rattle.lu_spec_target.specs.Objects.{lock_of}
use Rattle.lu_spec_target.specs.Requests.{releases}
use Rattle.lu_spec_target.specs.States.{Target, after, turn}
use Rattle.lu_target_refines.specs.Locks.{ShowsLocks, grants_told}
use Rattle.lu_target_refines.specs.Callbacks.{ShowsCalls}
use Rattle.lu_target_locks.specs.declared.server.Enqueued.{Enqueued}
use Rattle.lu_target_locks.specs.declared.server.Enqueued.TheVariants as enqueued
use Rattle.lu_target_locks.specs.declared.server.Released.{Released}

-- The locks; what is outstanding of their holders; the boot, how many cookies it has given, and its ticks.
pub record ServerState : Type 0 where
  pub space : SpaceState
  pub asked : List Asked
  pub boot : ℕ
  pub count : ℕ
  pub ticks : ℕ

-- the greatest cookie given in the boot; before the first one the boot in the high 32 bits alone
abbrev pub greatest : ServerState → ℕ
greatest s = first_of s.boot + s.count

-- so many cookies a boot has
abbrev pub most_cookies : ℕ
most_cookies = 4294967295

-- and so many ticks
abbrev pub most_ticks : ℕ
most_ticks = 18446744073709551615

-- it shows that state of the rows' target
pub record Shows (s : ServerState) (v : Target) : Type 0 where
  pub locks : ShowsLocks s.space v
  pub calls : ShowsCalls s.asked v
  pub boot : v.boot ≡ s.boot
  pub counted : s.count ≤ most_cookies
  pub cookie : v.cookie ≡ greatest s
  pub ticks : v.ticks ≡ s.ticks

-- It shows as much of a state as it keeps of a target that recovers: how many cookies its boot has given, and its ticks.
pub record ShowsCounts (s : ServerState) (v : Target) : Type 0 where
  pub boot : v.boot ≡ s.boot
  pub counted : s.count ≤ most_cookies
  pub cookie : v.cookie ≡ greatest s
  pub ticks : v.ticks ≡ s.ticks

-- A target at the start of a boot: it has no locks, has asked nothing, and has given no cookie and counted no tick.
pub record HasNoLocks (boot : ℕ) (v : Target) : Type 0 where
  pub granted : v.granted ≡ []
  pub waiting : v.waiting ≡ []
  pub called : v.called ≡ []
  pub glimpses : v.glimpses ≡ []
  pub boots : v.boot ≡ boot
  pub cookie : v.cookie ≡ first_of boot
  pub ticks : v.ticks ≡ 0

-- ---- a lock is asked for

-- it gets the next cookie
abbrev pub new_lock : Target → Resource → Ask → Lock
new_lock v resource ask = record { cookie = record { 0 = v.cookie + 1 }; resource = resource; ask = ask }

abbrev pub waits_on : Target → Lock → Type 0
waits_on v l = has_to_wait v (locks_on l.resource v.waiting) l ≡ true

abbrev pub is_free : Target → Lock → Type 0
is_free v l = has_to_wait v (locks_on l.resource v.waiting) l ≡ false

abbrev pub as_grown : Target → Lock → Lock
as_grown v l = grown v (locks_on l.resource v.waiting) l

abbrev pub enqueued_of : Lock → Placed → Enqueued
enqueued_of l (placed.Granted policy) = enqueued.Granted (record l { ask = record l.ask { policy = policy } })
enqueued_of l placed.Waiting = enqueued.Waiting l

-- It is granted as far as it grows, or waits as it was asked for; and then it is there.
pub record IsEnqueued (resource : Resource) (ask : Ask) (answer : Enqueued) (old new : ServerState) : Type 0 where
  pub placed : (v : Target) → Shows old v
      → answer ≡ (let l = new_lock v resource ask in if has_to_wait v (locks_on resource v.waiting) l then enqueued.Waiting l
      else enqueued.Granted (as_grown v l))
  pub grants : (v : Target) (asked : Option Deed) → Shows old v → is_free v (new_lock v resource ask)
      → Shows new (after v (Grant (as_grown v (new_lock v resource ask)) asked))
  pub waits : (v : Target) (d : Deed) → Shows old v → waits_on v (new_lock v resource ask)
      → Shows new (after v (Wait (new_lock v resource ask) d))

-- ---- a lock is released by its holder

-- The lock was granted to its sender; once it is released and those are answered who asked its holder, these are granted.
pub record IsReleased (who : Who) (cookie : Cookie) (released : Released) (old new : ServerState) : Type 0 where
  pub was : (v : Target) → Shows old v → lock_of who cookie v.granted ≡ Some released.lock
  pub granted : (v : Target) (at : At) → Shows old v
      → (let w = turn v (releases at released.lock v) in let r = released.lock.resource in grants_go [] (locks_on r w.waiting) w
      ≡ grants_told r w released.granted)
  pub shows : (v : Target) (at : At) → Shows old v
      → (let w = turn v (releases at released.lock v) in Shows new (turn w (grants_told released.lock.resource w released.granted)))

-- Nothing was granted to its sender under this cookie.
abbrev pub IsNoRelease : Who → Cookie → (old new : ServerState) → Type 0
IsNoRelease who cookie old new = ((v : Target) → Shows old v → lock_of who cookie v.granted ≡ None) × (new ≡ old)

abbrev pub IsCancel : Who → Cookie → Option Released → (old new : ServerState) → Type 0
IsCancel who cookie None old new = IsNoRelease who cookie old new
IsCancel who cookie (Some released) old new = IsReleased who cookie released old new

-- ---- locks are called back

-- what is told of these locks, which weren't called back before
abbrev pub blocks_told : Target → List Lock → List Entry
blocks_told v [] = []
blocks_told v (l ∷ locks) = Block (called v l) ∷ block_of v l ∷ blocks_told v locks

-- These locks are called back, which no one called back before, and are in the way of what waits on the resource.
pub record AreCalledBack (resource : Resource) (locks : List Lock) (old new : ServerState) : Type 0 where
  pub told : (v : Target) → Shows old v → blocks_go (locks_on resource v.waiting) v ≡ blocks_told v locks
  pub shows : (v : Target) → Shows old v → Shows new (turn v (blocks_go (locks_on resource v.waiting) v))
