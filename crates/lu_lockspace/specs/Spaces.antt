-- All locks of a target: the queue of each resource is what is granted and what waits on it (Wang et al., Understanding
-- Lustre Filesystem Internals, the lock manager; the order of grants is this project's profile).
use Rattle.std.specs.Prelude.{◌≡◌, ℕ, ◌+◌, ◌≤◌, ◌<◌, Bool, false, not, ◌&&◌, ◌||◌, ◌==◌, List, [], ◌∷◌, ◌++◌, Option, Some, map, filter}
use Rattle.std.specs.Prelude.{find, count_by, length, slice_index_or, slice_get, is_some, AllPairs, IsPermutation}
use Rattle.std.specs.List.{list_any}
use Rattle.lu_base.specs.declared.ids.Cookie.{Cookie}
use Rattle.lu_base.specs.declared.ids.Who.{Who}
use Rattle.lu_base.specs.declared.locks.Ask.{Ask}
use Rattle.lu_base.specs.declared.locks.Lock.{Lock}
use Rattle.lu_base.specs.declared.locks.Resource.{Resource}
use Rattle.lu_base.specs.declared.locks.Mode.TheVariants.{EX}
use Rattle.lu_lock.specs.Conflict.{conflict}
use Rattle.lu_part.specs.declared.parts.Part.{Part}
use Rattle.lu_part.specs.Guards.{guard}
use Rattle.lu_queue.specs.declared.locks.Grant.{Grant}
use Rattle.lu_queue.specs.Queues.{QueueState, without, without_lives, AreGranted, IsRising, IsQueue}

-- The granted locks, those of one resource in the order in which they were granted; and the waiting ones, those of one
-- resource in order of arrival.
pub record SpaceState : Type 0 where
  pub granted : List Lock
  pub waiting : List Lock

abbrev pub empty : SpaceState
empty = record { granted = []; waiting = [] }

abbrev pub same_resource : Resource → Resource → Bool
same_resource a b = a.fid.0 == b.fid.0 && a.stripe == b.stripe

-- A lock as in the queue of its resource.
abbrev pub grant_of : Lock → Grant
grant_of lock = record { cookie = lock.cookie; ask = lock.ask }

-- The locks of a list that are on this resource, as in its queue.
abbrev pub grants_on : Resource → List Lock → List Grant
grants_on resource locks =
    map grant_of (filter (λ lock. same_resource lock.resource resource) locks)

-- The queue of a resource.
abbrev pub queue_of : Resource → SpaceState → QueueState
queue_of resource space = record { granted = grants_on resource space.granted; waiting = grants_on resource space.waiting }

-- A lock of a queue as one of the target's, on this resource.
abbrev pub lock_on : Resource → Grant → Lock
lock_on resource grant = record { cookie = grant.cookie; resource = resource; ask = grant.ask }

-- The same locks, none of whose cookies is below that of the one before it.
pub record IsInOrder (locks order : List Lock) : Type 0 where
  pub same : IsPermutation locks order
  pub rising : (place : ℕ) (d : Lock) → place + 1 < length order
      → (slice_index_or order place d).cookie.0 ≤ (slice_index_or order (place + 1) d).cookie.0

-- The lock at this place among those on a resource, in rising cookie; none past the last.
pub record IsAt (resource : Resource) (at : ℕ) (locks : List Lock) (found : Option Lock) : Type 0 where
  pub order : List Lock
  pub rising : IsInOrder (filter (λ lock. same_resource lock.resource resource) locks) order
  pub is : found ≡ slice_get order at

-- Other queues than that of this resource are as they were.
abbrev pub KeepsOthers : Resource → SpaceState → SpaceState → Type 0
KeepsOthers resource before after =
    (other : Resource) → same_resource resource other ≡ false → queue_of other after ≡ queue_of other before

-- Whether a lock of the list has this cookie.
abbrev pub has : ℕ → List Lock → Bool
has cookie locks = list_any (λ lock. lock.cookie.0 == cookie) locks

-- Whether a lock of any resource has it.
abbrev pub is_in : ℕ → SpaceState → Bool
is_in cookie space = has cookie space.granted || has cookie space.waiting

-- The lock that has it.
abbrev pub lock_of : ℕ → SpaceState → Option Lock
lock_of cookie space = find (λ lock. lock.cookie.0 == cookie) (space.granted ++ space.waiting)

-- How many locks have this cookie.
abbrev pub times : ℕ → List Lock → ℕ
times cookie locks = count_by (λ lock. lock.cookie.0 == cookie) locks

-- A lock, granted or waiting, was taken away, and then all was granted on its resource that might be.
pub record IsCancelled (cookie : ℕ) (before : SpaceState) (grants : List Grant) (after : SpaceState) : Type 0 where
  pub lock : Lock
  pub found : lock_of cookie before ≡ Some lock
  pub granted : AreGranted (without cookie (queue_of lock.resource before)) grants (queue_of lock.resource after)
  pub others : KeepsOthers lock.resource before after

-- ---- what always holds

-- The queue of each resource is one, and no cookie is there twice.
pub record IsSpace (space : SpaceState) : Type 0 where
  pub queues : (resource : Resource) → IsQueue (queue_of resource space)
  pub once : (cookie : ℕ) → times cookie space.granted + times cookie space.waiting ≤ 1

-- ---- the granted locks of a life, and those in the way of a change

-- Whether a lock meets the guard of a part, taken in mode EX.
abbrev pub is_guarded : Part → Lock → Bool
is_guarded part lock =
    same_resource lock.resource (guard part).0
    && conflict (record { who = lock.ask.who; mode = EX; policy = (guard part).1 }) lock.ask

-- Whether it meets the guard of one of these parts.
abbrev pub meets_guard : List Part → Lock → Bool
meets_guard parts lock = list_any (λ part. is_guarded part lock) parts

-- None is below the one before it.
abbrev pub AreInOrder : List Cookie → Type 0
AreInOrder cookies =
    (place : ℕ) (d : Cookie) → place + 1 < length cookies → (slice_index_or cookies place d).0 ≤ (slice_index_or cookies (place + 1) d).0

-- The cookies of the locks that pass a test, rising.
pub record AreCookiesOf (test : Lock → Bool) (locks : List Lock) (cookies : List Cookie) : Type 0 where
  pub all : IsPermutation (map (λ lock. lock.cookie) (filter test locks)) cookies
  pub rising : IsRising cookies

-- ---- what blocks the waiting locks of a resource

abbrev pub is_told : Cookie → List Cookie → Bool
is_told cookie told = list_any (λ other. other.0 == cookie.0) told

-- The cookies of the granted locks in conflict with an ask, but for those that were told before.
abbrev pub blocking_more : Ask → List Grant → List Cookie → List Cookie
blocking_more ask granted told =
    map (λ other. other.cookie) (filter (λ other. conflict ask other.ask && not (is_told other.cookie told)) granted)

-- For each waiting lock in order, what blocks it in rising order, each once.
abbrev pub AreBlocking : (granted waiting : List Grant) → (told cookies : List Cookie) → Type 0
AreBlocking granted [] told cookies = cookies ≡ []
AreBlocking granted (lock ∷ waiting) told cookies =
    (first : List Cookie) × (rest : List Cookie) × (cookies ≡ first ++ rest) × IsRising first
    × IsPermutation (blocking_more lock.ask granted told) first × AreBlocking granted waiting (told ++ first) rest

-- So it is of a queue.
abbrev pub AreBlockers : QueueState → List Cookie → Type 0
AreBlockers queue cookies = AreBlocking queue.granted queue.waiting [] cookies

-- ---- where locks wait

unfoldable pub some_waits : QueueState → Bool
some_waits queue = is_some (slice_get queue.waiting 0)

-- Fid comes first, then the stripe.
abbrev pub IsLower : Resource → Resource → Type 0
IsLower a b = (a.fid.0 ≤ b.fid.0) × ((a.fid.0 ≡ b.fid.0) → a.stripe < b.stripe)

-- The resources on which a lock waits, each below all later ones.
pub record AreWaitedOn (space : SpaceState) (resources : List Resource) : Type 0 where
  pub rising : AllPairs IsLower resources
  pub every : (resource : Resource) → list_any (same_resource resource) resources ≡ some_waits (queue_of resource space)

-- ---- all locks of some lives

-- On these resources, one after another, the locks of these lives are taken away and what may be granted then is granted.
abbrev pub AllSettled : List Who → List Resource → SpaceState → List Grant → SpaceState → Type 0
AllSettled lives [] before grants after = (grants ≡ []) × (after ≡ before)
AllSettled lives (resource ∷ resources) before grants after =
    (first : List Grant) × (rest : List Grant) × (next : SpaceState) × (grants ≡ first ++ rest)
    × AreGranted (without_lives lives (queue_of resource before)) first (queue_of resource next)
    × KeepsOthers resource before next × AllSettled lives resources next rest after

-- Fid comes first, then the stripe.
abbrev pub IsBefore : Resource → Resource → Type 0
IsBefore a b = (a.fid.0 ≤ b.fid.0) × ((a.fid.0 ≡ b.fid.0) → a.stripe ≤ b.stripe)

-- So it is done on all resources on which these lives have locks, in rising order.
pub record AreCancelled (lives : List Who) (before : SpaceState) (grants : List Grant) (after : SpaceState) : Type 0 where
  pub resources : List Resource
  pub rising : (place : ℕ) (d : Resource) → place + 1 < length resources
      → IsBefore (slice_index_or resources place d) (slice_index_or resources (place + 1) d)
  pub every : (resource : Resource) → list_any (same_resource resource) resources ≡ false → without_lives lives (queue_of resource before)
      ≡ queue_of resource before
  pub settled : AllSettled lives resources before grants after
