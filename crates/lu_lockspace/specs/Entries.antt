-- The queues of resources as they are kept: one entry for each resource that has locks, in rising Fid and stripe.
use Rattle.std.specs.Prelude.{◌≡◌, ℕ, Bool, false, List, [], ◌∷◌, ◌++◌, Option, Some, None, map, filter}
use Rattle.std.specs.Option.{unwrap_or}
use Rattle.std.specs.Ordering.{nat_cmp, ordering_then}
use Rattle.std.specs.declared.cmp.Ordering.{Ordering}
use Rattle.std.specs.List.Sorted.{IsStrictlySortedBy}
use Rattle.std.specs.Map.{lookup, keys_of}
use Rattle.std.specs.BTreeMap.{is_at}
use Rattle.lu_base.specs.declared.ids.Cookie.{Cookie}
use Rattle.lu_base.specs.declared.locks.Lock.{Lock}
use Rattle.lu_base.specs.declared.locks.Resource.{Resource}
use Rattle.lu_queue.specs.declared.locks.Grant.{Grant}
use Rattle.lu_queue.specs.Queues as queue
use Rattle.lu_queue.specs.Queues.{QueueState, has_of, IsQueue}
use Rattle.lu_base.specs.declared.ids.Who.{Who}
use Rattle.lu_lockspace.specs.Spaces.{SpaceState, same_resource, lock_on, queue_of, some_waits}

abbrev pub Entries : Type 0
Entries = List (Resource × QueueState)

-- Fid comes first, then the stripe.
abbrev pub order : Resource → Resource → Ordering
order a b = ordering_then (nat_cmp a.fid.0 b.fid.0) (nat_cmp a.stripe b.stripe)

abbrev pub AreRising : Entries → Type 0
AreRising entries = IsStrictlySortedBy order (keys_of entries)

-- The queue of a resource, where it has one; and else that without locks.
abbrev pub entry_of : Resource → Entries → Option QueueState
entry_of resource entries = lookup (is_at (order resource)) entries

abbrev pub at : Resource → Entries → QueueState
at resource entries = unwrap_or (entry_of resource entries) queue.empty

-- Other queues than that of this resource are as they were.
abbrev pub Keeps : Resource → Entries → Entries → Type 0
Keeps resource before after =
    (other : Resource) → same_resource resource other ≡ false → entry_of other after ≡ entry_of other before

-- All locks of some part of the queues.
abbrev pub locks_of : (QueueState → List Grant) → Entries → List Lock
locks_of part [] = []
locks_of part (entry ∷ entries) = map (lock_on entry.0) (part entry.1) ++ locks_of part entries

-- The cookies of the granted locks that pass a test.
abbrev pub cookies_that : (Lock → Bool) → Entries → List Cookie
cookies_that test entries = map (λ lock. lock.cookie) (filter test (locks_of (λ all. all.granted) entries))

-- The locks of all resources.
abbrev pub all_of : Entries → SpaceState
all_of entries = record { granted = locks_of (λ all. all.granted) entries; waiting = locks_of (λ all. all.waiting) entries }

-- The resources on which one of these lives has a lock.
abbrev pub changed : List Who → Entries → List Resource
changed lives entries = map (λ entry. entry.0) (filter (λ entry. has_of lives entry.1) entries)

-- The resources on which a lock waits.
abbrev pub waited_on : Entries → List Resource
waited_on entries = map (λ entry. entry.0) (filter (λ entry. some_waits entry.1) entries)

-- ---- on which resource the lock of a cookie is

abbrev pub Places : Type 0
Places = List (Cookie × Resource)

abbrev pub place_of : ℕ → Places → Option Resource
place_of cookie places = lookup (is_at (λ (other : Cookie). nat_cmp cookie other.0)) places

abbrev pub is_place : Resource → Option Resource → Bool
is_place resource None = false
is_place resource (Some other) = same_resource resource other

-- A cookie is in the queue of its place alone, if it has one.
abbrev pub IsPlaced : ℕ → SpaceState → Option Resource → Type 0
IsPlaced cookie space place = (resource : Resource) → queue.is_in cookie (queue_of resource space) ≡ is_place resource place

-- Each queue is one, and a cookie is in that of its place alone.
pub record IsIndexed (entries : Entries) (places : Places) : Type 0 where
  pub rising : AreRising entries
  pub queues : (resource : Resource) → IsQueue (at resource entries)
  pub placed : (cookie : ℕ) (resource : Resource) → queue.is_in cookie (at resource entries) ≡ is_place resource (place_of cookie places)
  pub cookies : IsStrictlySortedBy (λ a b. nat_cmp a.0 b.0) (keys_of places)
