-- The queues at their seats: each resource that has locks has one, the key of its queue in a slab.
use Rattle.std.specs.Prelude.{◌≡◌, ℕ, true, List, Option, Some, IsSome, map, length}
use Rattle.std.specs.Option.{unwrap_or}
use Rattle.std.specs.Map.{lookup, keys_of}
use Rattle.std.specs.BTreeMap.{is_at}
use Rattle.std.specs.List.Sorted.{IsStrictlySortedBy}
use Rattle.slab.specs.Slab.{Slab, get, slab_len}
use Rattle.lu_base.specs.declared.locks.Resource.{Resource}
use Rattle.lu_queue.specs.Queues as queue
use Rattle.lu_queue.specs.Queues.{QueueState}
use Rattle.lu_lockspace.specs.Spaces.{same_resource}
use Rattle.lu_lockspace.specs.Entries.{Entries, order}

abbrev pub Seats : Type 0
Seats = List (Resource × ℕ)

abbrev pub seat_of : Resource → Seats → Option ℕ
seat_of resource seats = lookup (is_at (order resource)) seats

abbrev pub queue_at : Slab QueueState → ℕ → QueueState
queue_at queues seat = unwrap_or (get queues seat) queue.empty

abbrev pub seated : Seats → Slab QueueState → Entries
seated seats queues = map (λ seat. (seat.0, queue_at queues seat.1)) seats

-- At each seat is a queue, no two resources have one seat, and there are no more queues than seats.
pub record IsSeated (seats : Seats) (queues : Slab QueueState) : Type 0 where
  pub rising : IsStrictlySortedBy order (keys_of seats)
  pub there : (resource : Resource) (seat : ℕ) → seat_of resource seats ≡ Some seat → IsSome (get queues seat)
  pub apart : (a b : Resource) (seat : ℕ) → seat_of a seats ≡ Some seat → seat_of b seats ≡ Some seat → same_resource a b ≡ true
  pub full : slab_len queues ≡ length seats
