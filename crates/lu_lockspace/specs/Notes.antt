-- What is noted beside the queues: where each life has locks, and where locks wait. It may be too much, and never too little.
use Rattle.std.specs.Prelude.{◌≡◌, ⊤, Bool, true, List, [], ◌∷◌}
use Rattle.std.specs.Ordering.{nat_cmp, ordering_then}
use Rattle.std.specs.declared.cmp.Ordering.{Ordering}
use Rattle.std.specs.BTreeMap.{is_at}
use Rattle.std.specs.List.{list_any}
use Rattle.lu_base.specs.declared.ids.Who.{Who}
use Rattle.lu_base.specs.declared.locks.Resource.{Resource}
use Rattle.lu_queue.specs.Queues.{QueueState, same_who, has_of}
use Rattle.lu_lockspace.specs.declared.stays.Stay.{Stay}
use Rattle.lu_lockspace.specs.Spaces.{same_resource, some_waits}
use Rattle.lu_lockspace.specs.Entries.{Entries, order, at, AreRising}

abbrev pub stay : Who → Resource → Stay
stay who resource = record { who = who; resource = resource }

-- The client comes first, then its life, then the resource.
abbrev pub stay_order : Stay → Stay → Ordering
stay_order a b =
    ordering_then (ordering_then (nat_cmp a.who.client b.who.client) (nat_cmp a.who.life b.who.life)) (order a.resource b.resource)

-- Whether it is noted that a life has locks on a resource.
abbrev pub is_noted : Stay → List Stay → Bool
is_noted stay stays = list_any (is_at (stay_order stay)) stays

-- Whether a resource is among these.
abbrev pub is_waited : Resource → List Resource → Bool
is_waited resource waited = list_any (is_at (order resource)) waited

-- What was noted is noted still.
abbrev pub HasStays : List Stay → List Stay → Type 0
HasStays old new = (stay : Stay) → is_noted stay old ≡ true → is_noted stay new ≡ true

abbrev pub HasResources : List Resource → List Resource → Type 0
HasResources old new = (resource : Resource) → is_waited resource old ≡ true → is_waited resource new ≡ true

-- All that is noted of these lives is among some notes.
abbrev pub AllNoted : List Who → List Stay → List Stay → Type 0
AllNoted lives stays some =
    (who : Who) (resource : Resource) → list_any (same_who who) lives ≡ true → is_noted (stay who resource) stays ≡ true
    → is_noted (stay who resource) some ≡ true

-- Each resource on which one of these lives has a lock is among those of some notes.
abbrev pub AllListed : List Who → Entries → List Stay → Type 0
AllListed lives entries some =
    (resource : Resource) → has_of lives (at resource entries) ≡ true → list_any (λ stay. same_resource resource stay.resource) some ≡ true

-- What is noted of all that is there.
pub record AreNoted (entries : Entries) (stays : List Stay) (waited : List Resource) : Type 0 where
  pub rising : AreRising entries
  pub lives : (who : Who) (resource : Resource) → has_of (who ∷ []) (at resource entries) ≡ true → is_noted (stay who resource) stays ≡ true
  pub waits : (resource : Resource) → some_waits (at resource entries) ≡ true → is_waited resource waited ≡ true

-- No life has a lock in the new queue that had none in the old one, and none waits where none waited.
pub record IsFewer (new old : QueueState) : Type 0 where
  pub lives : (who : Who) → has_of (who ∷ []) new ≡ true → has_of (who ∷ []) old ≡ true
  pub waits : some_waits new ≡ true → some_waits old ≡ true

-- So it is of each of these queues, beside that of its resource before.
abbrev pub AllFewer : (ended before : Entries) → Type 0
AllFewer [] before = ⊤
AllFewer (entry ∷ ended) before = IsFewer entry.1 (at entry.0 before) × AllFewer ended before
