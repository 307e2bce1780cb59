-- Locks that are released, and lives that leave with all that they had.
use Rattle.std.specs.Prelude.{◌≡◌, List, [], ◌∷◌, ◌++◌, Option, Some, None, map}
use Rattle.lu_base.specs.declared.ids.At.{At}
use Rattle.lu_base.specs.declared.ids.Cookie.{Cookie}
use Rattle.lu_base.specs.declared.ids.Who.{Who}
use Rattle.lu_base.specs.declared.locks.Cause.{Cause}
use Rattle.lu_base.specs.declared.locks.Lock.{Lock}
use Rattle.lu_base.specs.declared.locks.Resource.{Resource}
use Rattle.lu_queue.specs.declared.locks.Grant.{Grant}
use Rattle.lu_service.specs.declared.services.Kind.TheVariants.{Mdt}
use Rattle.lu_trace.specs.Turns.{Making}
use Rattle.lu_spec_entries.specs.Carried.{Glimpse}
use Rattle.lu_spec_entries.specs.Words.{Entry}
use Rattle.lu_spec_target.specs.Stored.{batch_of}
use Rattle.lu_spec_target.specs.Replies.{locks_on}
use Rattle.lu_spec_target.specs.Queues.{grants_go, all_queues_go}
use Rattle.lu_spec_target.specs.Glimpses.{glimpses_of}
use Rattle.lu_spec_target.specs.Leaving.{commits, locks_of, evictions}
use Rattle.lu_spec_target.specs.States.{Target, turn, follow}
use Rattle.lu_target_refines.specs.Batches.{AreOnce}
use Rattle.lu_target_refines.specs.Cookies.{HaveOneEach}
use Rattle.lu_target_refines.specs.Locks.{grants_told}
use Rattle.lu_target_locks.specs.declared.departing.Asker.{Asker}
use Rattle.lu_target_locks.specs.declared.departing.EndedLock.{EndedLock}
use Rattle.lu_target_locks.specs.declared.departing.Departure.{Departure}
use Rattle.lu_target_locks.specs.declared.departing.QueueStep.{QueueStep}
use Rattle.lu_target_locks.specs.Departing.{asker_of, ended_with, steps_told}
use Rattle.lu_target_locks.specs.Servers as locking
use Rattle.lu_target_locks.specs.Servers.{ServerState as LockState, IsNoRelease, IsReleased}
use Rattle.lu_spec_entries.specs.Given.{giving}
use Rattle.lu_target_server.specs.Servers.{ServerState}
use Rattle.lu_target_server.specs.Middles.{ShowsRest}

-- ---- one lock

-- those for whom its holder was asked are the askers
pub record MayRelease (ended : EndedLock) (s : ServerState) (v : Target) : Type 0 where
  pub rest : ShowsRest s v
  pub askers : ended.askers ≡ map {A = Glimpse} {B = Asker} asker_of (glimpses_of ended.lock v.glimpses)

-- a lock that its holder gave back, with what was granted then
pub record IsGivenBack (who : Who) (cookie : Cookie) (ended : EndedLock) (granted : List Grant) (old new : LockState) : Type 0 where
  pub released : IsReleased who cookie (record { lock = ended.lock; granted = granted }) old new
  pub askers : (v : Target) → locking.Shows old v → ended.askers
      ≡ map {A = Glimpse} {B = Asker} asker_of (glimpses_of ended.lock v.glimpses)

abbrev pub IsReturn : Who → Cookie → Option (EndedLock × List Grant) → (old new : LockState) → Type 0
IsReturn who cookie None old new = IsNoRelease who cookie old new
IsReturn who cookie (Some taken) old new = IsGivenBack who cookie taken.0 taken.1 old new

-- these locks of one resource are granted, which had waited
pub record QueueGoesOn (r : Resource) (granted : List Grant) (s : ServerState) (w : Target) : Type 0 where
  pub rest : ShowsRest s w
  pub told : grants_go [] (locks_on r w.waiting) w ≡ grants_told r w granted
  pub shows : locking.Shows s.locks (turn w (grants_told r w granted))

-- ---- the locks of a life

pub record MayDepart (locks : List Lock) (released : List EndedLock) (s : ServerState) (v : Target) : Type 0 where
  pub rest : ShowsRest s v
  pub are : released ≡ map {A = Lock} {B = EndedLock} (ended_with v.glimpses) locks
  pub once : HaveOneEach locks

-- ---- the lives

abbrev pub departs : List Glimpse → List Lock → Who → Departure
departs gs granted who = record { who = who; released = map {A = Lock} {B = EndedLock} (ended_with gs) (locks_of who granted) }

pub record MayDepartAll (granted : List Lock) (gone : List Who) (departures : List Departure) (s : ServerState) (w : Target) : Type 0 where
  pub rest : ShowsRest s w
  pub are : departures ≡ map {A = Who} {B = Departure} (departs w.glimpses granted) gone
  pub once : HaveOneEach granted
  pub lives : AreOnce gone

-- what waited goes on then: these steps of the queues are to be told
pub record GoesOn (steps : List QueueStep) (s : ServerState) (u : Target) : Type 0 where
  pub rest : ShowsRest s u
  pub told : all_queues_go u ≡ steps_told u steps
  pub shows : locking.Shows s.locks (turn u (all_queues_go u))
  pub names : s.kind ≡ Mdt → locking.Shows s.locks u

-- the commit of lives that leave and come, and the evictions of those that left
abbrev pub moves : At → Cause → (gone come : List Who) → Target → List Entry
moves at cause gone come v = follow v (commits v v.log gone come ∷ []) (evictions at cause v.granted gone)

pub record AreMoved (cause : Cause) (gone come : List Who) (steps : List QueueStep) (v : Target) (old new : ServerState)
    (before after : Making) : Type 0 where
  pub gives : after ≡ giving before (moves before.at cause gone come v)
  pub goes : GoesOn steps new (turn v (moves before.at cause gone come v))
  pub batches : new.store.batches ≡ old.store.batches ++ batch_of v.log gone come ∷ []
