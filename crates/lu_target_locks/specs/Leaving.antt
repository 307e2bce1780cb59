-- How a departure is made: what the lives had is listed, and then each queue goes on.
use Rattle.std.specs.Prelude.{◌≡◌, ℕ, if◌then◌else◌, List, [], ◌∷◌, ◌++◌, Option, Some, None, map, filter, filter_map}
use Rattle.lu_base.specs.declared.ids.Cookie.{Cookie}
use Rattle.lu_base.specs.declared.ids.Who.{Who}
use Rattle.lu_base.specs.declared.locks.Lock.{Lock}
use Rattle.lu_base.specs.declared.locks.Resource.{Resource}
use Rattle.lu_callback.specs.declared.callbacks.Asked.{Asked}
use Rattle.lu_callback.specs.declared.callbacks.Kind.{Kind}
use Rattle.lu_callback.specs.declared.callbacks.Kind.TheVariants as kind
use Rattle.lu_callback.specs.Callbacks.{of_lock}
use Rattle.lu_queue.specs.declared.locks.Grant.{Grant}
use Rattle.lu_queue.specs.Queues.{same_who}
use Rattle.lu_lockspace.specs.Spaces.{SpaceState, same_resource, lock_of, queue_of, AreCookiesOf, AreBlockers}
use Rattle.lu_spec_target.specs.Lives.{is_life}
use Rattle.lu_target_locks.specs.declared.departing.Asker.{Asker}
use Rattle.lu_target_locks.specs.declared.departing.EndedLock.{EndedLock}
use Rattle.lu_target_locks.specs.declared.departing.Departure.{Departure}
use Rattle.lu_target_locks.specs.declared.departing.QueueStep.{QueueStep}
use Rattle.lu_target_locks.specs.declared.departing.QueueStep.TheVariants as step
use Rattle.lu_target_locks.specs.Calling.{call_all}

-- ---- what the lives had

-- a life that stays, which asked for a size
abbrev pub asked_by : List Who → Kind → Option Asker
asked_by gone kind.Block = None
asked_by gone (kind.Glimpse who xid) = if is_life who gone then None else Some (record { who = who; xid = xid })

abbrev pub kinds_of : Cookie → List Asked → List Kind
kinds_of cookie asked = map {A = Asked} {B = Kind} (λ a. a.kind) (of_lock cookie asked)

abbrev pub ended_as : List Who → List Kind → Option Lock → Option EndedLock
ended_as gone kinds None = None
ended_as gone kinds (Some l) = Some (record { lock = l; askers = filter_map (asked_by gone) kinds })

abbrev pub ended_under : SpaceState → List Asked → List Who → Cookie → Option EndedLock
ended_under space asked gone cookie = ended_as gone (kinds_of cookie asked) (lock_of cookie.0 space)

-- the locks of these cookies
abbrev pub ended_all : SpaceState → List Asked → List Who → List Cookie → List EndedLock
ended_all space asked gone cookies = filter_map (ended_under space asked gone) cookies

abbrev pub IsDeparture : SpaceState → List Asked → List Who → Who → Departure → Type 0
IsDeparture space asked gone who departure =
    (cookies : List Cookie) × AreCookiesOf (λ l. same_who l.ask.who who) space.granted cookies
    × (departure ≡ record { who = who; released = ended_all space asked gone cookies })

abbrev pub AreDepartures : SpaceState → List Asked → List Who → List Who → List Departure → Type 0
AreDepartures space asked gone [] departures = departures ≡ []
AreDepartures space asked gone (who ∷ lives) departures =
    (first : Departure) × (rest : List Departure) × (departures ≡ first ∷ rest) × IsDeparture space asked gone who first
    × AreDepartures space asked gone lives rest

-- the cookies of all that these lives had granted
abbrev pub AreTheirs : SpaceState → List Who → List Cookie → Type 0
AreTheirs space [] cookies = cookies ≡ []
AreTheirs space (who ∷ lives) cookies =
    (first : List Cookie) × (rest : List Cookie) × (cookies ≡ first ++ rest)
    × AreCookiesOf (λ l. same_who l.ask.who who) space.granted first
    × AreTheirs space lives rest

-- ---- the queues go on

-- these locks, granted now
abbrev pub found_under : SpaceState → Grant → Option Lock
found_under space grant = lock_of grant.cookie.0 space

abbrev pub found_all : SpaceState → List Grant → List Lock
found_all space grants = filter_map (found_under space) grants

abbrev pub granted_on : Resource → List Lock → List QueueStep
granted_on r granted = map {A = Lock} {B = QueueStep} (λ l. step.Granted l) (filter (λ l. same_resource l.resource r) granted)

abbrev pub called_steps : List Lock → List QueueStep
called_steps locks = map {A = Lock} {B = QueueStep} (λ l. step.Called l) locks

-- one resource: what was granted there, and what is called back for the locks that wait on
pub record HasGoneOn (space : SpaceState) (tick : ℕ) (granted : List Lock) (r : Resource) (old : List Asked) (steps : List QueueStep)
    (new : List Asked) : Type 0 where
  pub cookies : List Cookie
  pub blockers : AreBlockers (queue_of r space) cookies
  pub asked : new ≡ (call_all space tick old cookies).asked
  pub steps_are : steps ≡ granted_on r granted ++ called_steps (call_all space tick old cookies).called

-- these resources, one after another
abbrev pub AllHaveGoneOn : SpaceState → ℕ → List Lock → List Resource → List Asked → List QueueStep → List Asked → Type 0
AllHaveGoneOn space tick granted [] old steps new = (steps ≡ []) × (new ≡ old)
AllHaveGoneOn space tick granted (r ∷ rs) old steps new =
    (first : List QueueStep) × (rest : List QueueStep) × (mid : List Asked) × (steps ≡ first ++ rest)
    × HasGoneOn space tick granted r old first mid × AllHaveGoneOn space tick granted rs mid rest new
