-- The locks of targets in the order of their lines, by resource, and which of them last.
use Rattle.std.specs.Prelude.{◌≡◌, ℕ, ◌≤◌, ◌<◌, Bool, true, not, ◌==◌, ◌&&◌, nat_le, if◌then◌else◌, List, [], ◌∷◌, ◌++◌, map, filter}
use Rattle.std.specs.Prelude.{unwrap_or}
use Rattle.std.specs.Option.{option_map}
use Rattle.std.specs.HashMap.{get_by}
use Rattle.std.specs.HashSet.{contains_by}
use Rattle.lu_base.specs.declared.ids.Who.{Who}
use Rattle.lu_base.specs.declared.locks.Lock.{Lock}
use Rattle.lu_base.specs.declared.locks.Resource.{Resource}
use Rattle.lu_spec_laws.specs.Words.Queues.{is_on}
use Rattle.lu_judge_locks.specs.declared.lists.Placed.{Placed}
use Rattle.lu_judge_locks.specs.declared.lists.LockLists.{LockLists}

-- a lock, and how many lines stand before its line
pub record Arrival : Type 0 where
  pub place : ℕ
  pub lock : Lock

abbrev pub arrival_of : Placed → Arrival
arrival_of p = record { place = p.place; lock = p.lock.now }

-- ---- what was ended

-- a line before which all of a target were ended, all of a cookie, all of a life
abbrev pub ended_at_target : LockLists → ℕ → ℕ
ended_at_target s t = unwrap_or (get_by (λ k. t == k) s.targets) 0

abbrev pub ended_at_cookie : LockLists → ℕ → ℕ → ℕ
ended_at_cookie s t cookie = unwrap_or (get_by (λ k. t == k.0 && cookie == k.1) s.cookies) 0

abbrev pub ended_at_life : LockLists → ℕ → Who → ℕ
ended_at_life s t who = unwrap_or (get_by (λ k. t == k.0 && (who.client == k.1.0 && who.life == k.1.1)) s.lives) 0

-- the lock of this line was ended by itself
abbrev pub is_single : LockLists → ℕ → ℕ → Bool
is_single s t place = contains_by (λ k. t == k.0 && place == k.1) s.single

-- it wasn't ended
abbrev pub lasts : LockLists → ℕ → Arrival → Bool
lasts s t a =
    nat_le (ended_at_target s t) a.place && nat_le (ended_at_cookie s t a.lock.cookie.0) a.place
    && nat_le (ended_at_life s t a.lock.ask.who) a.place && not (is_single s t a.place)

-- no line later than this one ended something
pub record IsBounded (s : LockLists) (place : ℕ) : Type 0 where
  pub targets : (t : ℕ) → ended_at_target s t ≤ place
  pub cookies : (t cookie : ℕ) → ended_at_cookie s t cookie ≤ place
  pub lives : (t : ℕ) (who : Who) → ended_at_life s t who ≤ place
  pub single : (t one : ℕ) → is_single s t one ≡ true → one < place

-- ---- what stands in the lists

abbrev pub list_on : LockLists → ℕ → Resource → List Arrival
list_on s t resource =
    unwrap_or
    (option_map (λ list. map arrival_of list.items)
    (get_by (λ k. t == k.0 && (resource.fid.0 == k.1.0 && resource.stripe == k.1.1)) s.lists))
    []

-- what lasts of it
abbrev pub lasting_on : LockLists → ℕ → Resource → List Arrival
lasting_on s t resource = filter (lasts s t) (list_on s t resource)

pub record IsEmpty (s : LockLists) : Type 0 where
  pub bounded : IsBounded s 0
  pub lists : (t : ℕ) (resource : Resource) → list_on s t resource ≡ []

-- ---- changes

-- the list on a resource of a target
abbrev pub is_list : ℕ → Resource → ℕ → Resource → Bool
is_list target resource t other = target == t && (resource.fid.0 == other.fid.0 && resource.stripe == other.stripe)

-- nothing more was ended, and what was lasts as it did
pub record SameEnds (old new : LockLists) : Type 0 where
  pub lasts : (t : ℕ) (a : Arrival) → lasts new t a ≡ lasts old t a
  pub bounded : (place : ℕ) → IsBounded old place → IsBounded new place

-- one list has no more than what lasts
pub record Swept (old new : LockLists) (target : ℕ) (resource : Resource) : Type 0 where
  pub ends : SameEnds old new
  pub lists : (t : ℕ) (other : Resource) → list_on new t other ≡ (if is_list target resource t other then lasting_on old target resource
      else list_on old t other)

-- besides, it has one more
pub record Adds (old new : LockLists) (target : ℕ) (a : Arrival) : Type 0 where
  pub ends : SameEnds old new
  pub lists : (t : ℕ) (other : Resource) → list_on new t other ≡ (if is_list target a.lock.resource t other
      then lasting_on old target a.lock.resource ++ a ∷ [] else list_on old t other)

-- of what came before this line what passes the test was ended
pub record Ends (old new : LockLists) (place : ℕ) (gone : ℕ → Arrival → Bool) : Type 0 where
  pub lasts : (t : ℕ) (a : Arrival) → a.place < place → lasts new t a ≡ (lasts old t a && not (gone t a))
  pub lists : (t : ℕ) (resource : Resource) → list_on new t resource ≡ list_on old t resource
  pub bounded : IsBounded old place → IsBounded new place

-- their lines come before this place
abbrev pub AreBefore : ℕ → List Arrival → Type 0
AreBefore place [] = Unit {0}
AreBefore place (a ∷ all) = (a.place < place) × AreBefore place all

-- ---- they show lists of all that lasts at each target, in the order of the lines before this place

abbrev pub is_arrived_on : Resource → Arrival → Bool
is_arrived_on resource a = is_on resource a.lock

pub record ShowsLists (s : LockLists) (place : ℕ) (all : ℕ → List Arrival) : Type 0 where
  pub bounded : IsBounded s place
  pub past : (t : ℕ) (resource : Resource) → AreBefore place (list_on s t resource)
  pub lists : (t : ℕ) (resource : Resource) → lasting_on s t resource ≡ filter (is_arrived_on resource) (all t)
