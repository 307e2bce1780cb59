-- The granted locks in the way of a change, found by the resources of its guards.
use Rattle.std.specs.Prelude.{◌≡◌, ⊤, Bool, false, List, [], ◌∷◌, ◌++◌, map, filter}
use Rattle.std.specs.List.{list_any, AllByRecursion}
use Rattle.lu_base.specs.declared.ids.Cookie.{Cookie}
use Rattle.lu_base.specs.declared.ids.Who.{Who}
use Rattle.lu_base.specs.declared.locks.Resource.{Resource}
use Rattle.lu_part.specs.declared.parts.Part.{Part}
use Rattle.lu_part.specs.Guards.{guard}
use Rattle.lu_queue.specs.declared.locks.Grant.{Grant}
use Rattle.lu_queue.specs.Queues.{same_who}
use Rattle.lu_lockspace.specs.Spaces.{same_resource, lock_on, meets_guard}
use Rattle.lu_lockspace.specs.Entries.{Entries, at}

abbrev pub is_listed : Resource → List Resource → Bool
is_listed resource resources = list_any (same_resource resource) resources

-- What isn't listed after this resource was added wasn't listed before, and is another.
abbrev pub IsAdded : Resource → (old new : List Resource) → Type 0
IsAdded resource old new =
    (other : Resource) → is_listed other new ≡ false → (is_listed other old ≡ false) × (same_resource other resource ≡ false)

-- No two of them are one.
abbrev pub AreApart : List Resource → Type 0
AreApart [] = ⊤
AreApart (resource ∷ resources) = AllByRecursion (λ other. same_resource resource other ≡ false) resources × AreApart resources

-- The resources of the guards of these parts, each once.
pub record AreGuards (parts : List Part) (resources : List Resource) : Type 0 where
  pub once : AreApart resources
  pub all : (resource : Resource) → is_listed resource resources ≡ false → list_any (λ part. same_resource resource (guard part).0) parts
      ≡ false

-- The cookies of these locks on a resource that meet a guard of the parts.
abbrev pub guarded_in : Resource → List Part → List Grant → List Cookie
guarded_in resource parts locks = map (λ lock. lock.cookie) (filter (λ lock. meets_guard parts (lock_on resource lock)) locks)

-- The cookies of the granted locks of a resource that meet one.
abbrev pub guarded_on : Resource → List Part → Entries → List Cookie
guarded_on resource parts entries = guarded_in resource parts (at resource entries).granted

-- Those of some resources.
abbrev pub guarded_on_all : List Resource → List Part → Entries → List Cookie
guarded_on_all [] parts entries = []
guarded_on_all (resource ∷ resources) parts entries = guarded_on resource parts entries ++ guarded_on_all resources parts entries

-- The cookies of the granted locks of a life on a resource.
abbrev pub of_life_on : Who → Resource → Entries → List Cookie
of_life_on who resource entries = map (λ lock. lock.cookie) (filter (λ lock. same_who lock.ask.who who) (at resource entries).granted)

-- Those on some resources.
abbrev pub of_life_on_all : Who → List Resource → Entries → List Cookie
of_life_on_all who [] entries = []
of_life_on_all who (resource ∷ resources) entries = of_life_on who resource entries ++ of_life_on_all who resources entries
