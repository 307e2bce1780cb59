-- What a target's lockspace shows of the state that the rows read: the rows have the granted locks in rising cookie, the
-- lockspace those of one resource in the order in which they were granted; the waiting locks of one resource stand in
-- both in order of arrival.
use Rattle.std.specs.Prelude.{◌≡◌, ◌<◌, ◌≤◌, ◌==◌, List, [], ◌∷◌, Option, Some, None, map, find, All, AllPairs, IsPermutation}
use Rattle.lu_base.specs.declared.ids.Cookie.{Cookie}
use Rattle.lu_base.specs.declared.locks.Lock.{Lock}
use Rattle.lu_base.specs.declared.locks.Resource.{Resource}
use Rattle.lu_queue.specs.declared.locks.Grant.{Grant}
use Rattle.lu_queue.specs.Queues.{QueueState, with_lock, restored}
use Rattle.lu_lockspace.specs.Spaces.{SpaceState, IsSpace, KeepsOthers, grant_of, lock_on, queue_of}
use Rattle.lu_spec_entries.specs.Words.{Entry, Grant as Grants}
use Rattle.lu_spec_target.specs.Replies.{locks_on}
use Rattle.lu_spec_target.specs.Queues.{grant_message}
use Rattle.lu_spec_target.specs.States.{Target}

-- the locks of one resource as in its queue
abbrev pub grants_of : List Lock → List Grant
grants_of locks = map {A = Lock} {B = Grant} grant_of locks

-- one resource
pub record ShowsQueue (r : Resource) (queue : QueueState) (v : Target) : Type 0 where
  pub granted : IsPermutation queue.granted (grants_of (locks_on r v.granted))
  pub waiting : queue.waiting ≡ grants_of (locks_on r v.waiting)

-- all resources; no cookie is above the greatest one given
pub record ShowsLocks (space : SpaceState) (v : Target) : Type 0 where
  pub lawful : IsSpace space
  pub queues : (r : Resource) → ShowsQueue r (queue_of r space) v
  pub rising : AllPairs (λ earlier later. earlier.cookie.0 < later.cookie.0) v.granted
  pub granted : All (λ l. l.cookie.0 ≤ v.cookie) v.granted
  pub waiting : All (λ l. l.cookie.0 ≤ v.cookie) v.waiting

-- what is told of locks of one resource that had waited and are granted, one after another
abbrev pub grants_told : Resource → Target → List Grant → List Entry
grants_told r v [] = []
grants_told r v (grant ∷ grants) =
    let l = lock_on r grant in
    Grants l None ∷ grant_message v l ∷ grants_told r v grants

-- these locks were asked for, one after another
abbrev pub AreEnqueued : List Lock → (before after : SpaceState) → Type 0
AreEnqueued [] before after = after ≡ before
AreEnqueued (l ∷ locks) before after =
    (next : SpaceState) × (queue_of l.resource next ≡ with_lock (grant_of l) (queue_of l.resource before))
    × KeepsOthers l.resource before next × IsSpace next
    × AreEnqueued locks next after

-- these locks were restored, one after another, where they might be
abbrev pub AreRestored : List Lock → (before after : SpaceState) → Type 0
AreRestored [] before after = after ≡ before
AreRestored (l ∷ locks) before after =
    (next : SpaceState) × (queue_of l.resource next ≡ restored (grant_of l) (queue_of l.resource before))
    × KeepsOthers l.resource before next
    × AreRestored locks next after

-- the locks of these cookies, in their order
abbrev pub found_or : Option Lock → List Lock → List Lock
found_or None locks = locks
found_or (Some l) locks = l ∷ locks

abbrev pub named : List Cookie → List Lock → List Lock
named [] locks = []
named (cookie ∷ cookies) locks = found_or (find (λ l. l.cookie.0 == cookie.0) locks) (named cookies locks)
