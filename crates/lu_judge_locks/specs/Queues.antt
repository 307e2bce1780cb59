-- The locks that wait at targets, by resource and by cookie, and those that are granted: what the tables hold, and that
-- they show a past.
use Rattle.std.specs.Prelude.{◌≡◌, ℕ, ◌≤◌, Bool, ◌==◌, ◌&&◌, if◌then◌else◌, List, [], ◌∷◌, ◌++◌, length, map, filter, drop, unwrap_or}
use Rattle.std.specs.Option.{option_map}
use Rattle.std.specs.HashMap.{get_by}
use Rattle.lu_spec_laws.specs.Words.Pasts.{Past}
use Rattle.lu_judge_locks.specs.declared.waiting.Waiting.{Waiting}
use Rattle.lu_judge_locks.specs.declared.queues.Queues.{Queues}
use Rattle.lu_judge_locks.specs.Lists.{Arrival, arrival_of, lasts, Adds, Ends, AreBefore, ShowsLists}
use Rattle.lu_judge_locks.specs.Arrivals.{has_its_cookie, grants, arrivals}

-- ---- the queues of cookies

-- all that came with the cookie
abbrev pub queue_in : Waiting → ℕ → ℕ → List Arrival
queue_in w t cookie =
    unwrap_or (option_map (λ queue. map arrival_of queue.items) (get_by (λ k. t == k.0 && cookie == k.1) w.queues)) []

-- how many of them, the first ones, wait no longer
abbrev pub passed_in : Waiting → ℕ → ℕ → ℕ
passed_in w t cookie = unwrap_or (get_by (λ k. t == k.0 && cookie == k.1) w.passed) 0

-- they show what waits at each target, in the order of the lines before this place
pub record ShowsWaiting (w : Waiting) (place : ℕ) (all : ℕ → List Arrival) : Type 0 where
  pub lists : ShowsLists w.lists place all
  pub past : (t cookie : ℕ) → AreBefore place (queue_in w t cookie)
  pub within : (t cookie : ℕ) → passed_in w t cookie ≤ length (queue_in w t cookie)
  pub queues : (t cookie : ℕ) → filter (lasts w.lists t) (drop (passed_in w t cookie) (queue_in w t cookie))
      ≡ filter (has_its_cookie cookie) (all t)

-- ---- changes

-- one more waits
pub record Came (old new : Waiting) (target : ℕ) (a : Arrival) : Type 0 where
  pub lists : Adds old.lists new.lists target a
  pub passed : (t cookie : ℕ) → passed_in new t cookie ≡ passed_in old t cookie
  pub queues : (t cookie : ℕ) → queue_in new t cookie ≡ (if target == t && a.lock.cookie.0 == cookie
      then queue_in old target a.lock.cookie.0 ++ a ∷ [] else queue_in old t cookie)

-- of what came before this line what passes the test waits no longer
pub record Gone (old new : Waiting) (place : ℕ) (gone : ℕ → Arrival → Bool) : Type 0 where
  pub lists : Ends old.lists new.lists place gone
  pub passed : (t cookie : ℕ) → passed_in new t cookie ≡ passed_in old t cookie
  pub queues : (t cookie : ℕ) → queue_in new t cookie ≡ queue_in old t cookie

-- ---- together

pub record ShowsQueues (q : Queues) (past : Past) : Type 0 where
  pub granted : ShowsLists q.granted (length past) (λ t. grants t past)
  pub waiting : ShowsWaiting q.waiting (length past) (λ t. arrivals t past)
