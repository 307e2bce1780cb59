-- The locks of one resource: which of them wait, and which are granted when (Wang et al., Understanding Lustre Filesystem
-- Internals, the lock manager; that locks are granted first come first served is this project's profile).
use Rattle.std.specs.Prelude.{◌≡◌, ℕ, ◌+◌, ◌≤◌, ◌<◌, Bool, true, false, not, ◌||◌, ◌&&◌, ◌==◌, if◌then◌else◌, Option, List, [], ◌∷◌, ◌++◌}
use Rattle.std.specs.Prelude.{length, map, filter, find, take, count_by, All, AllPairs, slice_index_or, slice_get, IsPermutation}
use Rattle.std.specs.Option.{option_map_or}
use Rattle.std.specs.List.{list_any}
use Rattle.lu_base.specs.declared.locks.Ask.{Ask}
use Rattle.lu_base.specs.declared.ids.Cookie.{Cookie}
use Rattle.lu_base.specs.declared.ids.Who.{Who}
use Rattle.lu_lock.specs.Overlap.{IsOrdered}
use Rattle.lu_lock.specs.Conflict.{conflict}
use Rattle.lu_lock.specs.Growth.{granted_ask}
use Rattle.lu_queue.specs.declared.locks.Grant.{Grant}
use Rattle.lu_queue.specs.declared.locks.Placed.{Placed}
use Rattle.lu_queue.specs.declared.locks.Placed.TheVariants.{Granted, Waiting}

-- The granted locks, in the order in which they were granted and with their policies as granted; and the waiting ones, in
-- order of arrival and as they were asked for.
pub record QueueState : Type 0 where
  pub granted : List Grant
  pub waiting : List Grant

abbrev pub empty : QueueState
empty = record { granted = []; waiting = [] }

-- The queue of these locks.
abbrev pub queue_with : (granted waiting : List Grant) → QueueState
queue_with granted waiting = record { granted = granted; waiting = waiting }

-- A lock as it is asked for, or was granted, under this cookie.
abbrev pub lock_under : Cookie → Ask → Grant
lock_under cookie ask = record { cookie = cookie; ask = ask }

-- ---- lists of locks

-- What they ask for.
abbrev pub asks : List Grant → List Ask
asks locks = map (λ lock. lock.ask) locks

-- Whether one has this cookie.
abbrev pub has : ℕ → List Grant → Bool
has cookie locks = list_any (λ lock. lock.cookie.0 == cookie) locks

-- How many have it.
abbrev pub times : ℕ → List Grant → ℕ
times cookie locks = count_by (λ lock. lock.cookie.0 == cookie) locks

-- No two have one cookie.
abbrev pub IsOnce : List Grant → Type 0
IsOnce locks = (cookie : ℕ) → times cookie locks ≤ 1

-- Those of other cookies.
abbrev pub other_than : ℕ → List Grant → List Grant
other_than cookie locks = filter (λ lock. not (lock.cookie.0 == cookie)) locks

-- Whether one conflicts with this ask.
abbrev pub conflicts : Ask → List Grant → Bool
conflicts ask locks = list_any (λ lock. conflict ask lock.ask) locks

-- The same locks, none of whose cookies is below that of the one before it.
pub record IsInOrder (locks order : List Grant) : Type 0 where
  pub same : IsPermutation locks order
  pub rising : (place : ℕ) (d : Grant) → place + 1 < length order
      → (slice_index_or order place d).cookie.0 ≤ (slice_index_or order (place + 1) d).cookie.0

-- The lock at this place among them, in rising cookie; none past the last.
pub record IsAt (at : ℕ) (locks : List Grant) (found : Option Grant) : Type 0 where
  pub order : List Grant
  pub rising : IsInOrder locks order
  pub is : found ≡ slice_get order at

-- ---- what is granted when

-- Whether an ask has to wait: it conflicts with a granted lock, or with one that waits ahead of it.
abbrev pub has_to_wait : Ask → (granted ahead : List Grant) → Bool
has_to_wait ask granted ahead = conflicts ask granted || conflicts ask ahead

-- Each of the waiting locks has to wait.
abbrev pub AllWait : (granted waiting : List Grant) → Type 0
AllWait granted waiting =
    (place : ℕ) (d : Grant) → place < length waiting → has_to_wait (slice_index_or waiting place d).ask granted (take place waiting) ≡ true

-- A lock as it is granted: its extent grows beside the granted locks and the others that wait.
abbrev pub as_granted : Grant → (granted waiting : List Grant) → Grant
as_granted lock granted waiting = record { cookie = lock.cookie; ask = granted_ask lock.ask (asks granted) (asks waiting) }

-- One waiting lock is granted: the first in order of arrival that doesn't have to wait.
pub record IsGranted (before : QueueState) (grant : Grant) (after : QueueState) : Type 0 where
  pub ahead : List Grant
  pub lock : Grant
  pub behind : List Grant
  pub waiting : before.waiting ≡ ahead ++ lock ∷ behind
  pub first : AllWait before.granted ahead
  pub free : has_to_wait lock.ask before.granted ahead ≡ false
  pub grown : grant ≡ as_granted lock before.granted (ahead ++ behind)
  pub left : after ≡ record { granted = before.granted ++ grant ∷ []; waiting = ahead ++ behind }

-- Waiting locks are granted one after another, until each that is left has to wait.
abbrev pub AreGranted : QueueState → List Grant → QueueState → Type 0
AreGranted before [] after = (after ≡ before) × AllWait before.granted before.waiting
AreGranted before (grant ∷ grants) after = (next : QueueState) × IsGranted before grant next × AreGranted next grants after

-- ---- the calls

-- Whether a lock of the queue has this cookie.
abbrev pub is_in : ℕ → QueueState → Bool
is_in cookie queue = has cookie queue.granted || has cookie queue.waiting

-- What becomes of a new lock: it is granted, or waits behind the others.
abbrev pub placed : Grant → QueueState → Placed
placed lock queue =
    if has_to_wait lock.ask queue.granted queue.waiting
    then Waiting
    else Granted (as_granted lock queue.granted queue.waiting).ask.policy

-- The queue with it.
abbrev pub with_lock : Grant → QueueState → QueueState
with_lock lock queue =
    if has_to_wait lock.ask queue.granted queue.waiting
    then (record queue { waiting = queue.waiting ++ lock ∷ [] })
    else (record queue { granted = queue.granted ++ as_granted lock queue.granted queue.waiting ∷ [] })

-- Whether a lock may be restored as it was granted: it conflicts with no granted one.
abbrev pub may_restore : Grant → QueueState → Bool
may_restore lock queue = not (conflicts lock.ask queue.granted)

-- The queue with a restored lock, where it may be.
abbrev pub restored : Grant → QueueState → QueueState
restored lock queue = if may_restore lock queue then (record queue { granted = queue.granted ++ lock ∷ [] }) else queue

-- The queue without the lock of this cookie.
abbrev pub without : ℕ → QueueState → QueueState
without cookie queue = record { granted = other_than cookie queue.granted; waiting = other_than cookie queue.waiting }

-- The lock of this cookie is taken away, and then all is granted that may be.
abbrev pub IsTakenAway : ℕ → QueueState → List Grant → QueueState → Type 0
IsTakenAway cookie before grants after = AreGranted (without cookie before) grants after

-- The lock of this cookie, granted or waiting.
abbrev pub lock_of : ℕ → QueueState → Option Grant
lock_of cookie queue = find (λ lock. lock.cookie.0 == cookie) (queue.granted ++ queue.waiting)

-- ---- the locks of some lives

abbrev pub same_who : Who → Who → Bool
same_who a b = a.client == b.client && a.life == b.life

-- Whether a lock is of one of these lives.
abbrev pub is_of : List Who → Grant → Bool
is_of lives lock = list_any (λ who. same_who who lock.ask.who) lives

-- Whether a lock of the queue is.
abbrev pub has_of : List Who → QueueState → Bool
has_of lives queue = list_any (is_of lives) queue.granted || list_any (is_of lives) queue.waiting

-- The queue without the locks of these lives.
abbrev pub without_lives : List Who → QueueState → QueueState
without_lives lives queue = record {
  granted = filter (λ lock. not (is_of lives lock)) queue.granted;
  waiting = filter (λ lock. not (is_of lives lock)) queue.waiting;
}

-- ---- what blocks a waiting lock

-- The cookies of the locks in conflict with an ask.
abbrev pub in_conflict : Ask → List Grant → List Cookie
in_conflict ask locks = map (λ lock. lock.cookie) (filter (λ lock. conflict ask lock.ask) locks)

-- The cookies of the granted locks in conflict with the waiting lock of this cookie; none where no lock of this cookie waits.
abbrev pub blocking : ℕ → QueueState → List Cookie
blocking cookie queue =
    option_map_or
    (λ lock. in_conflict lock.ask queue.granted)
    (find (λ lock. lock.cookie.0 == cookie) queue.waiting)
    []

-- Each cookie is below the next.
abbrev pub IsRising : List Cookie → Type 0
IsRising cookies =
    (place : ℕ) (d : Cookie) → place + 1 < length cookies → (slice_index_or cookies place d).0 < (slice_index_or cookies (place + 1) d).0

-- ---- what always holds

-- Granted locks don't conflict, no cookie is there twice, and ranges that wait have their ends in order.
pub record IsCoherent (queue : QueueState) : Type 0 where
  pub apart : AllPairs (λ a b. conflict a.ask b.ask ≡ false) queue.granted
  pub once : IsOnce (queue.granted ++ queue.waiting)
  pub ordered : All (λ lock. IsOrdered lock.ask.policy) queue.waiting

-- Besides, each waiting lock has to wait.
pub record IsQueue (queue : QueueState) : Type 0 where
  pub coherent : IsCoherent queue
  pub stuck : AllWait queue.granted queue.waiting
