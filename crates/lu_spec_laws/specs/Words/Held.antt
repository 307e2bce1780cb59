-- The locks that lives hold: each from its `hold` line to its `drop` line, as its target granted or restored it to that
-- life before (Wang et al., Understanding Lustre Filesystem Internals, the lock manager).
use Rattle.std.specs.Prelude.{ℕ, Bool, true, false, not, ◌==◌, ◌&&◌, if◌then◌else◌, Option, Some, None, List, [], ◌∷◌, filter}
use Rattle.std.specs.List.{list_any}
use Rattle.lu_base.specs.declared.ids.Node.{Node}
use Rattle.lu_base.specs.declared.ids.Node.TheVariants.{Client, Target}
use Rattle.lu_base.specs.declared.ids.Who.{Who}
use Rattle.lu_base.specs.declared.locks.Ask.{Ask}
use Rattle.lu_base.specs.declared.locks.Lock.{Lock as LockOf}
use Rattle.lu_base.specs.declared.locks.Resource.{Resource}
use Rattle.lu_lock.specs.Conflict.{conflict}
use Rattle.lu_lock.specs.Modes.{under}
use Rattle.lu_trace.specs.declared.entries.Line.{Line}
use Rattle.lu_trace.specs.declared.entries.Entry.TheVariants.{Hold, Drop, Grant, Restore}
use Rattle.lu_spec_machine.specs.Tree.{same_life}
use Rattle.lu_spec_laws.specs.Words.Pasts.{Past, is_target, newest}
use Rattle.lu_spec_laws.specs.Words.Lives.{who_is, is_evicted}
use Rattle.lu_spec_laws.specs.Words.Queues.{has_cookie, is_on}

-- ---- the lock that the target last granted or restored to that life under that cookie

abbrev pub is_given : ℕ → Who → ℕ → Node → LockOf → Bool
is_given t who cookie node lock = is_target t node && has_cookie cookie lock && same_life lock.ask.who who

abbrev pub gives : ℕ → Who → ℕ → Past → Line → Option LockOf
gives t who cookie past l =
    elim l.entry [
      | Grant lock ↦ if is_given t who cookie l.at.node lock then Some lock else None
      | Restore lock ↦ if is_given t who cookie l.at.node lock then Some lock else None
      | _ ↦ None
    ]

abbrev pub given : ℕ → Who → ℕ → Past → Option LockOf
given t who cookie past = newest (gives t who cookie) past

-- ---- what is held

-- the life that holds a lock of the target
pub record Held : Type 0 where
  pub who : Who
  pub target : ℕ
  pub lock : LockOf

abbrev pub is_held_by : Who → ℕ → ℕ → Held → Bool
is_held_by who t cookie h = h.target == t && has_cookie cookie h.lock && same_life h.who who

abbrev pub all_but : Who → ℕ → ℕ → List Held → List Held
all_but who t cookie locks = filter (λ h. not (is_held_by who t cookie h)) locks

-- what was given to nobody isn't held
abbrev pub with_lock : Who → ℕ → Option LockOf → List Held → List Held
with_lock who t None old = old
with_lock who t (Some lock) old = record { who = who; target = t; lock = lock } ∷ all_but who t lock.cookie.0 old

-- over the present life of each client, and what was given so far
module _ (present : ℕ → Who) (given_so_far : ℕ → Who → ℕ → Option LockOf) where
  abbrev pub held_at : Node → ℕ → ℕ → List Held → List Held
  held_at (Client c) t cookie old = with_lock (present c) t (given_so_far t (present c) cookie) old
  held_at (Target u) t cookie old = old

  abbrev pub dropped_at : Node → ℕ → ℕ → List Held → List Held
  dropped_at (Client c) t cookie old = all_but (present c) t cookie old
  dropped_at (Target u) t cookie old = old

  abbrev pub held_step : Line → List Held → List Held
  held_step l old =
      elim l.entry [
        | Hold target cookie ↦ held_at l.at.node target.0 cookie.0 old
        | Drop target cookie ↦ dropped_at l.at.node target.0 cookie.0 old
        | _ ↦ old
      ]

-- by any life, the newest first
abbrev pub held : Past → List Held
held [] = []
held (l ∷ past) = held_step (λ c. who_is c past) (λ t who cookie. given t who cookie past) l (held past)

-- ---- tests of what is held

-- it is a lock of the target on that resource, of a life that the target hasn't evicted, and conflicts with the ask
abbrev pub opposes : Past → ℕ → Resource → Ask → Held → Bool
opposes past t resource ask h =
    h.target == t && is_on resource h.lock && conflict ask h.lock.ask && not (is_evicted t past h.who)

-- whether one of the locks does
abbrev pub is_opposed : Past → ℕ → Resource → Ask → List Held → Bool
is_opposed past t resource ask locks = list_any (opposes past t resource ask) locks

-- whether one is a PW lock of the life
abbrev pub has_write_lock : Who → List Held → Bool
has_write_lock who locks =
    list_any (λ h. under h.lock.ask.mode false true false false false false && same_life h.who who) locks
