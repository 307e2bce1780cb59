-- The locks of a target as its lines show them: those granted, and those that wait in the order of their arrival. A
-- crash ends all of them, and an eviction the waits of its life (Wang et al., Understanding Lustre Filesystem Internals,
-- the lock manager).
use Rattle.std.specs.Prelude.{ℕ, Bool, not, ◌==◌, if◌then◌else◌, Option, Some, List, [], ◌∷◌, ◌++◌, map, filter, find}
use Rattle.lu_base.specs.declared.ids.Who.{Who}
use Rattle.lu_base.specs.declared.locks.Ask.{Ask}
use Rattle.lu_base.specs.declared.locks.Lock.{Lock as LockOf}
use Rattle.lu_base.specs.declared.locks.Resource.{Resource}
use Rattle.lu_trace.specs.declared.entries.Line.{Line}
use Rattle.lu_trace.specs.declared.entries.Entry.TheVariants.{Grant, Wait, Release, Crash, Restore, Evict}
use Rattle.lu_spec_machine.specs.Tree.{same_life}
use Rattle.lu_spec_laws.specs.Words.Pasts.{Past, is_target}
use Rattle.lu_spec_laws.specs.Words.Requests.{same_resource}

-- ---- lists of locks

abbrev pub has_cookie : ℕ → LockOf → Bool
has_cookie cookie lock = lock.cookie.0 == cookie

abbrev pub is_on : Resource → LockOf → Bool
is_on resource lock = same_resource (Some lock.resource) (Some resource)

abbrev pub on : Resource → List LockOf → List LockOf
on resource locks = filter (is_on resource) locks

abbrev pub asks : List LockOf → List Ask
asks locks = map (λ lock. lock.ask) locks

abbrev pub without : ℕ → List LockOf → List LockOf
without cookie locks = filter (λ lock. not (has_cookie cookie lock)) locks

abbrev pub of_others : Who → List LockOf → List LockOf
of_others who locks = filter (λ lock. not (same_life lock.ask.who who)) locks

-- those before the first of this cookie; all where there is none
abbrev pub ahead_of : ℕ → List LockOf → List LockOf
ahead_of cookie [] = []
ahead_of cookie (lock ∷ locks) = if has_cookie cookie lock then [] else lock ∷ ahead_of cookie locks

-- without the first of this cookie
abbrev pub without_first : ℕ → List LockOf → List LockOf
without_first cookie [] = []
without_first cookie (lock ∷ locks) = if has_cookie cookie lock then locks else lock ∷ without_first cookie locks

-- ---- the granted locks of a target, the newest first, each as its line says

abbrev pub granted_step : ℕ → Line → List LockOf → List LockOf
granted_step t l old =
    elim l.entry [
      | Grant lock ↦ if is_target t l.at.node then lock ∷ old else old
      | Restore lock ↦ if is_target t l.at.node then lock ∷ old else old
      | Release cookie ↦ if is_target t l.at.node then without cookie.0 old else old
      | Crash ↦ if is_target t l.at.node then [] else old
      | _ ↦ old
    ]

abbrev pub granted : ℕ → Past → List LockOf
granted t [] = []
granted t (l ∷ past) = granted_step t l (granted t past)

-- ---- the waits of a target, the oldest first, each as it was asked for: a grant ends the first of its cookie

abbrev pub waiting_step : ℕ → Line → List LockOf → List LockOf
waiting_step t l old =
    elim l.entry [
      | Wait lock ↦ if is_target t l.at.node then old ++ lock ∷ [] else old
      | Grant lock ↦ if is_target t l.at.node then without_first lock.cookie.0 old else old
      | Evict who cause ↦ if is_target t l.at.node then of_others who old else old
      | Crash ↦ if is_target t l.at.node then [] else old
      | _ ↦ old
    ]

abbrev pub waiting : ℕ → Past → List LockOf
waiting t [] = []
waiting t (l ∷ past) = waiting_step t l (waiting t past)

-- the wait of this cookie: the first that still waits
abbrev pub waits : ℕ → ℕ → Past → Option LockOf
waits t cookie past = find (has_cookie cookie) (waiting t past)
