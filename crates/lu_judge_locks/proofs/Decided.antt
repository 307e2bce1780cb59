-- What the law of locks asks of a line, as tests.
use Rattle.std.proofs.Common.{◌≡◌, ℕ, zero, suc, Bool, true, false, Option, Some, None, List, refl, ap, sym, subst, ◌∙◌}
use Rattle.std.specs.Prelude.{find, IsTrue, ◌↔◌}
use Rattle.std.proofs.lemmas.Bool.{false≢true}
use Rattle.lu_base.specs.declared.ids.At.{At}
use Rattle.lu_base.specs.declared.ids.Cookie.{Cookie}
use Rattle.lu_base.specs.declared.ids.Node.{Node}
use Rattle.lu_base.specs.declared.ids.Node.TheVariants.{Target}
use Rattle.lu_base.specs.declared.locks.Ask.{Ask}
use Rattle.lu_base.specs.declared.locks.Lock.{Lock}
use Rattle.lu_trace.specs.declared.entries.Entry.{Entry}
use Rattle.lu_trace.specs.declared.entries.Entry.TheVariants.{Hold, Grant, Txn}
use Rattle.lu_lock.specs.Conflict.{conflicts_with_any}
use Rattle.lu_lock.specs.Growth.{granted_ask}
use Rattle.lu_spec_laws.specs.Words.Pasts.{Past, or_else}
use Rattle.lu_spec_laws.specs.Words.Queues.{on, asks, ahead_of, without_first, granted, waiting, waits}
use Rattle.lu_spec_laws.specs.Words.Asked.{enqueued, asked_for, is_for, requested}
use Rattle.lu_spec_laws.specs.Words.Requests.{asked}
use Rattle.lu_spec_laws.specs.Words.Sends.{taken}
use Rattle.lu_spec_laws.specs.Laws.Locks.{IsAsked, GrantAt, GrantBy, LocksAt}
use Rattle.lu_judge_locks.specs.Acts.{names_turn}

-- ---- a grant

grant_taken : (asked : Option Lock) (lock : Lock) (granted waiting : List Lock) → conflicts_with_any lock.ask (asks granted) ≡ true
    → IsTrue false ↔ GrantAt asked lock granted waiting
grant_taken asked lock granted waiting taken = (λ no. absurd (cc), λ at. let free = at.free in absurd (cc))

grant_late : (asked : Option Lock) (lock : Lock) (granted waiting : List Lock)
    → conflicts_with_any lock.ask (asks (ahead_of lock.cookie.0 waiting)) ≡ true → IsTrue false ↔ GrantAt asked lock granted waiting
grant_late asked lock granted waiting late = (λ no. absurd (cc), λ at. let first = at.first in absurd (cc))

grant_decided : (asked : Option Lock) (lock : Lock) (granted waiting : List Lock) (fits : Bool) → conflicts_with_any lock.ask (asks granted)
    ≡ false → conflicts_with_any lock.ask (asks (ahead_of lock.cookie.0 waiting)) ≡ false
    → (IsTrue fits ↔ IsAsked asked lock (asks granted) (asks (without_first lock.cookie.0 waiting))) → IsTrue fits
    ↔ GrantAt asked lock granted waiting
grant_decided asked lock granted waiting fits free first is = (
  λ yes. record { free = free; first = first; as_asked = is.0 yes },
  λ at. is.1 at.as_asked,
)

-- what the tables say of the lock that a target grants
pub record Beside (osts : ℕ) (past : Past) (at : At) (t : ℕ) (lock : Lock) (how : Option Lock)
    (others_granted others_ahead others_waiting : List Ask) : Type 0 where
  pub node : at.node ≡ Target t
  pub asked : how ≡ asked_for osts t past at lock
  pub granted : others_granted ≡ asks (on lock.resource (granted t past))
  pub ahead : others_ahead ≡ asks (ahead_of lock.cookie.0 (on lock.resource (waiting t past)))
  pub waiting : others_waiting ≡ asks (without_first lock.cookie.0 (on lock.resource (waiting t past)))

module _ (osts : ℕ) (past : Past) (at : At) (t : ℕ) (lock : Lock) (how : Option Lock)
    (others_granted others_ahead others_waiting : List Ask) (is : Beside osts past at t lock how others_granted others_ahead
    others_waiting) where
  of_target : (holds : Bool) → IsTrue holds ↔ GrantAt (asked_for osts t past at lock) lock (on lock.resource (granted t past))
      (on lock.resource (waiting t past)) → IsTrue holds ↔ GrantBy osts past at at.node lock
  of_target holds decided = subst (λ (n : Node). IsTrue holds ↔ GrantBy osts past at n lock) (sym is.node) decided

  pub granted_met : conflicts_with_any lock.ask others_granted ≡ true → IsTrue false ↔ GrantBy osts past at at.node lock
  granted_met met = of_target false (grant_taken _ lock (on lock.resource (granted t past)) (on lock.resource (waiting t past))
      (ap (conflicts_with_any lock.ask) (sym is.granted) ∙ met))

  pub ahead_met : conflicts_with_any lock.ask others_ahead ≡ true → IsTrue false ↔ GrantBy osts past at at.node lock
  ahead_met met = of_target false (grant_late _ lock (on lock.resource (granted t past)) (on lock.resource (waiting t past))
      (ap (conflicts_with_any lock.ask) (sym is.ahead) ∙ met))

  pub as_it_fits : (fits : Bool) → conflicts_with_any lock.ask others_granted ≡ false → conflicts_with_any lock.ask others_ahead ≡ false
      → (IsTrue fits ↔ IsAsked how lock others_granted others_waiting) → IsTrue fits ↔ GrantBy osts past at at.node lock
  as_it_fits fits free first decided =
      of_target fits
      (grant_decided (asked_for osts t past at lock) lock (on lock.resource (granted t past)) (on lock.resource (waiting t past)) fits
      (ap (conflicts_with_any lock.ask) (sym is.granted) ∙ free) (ap (conflicts_with_any lock.ask) (sym is.ahead) ∙ first)
      (subst (λ (a : Option Lock). IsTrue fits ↔ IsAsked a lock (asks (on lock.resource (granted t past)))
      (asks (without_first lock.cookie.0 (on lock.resource (waiting t past))))) is.asked
      (subst (λ (g : List Ask). IsTrue fits ↔ IsAsked how lock g (asks (without_first lock.cookie.0 (on lock.resource (waiting t past)))))
      is.granted
      (subst (λ (w : List Ask). IsTrue fits ↔ IsAsked how lock others_granted w) is.waiting decided))))

-- as it was asked for
pub asked_apart : (asked lock : Lock) (granted others : List Ask) → (lock.resource ≡ asked.resource → ⊥) → IsTrue false
    ↔ IsAsked (Some asked) lock granted others
asked_apart asked lock granted others apart = (λ no. absurd (false≢true no), λ so. absurd (apart so.resource))

pub asked_so : (asked lock : Lock) (granted others : List Ask) (same : Bool) → lock.resource ≡ asked.resource
    → (IsTrue same ↔ (lock.ask ≡ granted_ask asked.ask granted others)) → IsTrue same ↔ IsAsked (Some asked) lock granted others
asked_so asked lock granted others same resource is = (λ yes. record { resource = resource; grown = is.0 yes }, λ so. is.1 so.grown)

-- ---- how a lock was asked for

-- the turn of a target
the_turn : (at : At) (t : ℕ) → at.node ≡ Target t → at ≡ record { stamp = at.stamp; node = Target t }
the_turn at t is = ap (λ (n : Node). let a : At = record { stamp = at.stamp; node = n } in a) is

pub from_names : (osts : ℕ) (past : Past) (at : At) (lock : Lock) (asked : Option Lock) → at.node ≡ Target 0 → waits 0 lock.cookie.0 past
    ≡ None → asked ≡ find (is_for lock) (requested osts 0 past (names_turn at.stamp.0) lock.cookie) → asked ≡ asked_for osts 0 past at lock
from_names osts past at lock asked node none is =
    is ∙ ap (λ (a : At). find (is_for lock) (requested osts 0 past a lock.cookie)) (sym (the_turn at 0 node))
    ∙ ap (λ o. or_else o (find (is_for lock) (requested osts 0 past at lock.cookie))) (sym none)

pub from_request : (osts t : ℕ) (past : Past) (at : At) (lock : Lock) (asked : Option Lock) → waits t lock.cookie.0 past ≡ None → asked
    ≡ find (is_for lock) (requested osts t past at lock.cookie) → asked ≡ asked_for osts t past at lock
from_request osts t past at lock asked none is = is ∙ ap (λ o. or_else o (find (is_for lock) (requested osts t past at lock.cookie)))
    (sym none)

-- ---- at an object storage target

pub from_taken : (osts t : ℕ) (past : Past) (at : At) (cookie : Cookie) → (t ≡ 0 → ⊥) → requested osts t past at cookie
    ≡ enqueued t past cookie (taken past at)
from_taken osts zero past at cookie other = absurd (other refl)
from_taken osts (suc t) past at cookie other = refl

-- ---- lines of which the law asks nothing

abbrev pub is_judged : Entry → Bool
is_judged e = elim e [ Hold target cookie ↦ true | Grant lock ↦ true | Txn number who xid seen answer ↦ true | _ ↦ false ]

pub quiet_law : (osts : ℕ) (past : Past) (at : At) (e : Entry) → is_judged e ≡ false → IsTrue true ↔ LocksAt osts past at e
quiet_law osts past at (Hold target cookie) quiet = absurd (false≢true (sym quiet))
quiet_law osts past at (Grant lock) quiet = absurd (false≢true (sym quiet))
quiet_law osts past at (Txn number who xid seen answer) quiet = absurd (false≢true (sym quiet))
quiet_law osts past at _ quiet = (λ yes. tt, λ any. refl)
