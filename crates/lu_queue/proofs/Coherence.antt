-- What holds of a queue still holds after each call.
use Rattle.std.proofs.Common.{◌≡◌, ℕ, zero, suc, ◌<◌, ◌==◌, Bool, true, false, not, List, [], ◌∷◌, ◌++◌, length, filter, All, AllPairs}
use Rattle.std.proofs.Common.{get_or, refl, sym, ◌∙◌, ap, subst, arith}
use Rattle.std.proofs.lemmas.List.{append_assoc, length-append}
use Rattle.std.proofs.lemmas.List.Folds.{list_any-append}
use Rattle.std.proofs.Math.Seq.{get_or-append_seam}
use Rattle.std.proofs.lemmas.List.Quantifiers.{all_pairs_push}
use Rattle.std.proofs.lemmas.List.Kept.{AllPairs-filter}
use Rattle.std.proofs.lemmas.List.Elements.{All-filter, All-push}
use Rattle.lu_lock.specs.Overlap.{IsOrdered}
use Rattle.lu_lock.specs.Conflict.{conflict}
use Rattle.lu_lock.proofs.ConflictLaws.{conflict_symmetric}
use Rattle.lu_lock.proofs.GrowthLaws.{granted_apart}
use Rattle.lu_queue.specs.declared.locks.Grant.{Grant}
use Rattle.lu_queue.specs.Queues.{QueueState, asks, has, times, IsOnce, is_in, conflicts, has_to_wait, as_granted, IsGranted, AreGranted}
use Rattle.lu_queue.specs.Queues.{without, IsCoherent, IsQueue}
use Rattle.lu_queue.proofs.Lists.{or_false, times-append, times_of_filter, once_with, conflicts-asks, no_conflict_at}
use Rattle.lu_queue.proofs.Waits.{all_wait_more, all_wait_push}

abbrev Apart : Grant → Grant → Type 0
Apart a b = conflict a.ask b.ask ≡ false

-- one more granted lock that conflicts with none
apart_with : (granted : List Grant) (grant : Grant) → AllPairs Apart granted → conflicts grant.ask granted ≡ false
    → AllPairs Apart (granted ++ grant ∷ [])
apart_with granted grant apart none =
    all_pairs_push Apart granted grant apart (λ place d below. conflict_symmetric (get_or granted place d).ask grant.ask
    ∙ no_conflict_at grant.ask granted none place d below)

-- a lock that conflicts with no granted one conflicts with none as it is granted
grown_apart : (lock : Grant) (granted waiting : List Grant) → IsOrdered lock.ask.policy → conflicts lock.ask granted ≡ false →
    conflicts (as_granted lock granted waiting).ask granted ≡ false
grown_apart lock granted waiting ordered none =
    conflicts-asks (as_granted lock granted waiting).ask granted
    ∙ (granted_apart lock.ask (asks granted) (asks waiting) ordered).0 (sym (conflicts-asks lock.ask granted) ∙ none)

-- the order of locks doesn't matter
once_moved : (granted ahead behind : List Grant) (lock grant : Grant) → grant.cookie ≡ lock.cookie →
    IsOnce (granted ++ (ahead ++ lock ∷ behind)) → IsOnce ((granted ++ grant ∷ []) ++ (ahead ++ behind))
once_moved granted ahead behind lock grant same once = λ cookie.
    let a = times-append cookie granted (ahead ++ lock ∷ behind) in
    let b = times-append cookie ahead (lock ∷ behind) in
    let c = times-append cookie (lock ∷ []) behind in
    let d = times-append cookie (granted ++ grant ∷ []) (ahead ++ behind) in
    let e = times-append cookie granted (grant ∷ []) in
    let f = times-append cookie ahead behind in
    let g : times cookie (grant ∷ []) ≡ times cookie (lock ∷ []) = rw same refl in
    let most = once cookie in
    omega arith

-- one of many, and the others
All-middle : (P : Grant → Type 0) (ahead : List Grant) (x : Grant) (behind : List Grant) → All P (ahead ++ x ∷ behind) → P x
All-middle P ahead x behind all =
    let count = length-append ahead (x ∷ behind) in
    subst P (get_or-append_seam ahead x behind x) (all (length ahead) x (omega arith))

All-without : (P : Grant → Type 0) (ahead : List Grant) (x : Grant) (behind : List Grant) → All P (ahead ++ x ∷ behind)
    → All P (ahead ++ behind)
All-without P [] x behind all = λ place d within. all (suc place) d (omega arith)
All-without P (a ∷ ahead) x behind all = λ place d within.
    by place d within (All-without P ahead x behind (λ k e below. all (suc k) e (omega arith))) where
      by : (place : ℕ) (d : Grant) → place < length (a ∷ (ahead ++ behind)) → All P (ahead ++ behind)
          → P (get_or (a ∷ (ahead ++ behind)) place d)
      by zero d within rest = all zero d (omega arith)
      by (suc place) d within rest = rest place d (omega arith)

abbrev Ordered : Grant → Type 0
Ordered lock = IsOrdered lock.ask.policy

pub coherent_granted : (before : QueueState) (grant : Grant) (after : QueueState) → IsCoherent before → IsGranted before grant after
    → IsCoherent after
coherent_granted before grant after coherent step =
    let all : All Ordered (step.ahead ++ step.lock ∷ step.behind) = subst (All Ordered) step.waiting coherent.ordered in
    let asked : IsOrdered step.lock.ask.policy = All-middle Ordered step.ahead step.lock step.behind all in
    let none : conflicts step.lock.ask before.granted ≡ false = (or_false _ _ step.free).0 in
    let free : conflicts grant.ask before.granted ≡ false =
    rw step.grown (grown_apart step.lock before.granted (step.ahead ++ step.behind) asked none) in
    let once : IsOnce (before.granted ++ (step.ahead ++ step.lock ∷ step.behind)) =
    subst (λ waiting. IsOnce (before.granted ++ waiting)) step.waiting coherent.once in
    subst IsCoherent (sym step.left) (record {
      apart = apart_with before.granted grant coherent.apart free;
      once = once_moved before.granted step.ahead step.behind step.lock grant (ap (λ (g : Grant). g.cookie) step.grown) once;
      ordered = All-without Ordered step.ahead step.lock step.behind all;
    })

pub queue_granted : (grants : List Grant) (before after : QueueState) → IsCoherent before → AreGranted before grants after → IsQueue after
queue_granted [] before after coherent (same, stuck) = subst IsQueue (sym same) (record { coherent = coherent; stuck = stuck })
queue_granted (grant ∷ grants) before after coherent (next, step, rest) =
    queue_granted grants next after (coherent_granted before grant next coherent step) rest

-- ---- one lock more

-- a cookie that isn't in the queue is new to both lists together
new_to_both : (cookie : ℕ) (queue : QueueState) → is_in cookie queue ≡ false → has cookie (queue.granted ++ queue.waiting) ≡ false
new_to_both cookie queue new = list_any-append (λ lock. lock.cookie.0 == cookie) queue.granted queue.waiting ∙ new

once_among : (granted waiting : List Grant) (lock grant : Grant) → grant.cookie ≡ lock.cookie →
    IsOnce ((granted ++ waiting) ++ lock ∷ []) → IsOnce ((granted ++ grant ∷ []) ++ waiting)
once_among granted waiting lock grant same once = λ cookie.
    let a = times-append cookie (granted ++ waiting) (lock ∷ []) in
    let b = times-append cookie granted waiting in
    let c = times-append cookie (granted ++ grant ∷ []) waiting in
    let d = times-append cookie granted (grant ∷ []) in
    let e : times cookie (grant ∷ []) ≡ times cookie (lock ∷ []) = rw same refl in
    let most = once cookie in
    omega arith

pub queue_waits : (queue : QueueState) (lock : Grant) → IsQueue queue → is_in lock.cookie.0 queue ≡ false → IsOrdered lock.ask.policy →
    has_to_wait lock.ask queue.granted queue.waiting ≡ true →
    IsQueue (record { granted = queue.granted; waiting = queue.waiting ++ lock ∷ [] })
queue_waits queue lock lawful new ordered waits =
    let coherent = lawful.coherent in
    let once = once_with (queue.granted ++ queue.waiting) lock coherent.once (new_to_both lock.cookie.0 queue new) in
    record {
      coherent = record {
        apart = coherent.apart;
        once = subst IsOnce (append_assoc queue.granted queue.waiting (lock ∷ [])) once;
        ordered = All-push Ordered queue.waiting lock coherent.ordered ordered;
      };
      stuck = all_wait_push queue.granted queue.waiting lock lawful.stuck waits;
    }

pub queue_with : (queue : QueueState) (lock grant : Grant) → IsQueue queue → is_in lock.cookie.0 queue ≡ false → grant.cookie ≡ lock.cookie
    →
    conflicts grant.ask queue.granted ≡ false → IsQueue (record { granted = queue.granted ++ grant ∷ []; waiting = queue.waiting })
queue_with queue lock grant lawful new same none =
    let coherent = lawful.coherent in
    let once = once_with (queue.granted ++ queue.waiting) lock coherent.once (new_to_both lock.cookie.0 queue new) in
    record {
      coherent = record {
        apart = apart_with queue.granted grant coherent.apart none;
        once = once_among queue.granted queue.waiting lock grant same once;
        ordered = coherent.ordered;
      };
      stuck = all_wait_more queue.granted (grant ∷ []) queue.waiting lawful.stuck;
    }

pub queue_grants : (queue : QueueState) (lock : Grant) → IsQueue queue → is_in lock.cookie.0 queue ≡ false → IsOrdered lock.ask.policy →
    has_to_wait lock.ask queue.granted queue.waiting ≡ false →
    IsQueue (record { granted = queue.granted ++ as_granted lock queue.granted queue.waiting ∷ []; waiting = queue.waiting })
queue_grants queue lock lawful new ordered free =
    queue_with queue lock (as_granted lock queue.granted queue.waiting) lawful new refl
    (grown_apart lock queue.granted queue.waiting ordered (or_false _ _ free).0)

-- ---- one lock less

pub coherent_without : (cookie : ℕ) (queue : QueueState) → IsQueue queue → IsCoherent (without cookie queue)
coherent_without cookie queue lawful =
    let coherent = lawful.coherent in
    let other : Grant → Bool = λ lock. not (lock.cookie.0 == cookie) in
    record {
      apart = AllPairs-filter Apart other queue.granted coherent.apart;
      once = λ c.
          let a = times-append c (filter other queue.granted) (filter other queue.waiting) in
          let b = times-append c queue.granted queue.waiting in
          let d = times_of_filter c other queue.granted in
          let e = times_of_filter c other queue.waiting in
          let most = coherent.once c in
          omega arith;
      ordered = All-filter other Ordered queue.waiting coherent.ordered;
    }

-- the locks that pass a test
pub coherent_filtered : (test : Grant → Bool) (queue : QueueState) → IsQueue queue
    → IsCoherent (record { granted = filter test queue.granted; waiting = filter test queue.waiting })
coherent_filtered test queue lawful =
    let coherent = lawful.coherent in
    record {
      apart = AllPairs-filter Apart test queue.granted coherent.apart;
      once = λ cookie.
          let a = times-append cookie (filter test queue.granted) (filter test queue.waiting) in
          let b = times-append cookie queue.granted queue.waiting in
          let d = times_of_filter cookie test queue.granted in
          let e = times_of_filter cookie test queue.waiting in
          let most = coherent.once cookie in
          omega arith;
      ordered = All-filter test Ordered queue.waiting coherent.ordered;
    }
