-- What each entry about locks makes of what the queues show, resource by resource, whatever the queues are kept in.
use Rattle.std.proofs.Common.{◌≡◌, ℕ, ◌+◌, ◌≤◌, ◌==◌, ◌||◌, max, Bool, true, false, not, cond, Option, List, [], ◌∷◌, ◌++◌, filter, All}
use Rattle.std.proofs.Common.{IsPermutation, refl, sym, ◌∙◌, ap, subst, arith}
use Rattle.std.proofs.lemmas.Bool.Decides.{nat_tests}
use Rattle.std.proofs.lemmas.List.{map-append}
use Rattle.std.proofs.lemmas.List.Elements.{All-cons, All-push, All-filter, All-weaker, filter-append}
use Rattle.std.proofs.lemmas.List.Sorted.{IsPermutation-trans, IsPermutation-cons, IsPermutation-map, IsPermutation-to_front}
use Rattle.std.proofs.lemmas.List.Sorted.{All-permutation, sum_by-IsPermutation}
use Rattle.lu_base.specs.declared.ids.Who.{Who}
use Rattle.lu_base.specs.declared.locks.Lock.{Lock}
use Rattle.lu_base.specs.declared.locks.Resource.{Resource}
use Rattle.lu_msg.specs.declared.commits.Batch.{Batch}
use Rattle.lu_queue.specs.declared.locks.Grant.{Grant as Granted}
use Rattle.lu_queue.specs.Queues as queue
use Rattle.lu_queue.specs.Queues.{QueueState, other_than, without, without_lives, is_of, same_who}
use Rattle.lu_queue.proofs.Lists as lists
use Rattle.lu_lockspace.specs.Spaces.{same_resource, grant_of, has, times}
use Rattle.lu_lockspace.proofs.Places.{times-append}
use Rattle.lu_lockspace.proofs.Resources.{same_itself, same_is}
use Rattle.lu_spec_entries.specs.Carried.{Deed}
use Rattle.lu_spec_entries.specs.Words.{Grant, Wait, Release, Commit, same_life}
use Rattle.lu_spec_target.specs.Lives.{is_life}
use Rattle.lu_spec_target.specs.Locks.{with_lock, without_lock, locks_without}
use Rattle.lu_spec_target.specs.Replies.{locks_on}
use Rattle.lu_spec_target.specs.States.{Target, after}
use Rattle.lu_target_refines.specs.Locks.{grants_of, ShowsQueue}
use Rattle.lu_target_refines.proofs.LockOrders.{IsPermutation-filter}
use Rattle.lu_target_refines.proofs.LockLists.{times_more, times_other, no_times, none_has, some_times, times_filter, has_filter}
use Rattle.lu_target_refines.proofs.LockLists.{times_without, nothing_taken, filters_commute, grants_without, times_grants, one_taken}
use Rattle.lu_target_refines.proofs.LockLists.{Rises, rises_with, rises_filter, placed_among, on_itself, on_other, times_apart}

-- the queue of each resource
abbrev pub Queues : Type 0
Queues = Resource → QueueState

-- but for this resource they are the same
abbrev pub KeepsQueues : Resource → Queues → Queues → Type 0
KeepsQueues r queues next = (s : Resource) → same_resource r s ≡ false → next s ≡ queues s

-- one of them is another
abbrev pub put : Resource → QueueState → Queues → Queues
put r one queues s = cond (same_resource r s) one (queues s)

pub put_here : (r : Resource) (one : QueueState) (queues : Queues) → put r one queues r ≡ one
put_here r one queues = ap (λ b. cond b one (queues r)) (same_itself r)

pub put_keeps : (r : Resource) (one : QueueState) (queues : Queues) → KeepsQueues r queues (put r one queues)
put_keeps r one queues = λ s differ. ap (λ b. cond b one (queues s)) differ

-- what holds of the locks beside their queues
pub record Fits (v : Target) : Type 0 where
  pub rising : Rises v.granted
  pub granted : All (λ l. l.cookie.0 ≤ v.cookie) v.granted
  pub waiting : All (λ l. l.cookie.0 ≤ v.cookie) v.waiting
  pub once : (c : ℕ) → times c v.granted + times c v.waiting ≤ 1

-- these queues show the locks of a target
pub record Shows (queues : Queues) (v : Target) : Type 0 where
  pub each : (r : Resource) → ShowsQueue r (queues r) v
  pub fits : Fits v

-- ---- where nothing changes

pub fits_same : (v w : Target) → w.granted ≡ v.granted → w.waiting ≡ v.waiting → w.cookie ≡ v.cookie → Fits v → Fits w
fits_same v w granted waiting cookie fits = record {
  rising = subst Rises (sym granted) fits.rising;
  granted = subst (λ locks. All (λ l. l.cookie.0 ≤ w.cookie) locks) (sym granted)
      (subst (λ n. All (λ l. l.cookie.0 ≤ n) v.granted) (sym cookie) fits.granted);
  waiting = subst (λ locks. All (λ l. l.cookie.0 ≤ w.cookie) locks) (sym waiting)
      (subst (λ n. All (λ l. l.cookie.0 ≤ n) v.waiting) (sym cookie) fits.waiting);
  once = λ c. subst (λ locks. times c locks + times c w.waiting ≤ 1) (sym granted)
      (subst (λ locks. times c v.granted + times c locks ≤ 1) (sym waiting) (fits.once c));
}

pub queue_same : (r : Resource) (one : QueueState) (v w : Target) → w.granted ≡ v.granted → w.waiting ≡ v.waiting → ShowsQueue r one v
    → ShowsQueue r one w
queue_same r one v w granted waiting shows = record {
  granted = subst (λ locks. IsPermutation one.granted (grants_of (locks_on r locks))) (sym granted) shows.granted;
  waiting = shows.waiting ∙ ap (λ locks. grants_of (locks_on r locks)) (sym waiting);
}

pub shows_same : (queues : Queues) (v w : Target) → w.granted ≡ v.granted → w.waiting ≡ v.waiting → w.cookie ≡ v.cookie → Shows queues v
    → Shows queues w
shows_same queues v w granted waiting cookie shows = record {
  each = λ r. queue_same r (queues r) v w granted waiting (shows.each r);
  fits = fits_same v w granted waiting cookie shows.fits;
}

pub shows_queues : (queues next : Queues) (v : Target) → ((r : Resource) → next r ≡ queues r) → Shows queues v → Shows next v
shows_queues queues next v same shows = record {
  each = λ r. subst (λ one. ShowsQueue r one v) (sym (same r)) (shows.each r);
  fits = shows.fits;
}

-- where one queue is the same too, all are
pub all_same : (r : Resource) (queues next : Queues) → next r ≡ queues r → KeepsQueues r queues next → (s : Resource) → next s ≡ queues s
all_same r queues next here others s = by (same_resource r s) refl where
  by : (b : Bool) → same_resource r s ≡ b → next s ≡ queues s
  by true e = subst (λ k. next k ≡ queues k) (same_is r s e) here
  by false e = others s e

-- what is so of one resource and of all others is so of all
pub all_shown : (r : Resource) (queues : Queues) (v : Target) → ShowsQueue r (queues r) v
    → ((s : Resource) → same_resource r s ≡ false → ShowsQueue s (queues s) v) →
    (s : Resource) → ShowsQueue s (queues s) v
all_shown r queues v here others s = by (same_resource r s) refl where
  by : (b : Bool) → same_resource r s ≡ b → ShowsQueue s (queues s) v
  by true e = subst (λ k. ShowsQueue k (queues k) v) (same_is r s e) here
  by false e = others s e

-- ---- a granted lock more

with_granted : (g : Lock) (locks : List Lock) (order : List Granted) → has g.cookie.0 locks ≡ false
    → IsPermutation order (grants_of (locks_on g.resource locks)) →
    IsPermutation (order ++ grant_of g ∷ []) (grants_of (locks_on g.resource (with_lock g locks)))
with_granted g locks order new moved =
    let among : IsPermutation (locks_on g.resource (g ∷ locks)) (locks_on g.resource (with_lock g locks)) =
    IsPermutation-filter (λ l. same_resource l.resource g.resource) (g ∷ locks) (with_lock g locks) (placed_among g locks new) in
    let here : IsPermutation (g ∷ locks_on g.resource locks) (locks_on g.resource (with_lock g locks)) =
    subst (λ ls. IsPermutation ls (locks_on g.resource (with_lock g locks))) (on_itself g locks) among in
    let front : IsPermutation (order ++ grant_of g ∷ []) (grants_of (g ∷ locks_on g.resource locks)) =
    IsPermutation-trans (order ++ grant_of g ∷ []) (grant_of g ∷ order) (grants_of (g ∷ locks_on g.resource locks))
    (IsPermutation-to_front order (grant_of g)) (IsPermutation-cons (grant_of g) order (grants_of (locks_on g.resource locks)) moved) in
    IsPermutation-trans (order ++ grant_of g ∷ []) (grants_of (g ∷ locks_on g.resource locks))
    (grants_of (locks_on g.resource (with_lock g locks)))
    front (IsPermutation-map grant_of (g ∷ locks_on g.resource locks) (locks_on g.resource (with_lock g locks)) here)

still_granted : (g : Lock) (r : Resource) (locks : List Lock) (order : List Granted) → same_resource g.resource r ≡ false
    → has g.cookie.0 locks ≡ false →
    IsPermutation order (grants_of (locks_on r locks)) → IsPermutation order (grants_of (locks_on r (with_lock g locks)))
still_granted g r locks order differ new moved =
    let among : IsPermutation (locks_on r (g ∷ locks)) (locks_on r (with_lock g locks)) =
    IsPermutation-filter (λ l. same_resource l.resource r) (g ∷ locks) (with_lock g locks) (placed_among g locks new) in
    let here : IsPermutation (locks_on r locks) (locks_on r (with_lock g locks)) =
    subst (λ ls. IsPermutation ls (locks_on r (with_lock g locks))) (on_other r g locks differ) among in
    IsPermutation-trans order (grants_of (locks_on r locks)) (grants_of (locks_on r (with_lock g locks)))
    moved (IsPermutation-map grant_of (locks_on r locks) (locks_on r (with_lock g locks)) here)

-- no cookie is above the greatest one still, where that is another
higher : (n m : ℕ) (locks : List Lock) → n ≤ m → All (λ l. l.cookie.0 ≤ n) locks → All (λ l. l.cookie.0 ≤ m) locks
higher n m locks less all = All-weaker (λ l. l.cookie.0 ≤ n) (λ l. l.cookie.0 ≤ m) (λ l low. omega (arith, low, less)) locks all

times_with : (c : ℕ) (g : Lock) (locks : List Lock) → has g.cookie.0 locks ≡ false → times c (with_lock g locks)
    ≡ times c (g ∷ []) + times c locks
times_with c g locks new =
    sum_by-IsPermutation (λ (l : Lock). cond (l.cookie.0 == c) 1 0) (g ∷ locks) (with_lock g locks) (placed_among g locks new)
    ∙ times_more c g locks

fits_granted : (v : Target) (g : Lock) (asked : Option Deed) → has g.cookie.0 v.granted ≡ false → Fits v → Fits (after v (Grant g asked))
fits_granted v g asked new fits = record {
  rising = rises_with g v.granted fits.rising;
  granted = All-permutation (λ l. l.cookie.0 ≤ max v.cookie g.cookie.0) (g ∷ v.granted) (with_lock g v.granted)
      (placed_among g v.granted new)
      (All-cons (λ l. l.cookie.0 ≤ max v.cookie g.cookie.0) g v.granted (omega arith)
      (higher v.cookie (max v.cookie g.cookie.0) v.granted (omega arith) fits.granted));
  waiting = All-filter (λ k. not (k.cookie.0 == g.cookie.0)) (λ l. l.cookie.0 ≤ max v.cookie g.cookie.0) v.waiting
      (higher v.cookie (max v.cookie g.cookie.0) v.waiting (omega arith) fits.waiting);
  once = λ c. by c (g.cookie.0 == c) refl;
}
  where
    by : (c : ℕ) (here : Bool) → (g.cookie.0 == c) ≡ here → times c (with_lock g v.granted) + times c (without_lock g v.waiting) ≤ 1
    by c true e =
        let same : g.cookie.0 ≡ c = grind (arith, nat_tests, e) in
        let all = times_with c g v.granted new in
        let one : times c (g ∷ []) ≡ 1 = rw e refl in
        let none : times c v.granted ≡ 0 = no_times c v.granted (subst (λ k. has k v.granted ≡ false) same new) in
        let away : times c (without_lock g v.waiting) ≡ 0 = subst (λ k. times k (without_lock g v.waiting) ≡ 0) same
        (times_without g.cookie.0 v.waiting) in
        omega (arith, all, one, none, away)
    by c false e =
        let all = times_with c g v.granted new in
        let one = times_other c g e in
        let few = times_filter c (λ k. not (k.cookie.0 == g.cookie.0)) v.waiting in
        let most = fits.once c in
        omega (arith, all, one, few, most)

-- a lock that waited is granted

-- its cookie is nowhere else
waits_once : (queues : Queues) (v : Target) (r : Resource) (ahead : List Granted) (lock : Granted) (behind : List Granted) → Shows queues v
    →
    (queues r).waiting ≡ ahead ++ lock ∷ behind →
    (times lock.cookie.0 v.granted ≡ 0) × (times lock.cookie.0 (locks_on r v.waiting) ≡ 1)
    × (queue.times lock.cookie.0 (ahead ++ lock ∷ behind) ≡ 1) × (times lock.cookie.0 v.waiting ≡ 1)
waits_once queues v r ahead lock behind shows is =
    let c = lock.cookie.0 in
    let here : (lock.cookie.0 == lock.cookie.0) ≡ true = grind (arith, nat_tests) in
    let one : queue.times c (lock ∷ []) ≡ 1 = rw here refl in
    let a = lists.times-append c ahead (lock ∷ behind) in
    let b = lists.times-append c (lock ∷ []) behind in
    let same : queue.times c (ahead ++ lock ∷ behind) ≡ times c (locks_on r v.waiting) =
    ap (queue.times c) (sym is ∙ (shows.each r).waiting) ∙ times_grants c (locks_on r v.waiting) in
    let few = times_filter c (λ l. same_resource l.resource r) v.waiting in
    let most = shows.fits.once c in (
      omega (arith, one, a, b, same, few, most),
      omega (arith, one, a, b, same, few, most),
      omega (arith, one, a, b, same, few, most),
      omega (arith, one, a, b, same, few, most),
    )

-- what is taken out of the waiting locks of its resource, and of another
taken_here : (c : ℕ) (r : Resource) (locks : List Lock) → grants_of (locks_on r (filter (λ k. not (k.cookie.0 == c)) locks))
    ≡ other_than c (grants_of (locks_on r locks))
taken_here c r locks =
    ap grants_of (filters_commute (λ l. same_resource l.resource r) (λ k. not (k.cookie.0 == c)) locks)
    ∙ grants_without c (locks_on r locks)

taken_elsewhere : (c : ℕ) (r s : Resource) (locks : List Lock) → same_resource r s ≡ false → 1 ≤ times c (locks_on r locks)
    → times c locks ≤ 1 →
    locks_on s (filter (λ k. not (k.cookie.0 == c)) locks) ≡ locks_on s locks
taken_elsewhere c r s locks differ some most =
    let both = times_apart c r s differ locks in
    let none : has c (locks_on s locks) ≡ false = none_has c (locks_on s locks) (omega (arith, both, some, most)) in
    filters_commute (λ l. same_resource l.resource s) (λ k. not (k.cookie.0 == c)) locks ∙ nothing_taken c (locks_on s locks) none

pub shows_granted : (queues next : Queues) (v : Target) (g : Lock) (asked : Option Deed) (ahead : List Granted) (lock : Granted)
    (behind : List Granted) →
    Shows queues v → (queues g.resource).waiting ≡ ahead ++ lock ∷ behind → lock.cookie ≡ g.cookie →
    next g.resource ≡ record { granted = (queues g.resource).granted ++ grant_of g ∷ []; waiting = ahead ++ behind }
    → KeepsQueues g.resource queues next →
    Shows next (after v (Grant g asked))
shows_granted queues next v g asked ahead lock behind shows is same placed others = record {
  each = all_shown g.resource next (after v (Grant g asked)) here elsewhere;
  fits = fits_granted v g asked new shows.fits;
}
  where
    c : ℕ
    c = g.cookie.0

    alone : (times c v.granted ≡ 0) × (times c (locks_on g.resource v.waiting) ≡ 1) × (queue.times c (ahead ++ lock ∷ behind) ≡ 1)
        × (times c v.waiting ≡ 1)
    alone =
        subst
        (λ k. (times k.0 v.granted ≡ 0) × (times k.0 (locks_on g.resource v.waiting) ≡ 1) × (queue.times k.0 (ahead ++ lock ∷ behind) ≡ 1)
        × (times k.0 v.waiting ≡ 1))
        same (waits_once queues v g.resource ahead lock behind shows is)

    new : has c v.granted ≡ false
    new = none_has c v.granted alone.0

    left : other_than c (ahead ++ lock ∷ behind) ≡ ahead ++ behind
    left =
        let most : queue.times lock.cookie.0 (ahead ++ lock ∷ behind) ≤ 1 =
        subst (λ k. queue.times k.0 (ahead ++ lock ∷ behind) ≤ 1) (sym same) (let e = alone.2 in omega (arith, e)) in
        subst (λ k. other_than k.0 (ahead ++ lock ∷ behind) ≡ ahead ++ behind) same (one_taken ahead lock behind most)

    waiting : ahead ++ behind ≡ grants_of (locks_on g.resource (without_lock g v.waiting))
    waiting = sym (taken_here c g.resource v.waiting ∙ ap (other_than c) (sym (shows.each g.resource).waiting ∙ is) ∙ left)

    here : ShowsQueue g.resource (next g.resource) (after v (Grant g asked))
    here = subst (λ one. ShowsQueue g.resource one (after v (Grant g asked))) (sym placed) (record {
      granted = with_granted g v.granted (queues g.resource).granted new (shows.each g.resource).granted;
      waiting = waiting;
    })

    elsewhere : (s : Resource) → same_resource g.resource s ≡ false → ShowsQueue s (next s) (after v (Grant g asked))
    elsewhere s differ = subst (λ one. ShowsQueue s one (after v (Grant g asked))) (sym (others s differ)) (record {
      granted = still_granted g s v.granted (queues s).granted differ new (shows.each s).granted;
      waiting = (shows.each s).waiting ∙ ap grants_of (sym (taken_elsewhere c g.resource s v.waiting differ
          (let e = alone.1 in omega (arith, e)) (let e = alone.3 in omega (arith, e))));
    })

-- a new lock is granted at once

-- a cookie that is nowhere is in no queue
stays : (g : Lock) (locks : List Lock) → has g.cookie.0 locks ≡ false → without_lock g locks ≡ locks
stays g locks none = nothing_taken g.cookie.0 locks none

pub shows_new : (queues next : Queues) (v : Target) (g : Lock) (asked : Option Deed) → Shows queues v → has g.cookie.0 v.granted ≡ false
    → has g.cookie.0 v.waiting ≡ false →
    next g.resource ≡ record { granted = (queues g.resource).granted ++ grant_of g ∷ []; waiting = (queues g.resource).waiting }
    → KeepsQueues g.resource queues next →
    Shows next (after v (Grant g asked))
shows_new queues next v g asked shows new quiet placed others = record {
  each = all_shown g.resource next (after v (Grant g asked)) here elsewhere;
  fits = fits_granted v g asked new shows.fits;
}
  where
    waiting : (s : Resource) → (queues s).waiting ≡ grants_of (locks_on s (without_lock g v.waiting))
    waiting s = (shows.each s).waiting ∙ ap (λ locks. grants_of (locks_on s locks)) (sym (stays g v.waiting quiet))

    here : ShowsQueue g.resource (next g.resource) (after v (Grant g asked))
    here = subst (λ one. ShowsQueue g.resource one (after v (Grant g asked))) (sym placed) (record {
      granted = with_granted g v.granted (queues g.resource).granted new (shows.each g.resource).granted;
      waiting = waiting g.resource;
    })

    elsewhere : (s : Resource) → same_resource g.resource s ≡ false → ShowsQueue s (next s) (after v (Grant g asked))
    elsewhere s differ = subst (λ one. ShowsQueue s one (after v (Grant g asked))) (sym (others s differ)) (record {
      granted = still_granted g s v.granted (queues s).granted differ new (shows.each s).granted;
      waiting = waiting s;
    })

-- ---- a new lock waits

fits_waiting : (v : Target) (l : Lock) (asked : Deed) → has l.cookie.0 v.granted ≡ false → has l.cookie.0 v.waiting ≡ false → Fits v
    → Fits (after v (Wait l asked))
fits_waiting v l asked new quiet fits = record {
  rising = fits.rising;
  granted = higher v.cookie (max v.cookie l.cookie.0) v.granted (omega arith) fits.granted;
  waiting = All-push (λ k. k.cookie.0 ≤ max v.cookie l.cookie.0) v.waiting l
      (higher v.cookie (max v.cookie l.cookie.0) v.waiting (omega arith) fits.waiting) (omega arith);
  once = λ c. by c (l.cookie.0 == c) refl;
}
  where
    by : (c : ℕ) (here : Bool) → (l.cookie.0 == c) ≡ here → times c v.granted + times c (v.waiting ++ l ∷ []) ≤ 1
    by c true e =
        let same : l.cookie.0 ≡ c = grind (arith, nat_tests, e) in
        let all = times-append c v.waiting (l ∷ []) in
        let one : times c (l ∷ []) ≡ 1 = rw e refl in
        let a : times c v.granted ≡ 0 = no_times c v.granted (subst (λ k. has k v.granted ≡ false) same new) in
        let b : times c v.waiting ≡ 0 = no_times c v.waiting (subst (λ k. has k v.waiting ≡ false) same quiet) in
        omega (arith, all, one, a, b)
    by c false e =
        let all = times-append c v.waiting (l ∷ []) in
        let one = times_other c l e in
        let most = fits.once c in
        omega (arith, all, one, most)

pub shows_waiting : (queues next : Queues) (v : Target) (l : Lock) (asked : Deed) → Shows queues v → has l.cookie.0 v.granted ≡ false
    → has l.cookie.0 v.waiting ≡ false →
    next l.resource ≡ record { granted = (queues l.resource).granted; waiting = (queues l.resource).waiting ++ grant_of l ∷ [] }
    → KeepsQueues l.resource queues next →
    Shows next (after v (Wait l asked))
shows_waiting queues next v l asked shows new quiet placed others = record {
  each = all_shown l.resource next (after v (Wait l asked)) here elsewhere;
  fits = fits_waiting v l asked new quiet shows.fits;
}
  where
    more : (s : Resource) → locks_on s (v.waiting ++ l ∷ []) ≡ locks_on s v.waiting ++ locks_on s (l ∷ [])
    more s = filter-append (λ k. same_resource k.resource s) v.waiting (l ∷ [])

    last : grants_of (locks_on l.resource v.waiting) ++ grant_of l ∷ [] ≡ grants_of (locks_on l.resource (v.waiting ++ l ∷ []))
    last = sym (ap grants_of (more l.resource ∙ ap (λ ls. locks_on l.resource v.waiting ++ ls) (on_itself l []))
        ∙ map-append grant_of (locks_on l.resource v.waiting) (l ∷ []))

    here : ShowsQueue l.resource (next l.resource) (after v (Wait l asked))
    here = subst (λ one. ShowsQueue l.resource one (after v (Wait l asked))) (sym placed) (record {
      granted = (shows.each l.resource).granted;
      waiting = ap (λ gs. gs ++ grant_of l ∷ []) (shows.each l.resource).waiting ∙ last;
    })

    kept : (s : Resource) → same_resource l.resource s ≡ false → grants_of (locks_on s v.waiting)
        ≡ grants_of (locks_on s (v.waiting ++ l ∷ []))
    kept s differ = sym (ap grants_of (more s ∙ ap (λ ls. locks_on s v.waiting ++ ls) (on_other s l [] differ))
        ∙ map-append grant_of (locks_on s v.waiting) [] ∙ nil_after (grants_of (locks_on s v.waiting))) where
          nil_after : (gs : List Granted) → gs ++ [] ≡ gs
          nil_after [] = refl
          nil_after (g ∷ gs) = ap (λ more. g ∷ more) (nil_after gs)

    elsewhere : (s : Resource) → same_resource l.resource s ≡ false → ShowsQueue s (next s) (after v (Wait l asked))
    elsewhere s differ = subst (λ one. ShowsQueue s one (after v (Wait l asked))) (sym (others s differ)) (record {
      granted = (shows.each s).granted;
      waiting = (shows.each s).waiting ∙ kept s differ;
    })

-- ---- a granted lock is released

fits_released : (v : Target) (l : Lock) → Fits v → Fits (after v (Release l))
fits_released v l fits = record {
  rising = rises_filter (λ k. not (k.cookie.0 == l.cookie.0)) v.granted fits.rising;
  granted = All-filter (λ k. not (k.cookie.0 == l.cookie.0)) (λ k. k.cookie.0 ≤ v.cookie) v.granted fits.granted;
  waiting = fits.waiting;
  once = λ c.
      let few = times_filter c (λ k. not (k.cookie.0 == l.cookie.0)) v.granted in
      let most = fits.once c in
      omega (arith, few, most);
}

pub shows_released : (queues next : Queues) (v : Target) (l : Lock) → Shows queues v → has l.cookie.0 (locks_on l.resource v.granted) ≡ true
    →
    next l.resource ≡ without l.cookie.0 (queues l.resource) → KeepsQueues l.resource queues next → Shows next (after v (Release l))
shows_released queues next v l shows there gone others = record {
  each = all_shown l.resource next (after v (Release l)) here elsewhere;
  fits = fits_released v l shows.fits;
}
  where
    c : ℕ
    c = l.cookie.0

    some : 1 ≤ times c (locks_on l.resource v.granted)
    some = some_times c (locks_on l.resource v.granted) there

    few : times c (locks_on l.resource v.granted) ≤ times c v.granted
    few = times_filter c (λ k. same_resource k.resource l.resource) v.granted

    quiet : has c v.waiting ≡ false
    quiet = let most = shows.fits.once c in none_has c v.waiting (omega (arith, some, few, most))

    granted : IsPermutation (other_than c (queues l.resource).granted) (grants_of (locks_on l.resource (without_lock l v.granted)))
    granted =
        subst (IsPermutation (other_than c (queues l.resource).granted)) (sym (taken_here c l.resource v.granted))
        (IsPermutation-filter (λ g. not (g.cookie.0 == c)) (queues l.resource).granted (grants_of (locks_on l.resource v.granted))
        (shows.each l.resource).granted)

    waiting : other_than c (queues l.resource).waiting ≡ grants_of (locks_on l.resource v.waiting)
    waiting =
        ap (other_than c) (shows.each l.resource).waiting ∙ sym (grants_without c (locks_on l.resource v.waiting))
        ∙ ap grants_of (nothing_taken c (locks_on l.resource v.waiting)
        (has_filter c (λ k. same_resource k.resource l.resource) v.waiting quiet))

    here : ShowsQueue l.resource (next l.resource) (after v (Release l))
    here = subst (λ one. ShowsQueue l.resource one (after v (Release l))) (sym gone) (record { granted = granted; waiting = waiting })

    elsewhere : (s : Resource) → same_resource l.resource s ≡ false → ShowsQueue s (next s) (after v (Release l))
    elsewhere s differ =
        let most = shows.fits.once c in
        let same : locks_on s (without_lock l v.granted) ≡ locks_on s v.granted =
        taken_elsewhere c l.resource s v.granted differ some (omega (arith, most)) in
        subst (λ one. ShowsQueue s one (after v (Release l))) (sym (others s differ)) (record {
          granted = subst (λ ls. IsPermutation (queues s).granted (grants_of ls)) (sym same) (shows.each s).granted;
          waiting = (shows.each s).waiting;
        })

-- ---- the locks of lives that leave

life_test : (lives : List Who) (l : Lock) → is_life l.ask.who lives ≡ is_of lives (grant_of l)
life_test [] l = refl
life_test (who ∷ lives) l =
    let same : same_life l.ask.who who ≡ same_who who l.ask.who = grind (arith, nat_tests) in
    λ i. same i || life_test lives l i

pub grants_left : (lives : List Who) (locks : List Lock) → filter (λ g. not (is_of lives g)) (grants_of locks)
    ≡ grants_of (locks_without lives locks)
grants_left lives [] = refl
grants_left lives (l ∷ locks) = by (is_of lives (grant_of l)) refl (grants_left lives locks) where
  by : (v : Bool) → is_of lives (grant_of l) ≡ v → filter (λ g. not (is_of lives g)) (grants_of locks)
      ≡ grants_of (locks_without lives locks) →
      cond (not v) (grant_of l ∷ filter (λ g. not (is_of lives g)) (grants_of locks)) (filter (λ g. not (is_of lives g)) (grants_of locks))
      ≡ grants_of (locks_without lives (l ∷ locks))
  by true e rest = rest ∙ ap (λ b. grants_of (cond (not b) (l ∷ locks_without lives locks) (locks_without lives locks)))
      (sym (life_test lives l ∙ e))
  by false e rest =
      ap (λ gs. grant_of l ∷ gs) rest ∙ ap (λ b. grants_of (cond (not b) (l ∷ locks_without lives locks) (locks_without lives locks)))
      (sym (life_test lives l ∙ e))

-- what is left of one resource
left_on : (lives : List Who) (r : Resource) (locks : List Lock) → filter (λ g. not (is_of lives g)) (grants_of (locks_on r locks))
    ≡ grants_of (locks_on r (locks_without lives locks))
left_on lives r locks =
    grants_left lives (locks_on r locks)
    ∙ ap grants_of (filters_commute (λ k. not (is_life k.ask.who lives)) (λ l. same_resource l.resource r) locks)

fits_gone : (v : Target) (to : ℕ) (batch : Batch) → Fits v → Fits (after v (Commit to batch))
fits_gone v to batch fits = record {
  rising = rises_filter (λ k. not (is_life k.ask.who batch.removed)) v.granted fits.rising;
  granted = All-filter (λ k. not (is_life k.ask.who batch.removed)) (λ k. k.cookie.0 ≤ v.cookie) v.granted fits.granted;
  waiting = All-filter (λ k. not (is_life k.ask.who batch.removed)) (λ k. k.cookie.0 ≤ v.cookie) v.waiting fits.waiting;
  once = λ c.
      let a = times_filter c (λ k. not (is_life k.ask.who batch.removed)) v.granted in
      let b = times_filter c (λ k. not (is_life k.ask.who batch.removed)) v.waiting in
      let most = fits.once c in
      omega (arith, a, b, most);
}

pub shows_gone : (queues : Queues) (v : Target) (to : ℕ) (batch : Batch) → Shows queues v
    → Shows (λ r. without_lives batch.removed (queues r)) (after v (Commit to batch))
shows_gone queues v to batch shows = record {
  each = λ r. record {
    granted = subst (IsPermutation (filter (λ g. not (is_of batch.removed g)) (queues r).granted)) (left_on batch.removed r v.granted)
        (IsPermutation-filter (λ g. not (is_of batch.removed g)) (queues r).granted (grants_of (locks_on r v.granted))
        (shows.each r).granted);
    waiting = ap (filter (λ g. not (is_of batch.removed g))) (shows.each r).waiting ∙ left_on batch.removed r v.waiting;
  };
  fits = fits_gone v to batch shows.fits;
}
