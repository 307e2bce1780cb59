-- The calls of a lockspace beside the rows: a lock is asked for, a granted one is released, and what is granted then.
use Rattle.std.proofs.Common.{◌≡◌, ℕ, ◌+◌, ◌≤◌, ◌==◌, ◌||◌, ◌&&◌, Bool, true, false, cond, Option, Some, None, List, [], ◌∷◌, ◌++◌, refl}
use Rattle.std.proofs.Common.{sym, ◌∙◌, ap, subst, arith}
use Rattle.std.specs.Prelude.{if◌then◌else◌}
use Rattle.std.specs.Option.{option_map}
use Rattle.std.proofs.lemmas.Bool.Decides.{nat_tests}
use Rattle.std.proofs.lemmas.List.Sorted.{sum_by-IsPermutation, list_any-IsPermutation}
use Rattle.lu_base.specs.declared.ids.At.{At}
use Rattle.lu_base.specs.declared.ids.Cookie.{Cookie}
use Rattle.lu_base.specs.declared.ids.Who.{Who}
use Rattle.lu_base.specs.declared.locks.Lock.{Lock}
use Rattle.lu_base.specs.declared.locks.Resource.{Resource}
use Rattle.lu_held.proofs.Lists.{some_is}
use Rattle.lu_msg.specs.declared.answers.Answer.TheVariants as told
use Rattle.lu_msg.specs.declared.messages.Request.{Request as RequestOf}
use Rattle.lu_queue.specs.declared.locks.Grant.{Grant as Granted}
use Rattle.lu_queue.specs.declared.locks.Placed.{Placed}
use Rattle.lu_queue.specs.declared.locks.Placed.TheVariants as placed
use Rattle.lu_queue.specs.Queues as queue
use Rattle.lu_queue.specs.Queues.{QueueState, with_lock, without, as_granted, AreGranted}
use Rattle.lu_queue.proofs.Lists as lists
use Rattle.lu_lockspace.specs.Spaces.{SpaceState, same_resource, grant_of, grants_on, lock_on, queue_of, KeepsOthers, has, times, lock_of}
use Rattle.lu_lockspace.specs.Spaces.{IsSpace, IsCancelled}
use Rattle.lu_lockspace.specs.Entries.{IsPlaced}
use Rattle.lu_lockspace.proofs.Resources.{same_is, same_turned, grants_on-append}
use Rattle.lu_lockspace.proofs.Places.{Elsewhere, times-append, times_on, lock_at}
use Rattle.lu_spec_entries.specs.Carried.{Deed, Glimpse}
use Rattle.lu_spec_entries.specs.Words.{Entry, Grant, Wait, Release, Block, Ends, same_life}
use Rattle.lu_spec_target.specs.Replies.{locks_on, replies, is_called, called, block_of, blocks}
use Rattle.lu_spec_target.specs.Queues.{size_of, extent_of, has_to_wait, grown, grants_go, conflicting, blocks_go, queue_goes}
use Rattle.lu_spec_target.specs.States.{Target, after, turn, is_names}
use Rattle.lu_spec_target.specs.Glimpses.{answered, row_locked, glimpses_of, glimpses_end}
use Rattle.lu_spec_target.specs.Names.{names_go}
use Rattle.lu_spec_target.specs.Objects.{lock_of as row_lock_of, row_granted, row_waiting, row_enqueue}
use Rattle.lu_spec_target.specs.Requests.{releases, goes_on, row_cancels}
use Rattle.lu_target_refines.specs.Locks.{grants_of, ShowsQueue, ShowsLocks, grants_told}
use Rattle.lu_target_refines.proofs.LockLists.{times_more, on_itself, no_times, some_times, not_above, times_grants, has_grants}
use Rattle.lu_target_refines.proofs.LockLists.{times_apart, rises_from, pairs_from}
use Rattle.lu_target_refines.proofs.LockSteps.{Queues, KeepsQueues, put, put_here, put_keeps, Shows, shows_same, shows_new, shows_waiting}
use Rattle.lu_target_refines.proofs.LockSteps.{shows_released}
use Rattle.lu_target_refines.proofs.Granting.{waits, grows, granted_on}

-- ---- a lockspace's queues

abbrev pub queues_of : SpaceState → Queues
queues_of space r = queue_of r space

-- a cookie that the queue of one resource has no other has
pub only_there : (space : SpaceState) → IsSpace space → (c : ℕ) (r s : Resource) → same_resource r s ≡ false →
    1 ≤ queue.times c (queue_of r space).granted + queue.times c (queue_of r space).waiting →
    (queue.times c (queue_of s space).granted ≡ 0) × (queue.times c (queue_of s space).waiting ≡ 0)
only_there space lawful c r s differ some =
    let most = lawful.once c in
    let a = times_apart c r s differ space.granted in
    let b = times_apart c r s differ space.waiting in
    let ra = times_grants c (locks_on r space.granted) in
    let rb = times_grants c (locks_on r space.waiting) in
    let sa = times_grants c (locks_on s space.granted) in
    let sb = times_grants c (locks_on s space.waiting) in
    (omega (arith, most, a, b, ra, rb, sa, sb, some), omega (arith, most, a, b, ra, rb, sa, sb, some))

-- as often as in a queue a cookie is in the locks that it shows
pub granted_times : (c : ℕ) (r : Resource) (one : QueueState) (v : Target) → ShowsQueue r one v → queue.times c one.granted
    ≡ times c (locks_on r v.granted)
granted_times c r one v shows =
    sym (sum_by-IsPermutation (λ (g : Granted). cond (g.cookie.0 == c) 1 0) one.granted (grants_of (locks_on r v.granted)) shows.granted)
    ∙ times_grants c (locks_on r v.granted)

pub waiting_times : (c : ℕ) (r : Resource) (one : QueueState) (v : Target) → ShowsQueue r one v → queue.times c one.waiting
    ≡ times c (locks_on r v.waiting)
waiting_times c r one v shows = ap (queue.times c) shows.waiting ∙ times_grants c (locks_on r v.waiting)

-- where a lock of the list is, which has this cookie
more_on : (c : ℕ) (r : Resource) (l : Lock) (locks : List Lock) → times c (locks_on r locks) ≤ times c (locks_on r (l ∷ locks))
more_on c r l locks = by (same_resource l.resource r) where
  by : (v : Bool) → times c (locks_on r locks) ≤ times c (cond v (l ∷ locks_on r locks) (locks_on r locks))
  by true = let all = times_more c l (locks_on r locks) in omega (arith, all)
  by false = omega arith

pub where_found : (P : Type 0) (c : ℕ) (locks : List Lock) → has c locks ≡ true → ((r : Resource) → 1 ≤ times c (locks_on r locks) → P) → P
where_found P c [] found goal = absurd (cc)
where_found P c (l ∷ locks) found goal = by (l.cookie.0 == c) refl found (where_found P c locks) where
  by : (here : Bool) → (l.cookie.0 == c) ≡ here → (here || has c locks) ≡ true
      → (has c locks ≡ true → ((r : Resource) → 1 ≤ times c (locks_on r locks) → P) → P) → P
  by true e h rest =
      let there : has c (l ∷ locks_on l.resource locks) ≡ true = rw e refl in
      let here : has c (locks_on l.resource (l ∷ locks)) ≡ true = subst (λ ls. has c ls ≡ true) (sym (on_itself l locks)) there in
      goal l.resource (some_times c (locks_on l.resource (l ∷ locks)) here)
  by false e h rest = rest h (λ r some. let more = more_on c r l locks in goal r (omega (arith, some, more)))

-- no cookie is twice among the locks that a lockspace shows
pub once_in : (space : SpaceState) (v : Target) → ShowsLocks space v → (c : ℕ) → times c v.granted + times c v.waiting ≤ 1
once_in space v shows c = by (has c (v.granted ++ v.waiting)) refl where
  sum : times c (v.granted ++ v.waiting) ≡ times c v.granted + times c v.waiting
  sum = times-append c v.granted v.waiting

  part : (r : Resource) → queue.times c (grants_on r (v.granted ++ v.waiting))
      ≡ queue.times c (queue_of r space).granted + queue.times c (queue_of r space).waiting
  part r =
      let a = ap (queue.times c) (grants_on-append r v.granted v.waiting) in
      let b = lists.times-append c (grants_of (locks_on r v.granted)) (grants_of (locks_on r v.waiting)) in
      let d = times_grants c (locks_on r v.granted) in
      let e = times_grants c (locks_on r v.waiting) in
      let f = granted_times c r (queue_of r space) v (shows.queues r) in
      let g = waiting_times c r (queue_of r space) v (shows.queues r) in
      omega (arith, a, b, d, e, f, g)

  here : (r : Resource) → 1 ≤ times c (locks_on r (v.granted ++ v.waiting)) → times c v.granted + times c v.waiting ≤ 1
  here r some =
      let same = times_on c r (v.granted ++ v.waiting) elsewhere in
      let all = part r in
      let both = lists.times-append c (queue_of r space).granted (queue_of r space).waiting in
      let most = (shows.lawful.queues r).coherent.once c in
      omega (arith, sum, same, all, both, most)
    where
      there : 1 ≤ queue.times c (queue_of r space).granted + queue.times c (queue_of r space).waiting
      there =
          let all = part r in
          let e = times_grants c (locks_on r (v.granted ++ v.waiting)) in
          omega (arith, all, e, some)

      elsewhere : Elsewhere c r (v.granted ++ v.waiting)
      elsewhere = λ s differ.
          let none = only_there space shows.lawful c r s differ there in
          let a = none.0 in
          let b = none.1 in
          let all = part s in
          lists.none_of_times c (grants_on s (v.granted ++ v.waiting)) (omega (arith, a, b, all))

  by : (b : Bool) → has c (v.granted ++ v.waiting) ≡ b → times c v.granted + times c v.waiting ≤ 1
  by true e = where_found (times c v.granted + times c v.waiting ≤ 1) c (v.granted ++ v.waiting) e here
  by false e = let none = no_times c (v.granted ++ v.waiting) e in omega (arith, sum, none)

-- a lockspace shows what its queues show
pub shows_of : (space : SpaceState) (v : Target) → ShowsLocks space v → Shows (queues_of space) v
shows_of space v shows = record {
  each = shows.queues;
  fits = record {
    rising = rises_from v.granted shows.rising;
    granted = shows.granted;
    waiting = shows.waiting;
    once =
        once_in space v shows;
  };
}

pub space_shows : (space : SpaceState) (v : Target) → IsSpace space → Shows (queues_of space) v → ShowsLocks space v
space_shows space v lawful shows = record {
  lawful = lawful;
  queues = shows.each;
  rising = pairs_from v.granted shows.fits.rising;
  granted = shows.fits.granted;
  waiting = shows.fits.waiting;
}

-- what reads no locks leaves them
pub locks_same : (space : SpaceState) (v w : Target) → w.granted ≡ v.granted → w.waiting ≡ v.waiting → w.cookie ≡ v.cookie
    → ShowsLocks space v → ShowsLocks space w
locks_same space v w granted waiting cookie shows = space_shows space w shows.lawful
    (shows_same (queues_of space) v w granted waiting cookie (shows_of space v shows))

-- ---- a lock is asked for

-- a new lock has to wait where its queue says so
pub waits_new : (space : SpaceState) (v : Target) (l : Lock) → ShowsLocks space v →
    has_to_wait v (locks_on l.resource v.waiting) l ≡ queue.has_to_wait l.ask (queue_of l.resource space).granted
    (queue_of l.resource space).waiting
waits_new space v l shows =
    waits (queue_of l.resource space) v (locks_on l.resource v.waiting) l (shows.queues l.resource)
    ∙ ap (queue.has_to_wait l.ask (queue_of l.resource space).granted) (sym (shows.queues l.resource).waiting)

grown_new : (space : SpaceState) (v : Target) (l : Lock) → ShowsLocks space v →
    as_granted (grant_of l) (queue_of l.resource space).granted (queue_of l.resource space).waiting
    ≡ grant_of (grown v (locks_on l.resource v.waiting) l)
grown_new space v l shows =
    ap (as_granted (grant_of l) (queue_of l.resource space).granted) (shows.queues l.resource).waiting
    ∙ sym (grows (queue_of l.resource space) v (locks_on l.resource v.waiting) l (shows.queues l.resource))

-- what the call answers
pub enqueue_answers : (space : SpaceState) (v : Target) (l : Lock) (answer : Placed) → ShowsLocks space v → answer
    ≡ queue.placed (grant_of l) (queue_of l.resource space) →
    answer ≡ (if has_to_wait v (locks_on l.resource v.waiting) l then placed.Waiting
    else placed.Granted (grown v (locks_on l.resource v.waiting) l).ask.policy)
enqueue_answers space v l answer shows is = is ∙ (λ i. if test i then placed.Waiting else placed.Granted (grant i).ask.policy) where
  test : queue.has_to_wait l.ask (queue_of l.resource space).granted (queue_of l.resource space).waiting
      ≡ has_to_wait v (locks_on l.resource v.waiting) l
  test = sym (waits_new space v l shows)

  grant : as_granted (grant_of l) (queue_of l.resource space).granted (queue_of l.resource space).waiting
      ≡ grant_of (grown v (locks_on l.resource v.waiting) l)
  grant = grown_new space v l shows

-- a cookie above the greatest one is new
new_cookie : (space : SpaceState) (v : Target) (l : Lock) → ShowsLocks space v → l.cookie.0 ≡ v.cookie + 1
    → (has l.cookie.0 v.granted ≡ false) × (has l.cookie.0 v.waiting ≡ false)
new_cookie space v l shows next = (
  not_above v.cookie l.cookie.0 v.granted (omega (arith, next)) shows.granted,
  not_above v.cookie l.cookie.0 v.waiting (omega (arith, next)) shows.waiting,
)

-- it is granted at once
pub enqueue_granted : (space after_it : SpaceState) (v : Target) (l : Lock) (asked : Option Deed) → ShowsLocks space v → l.cookie.0
    ≡ v.cookie + 1 →
    queue_of l.resource after_it ≡ with_lock (grant_of l) (queue_of l.resource space) → KeepsOthers l.resource space after_it
    → IsSpace after_it →
    has_to_wait v (locks_on l.resource v.waiting) l ≡ false → ShowsLocks after_it
    (after v (Grant (grown v (locks_on l.resource v.waiting) l) asked))
enqueue_granted space after_it v l asked shows next added others lawful free =
    let new = new_cookie space v l shows next in
    space_shows after_it (after v (Grant (grown v (locks_on l.resource v.waiting) l) asked)) lawful
    (shows_new (queues_of space) (queues_of after_it) v (grown v (locks_on l.resource v.waiting) l) asked (shows_of space v shows) new.0
    new.1 (added ∙ here) others)
  where
    one : QueueState
    one = queue_of l.resource space

    test : queue.has_to_wait l.ask one.granted one.waiting ≡ false
    test = sym (waits_new space v l shows) ∙ free

    grant : as_granted (grant_of l) one.granted one.waiting ≡ grant_of (grown v (locks_on l.resource v.waiting) l)
    grant = grown_new space v l shows

    here : with_lock (grant_of l) one ≡ record {
      granted = one.granted ++ grant_of (grown v (locks_on l.resource v.waiting) l) ∷ [];
      waiting = one.waiting;
    }
    here = λ i.
        if test i
        then (record one { waiting = one.waiting ++ grant_of l ∷ [] })
        else (record one { granted = one.granted ++ grant i ∷ [] })

-- it waits
pub enqueue_waits : (space after_it : SpaceState) (v : Target) (l : Lock) (asked : Deed) → ShowsLocks space v → l.cookie.0 ≡ v.cookie + 1 →
    queue_of l.resource after_it ≡ with_lock (grant_of l) (queue_of l.resource space) → KeepsOthers l.resource space after_it
    → IsSpace after_it →
    has_to_wait v (locks_on l.resource v.waiting) l ≡ true → ShowsLocks after_it (after v (Wait l asked))
enqueue_waits space after_it v l asked shows next added others lawful waits_on =
    let new = new_cookie space v l shows next in
    space_shows after_it (after v (Wait l asked)) lawful
    (shows_waiting (queues_of space) (queues_of after_it) v l asked (shows_of space v shows) new.0 new.1 (added ∙ here) others)
  where
    one : QueueState
    one = queue_of l.resource space

    test : queue.has_to_wait l.ask one.granted one.waiting ≡ true
    test = sym (waits_new space v l shows) ∙ waits_on

    here : with_lock (grant_of l) one ≡ record { granted = one.granted; waiting = one.waiting ++ grant_of l ∷ [] }
    here = λ i.
        if test i
        then (record one { waiting = one.waiting ++ grant_of l ∷ [] })
        else (record one { granted = one.granted ++ as_granted (grant_of l) one.granted one.waiting ∷ [] })

-- ---- entries that are about no lock

abbrev pub LeavesLocks : Target → Target → Type 0
LeavesLocks v w = (w.granted ≡ v.granted) × (w.waiting ≡ v.waiting) × (w.cookie ≡ v.cookie)

pub turn-append : (v : Target) (xs ys : List Entry) → turn v (xs ++ ys) ≡ turn (turn v xs) ys
turn-append v [] ys = refl
turn-append v (e ∷ xs) ys = turn-append (after v e) xs ys

pub left_twice : (v w x : Target) → LeavesLocks v w → LeavesLocks w x → LeavesLocks v x
left_twice v w x a b = (b.0 ∙ a.0, b.1 ∙ a.1, b.2 ∙ a.2)

pub leaves_blocks : (v w : Target) (locks : List Lock) → LeavesLocks w (turn w (blocks v locks))
leaves_blocks v w [] = (refl, refl, refl)
leaves_blocks v w (l ∷ locks) = by (is_called l.cookie v.called) (λ x. leaves_blocks v x locks) where
  by : (b : Bool) → ((x : Target) → LeavesLocks x (turn x (blocks v locks))) →
      LeavesLocks w (turn w (if b then blocks v locks else Block (called v l) ∷ block_of v l ∷ blocks v locks))
  by true rest = rest w
  by false rest =
      let x = after (after w (Block (called v l))) (block_of v l) in
      left_twice w x (turn x (blocks v locks)) (refl, refl, refl) (rest x)

pub leaves_blocks_go : (v : Target) (locks : List Lock) → LeavesLocks v (turn v (blocks_go locks v))
leaves_blocks_go v [] = (refl, refl, refl)
leaves_blocks_go v (l ∷ locks) =
    let es = blocks v (conflicting v l) in
    let w = turn v es in
    subst (LeavesLocks v) (sym (turn-append v es (blocks_go locks w)))
    (left_twice v w (turn w (blocks_go locks w)) (leaves_blocks v v (conflicting v l)) (leaves_blocks_go w locks))

pub leaves_glimpses : (at : At) (v w : Target) (gs : List Glimpse) → LeavesLocks w (turn w (glimpses_end at gs v))
leaves_glimpses at v w [] = (refl, refl, refl)
leaves_glimpses at v w (g ∷ gs) =
    let x = turn (after w (Ends g)) (row_locked v at g.request) in
    left_twice w x (turn x (glimpses_end at gs v)) (refl, refl, refl) (leaves_glimpses at v x gs)

-- ---- a granted lock is released, and what may be granted on its resource is granted

pub or_right : (a b : Bool) → b ≡ true → (a || b) ≡ true
or_right true b h = refl
or_right false b h = h

-- the lock of a cookie that is granted, as the rows find it
pub granted_there : (who : Who) (cookie : Cookie) (l : Lock) (locks : List Lock) → row_lock_of who cookie locks ≡ Some l →
    (l.cookie.0 ≡ cookie.0) × (has l.cookie.0 (locks_on l.resource locks) ≡ true)
granted_there who cookie l [] found = absurd (cc)
granted_there who cookie l (k ∷ locks) found = by (k.cookie.0 == cookie.0 && same_life k.ask.who who) refl found
    (granted_there who cookie l locks) where
      by : (b : Bool) → (k.cookie.0 == cookie.0 && same_life k.ask.who who) ≡ b → (if b then Some k else row_lock_of who cookie locks) ≡ Some l
          →
          (row_lock_of who cookie locks ≡ Some l → (l.cookie.0 ≡ cookie.0) × (has l.cookie.0 (locks_on l.resource locks) ≡ true)) →
          (l.cookie.0 ≡ cookie.0) × (has l.cookie.0 (locks_on l.resource (k ∷ locks)) ≡ true)
      by true e h rest = subst (λ x. (x.cookie.0 ≡ cookie.0) × (has x.cookie.0 (locks_on x.resource (k ∷ locks)) ≡ true)) (some_is k l h)
          (same, there) where
            same : k.cookie.0 ≡ cookie.0
            same = grind (arith, nat_tests, e)

            itself : (k.cookie.0 == k.cookie.0) ≡ true
            itself = grind (arith, nat_tests)

            there : has k.cookie.0 (locks_on k.resource (k ∷ locks)) ≡ true
            there = subst (λ ls. has k.cookie.0 ls ≡ true) (sym (on_itself k locks)) (rw itself refl)
      by false e h rest = let found_later = rest h in (found_later.0, more (same_resource k.resource l.resource) found_later.1) where
        more : (v : Bool) → has l.cookie.0 (locks_on l.resource locks) ≡ true
            → has l.cookie.0 (cond v (k ∷ locks_on l.resource locks) (locks_on l.resource locks)) ≡ true
        more true there = or_right (k.cookie.0 == l.cookie.0) (has l.cookie.0 (locks_on l.resource locks)) there
        more false there = there

-- it is on the resource of that lock in the lockspace
granted_place : (space : SpaceState) (v : Target) (l : Lock) → ShowsLocks space v → has l.cookie.0 (locks_on l.resource v.granted) ≡ true
    → IsPlaced l.cookie.0 space (Some l.resource)
granted_place space v l shows there = λ s. by s (same_resource l.resource s) refl where
  c : ℕ
  c = l.cookie.0

  in_queue : queue.has c (queue_of l.resource space).granted ≡ true
  in_queue =
      list_any-IsPermutation (λ (g : Granted). g.cookie.0 == c) (queue_of l.resource space).granted
      (grants_of (locks_on l.resource v.granted)) (shows.queues l.resource).granted
      ∙ has_grants c (locks_on l.resource v.granted) ∙ there

  some : 1 ≤ queue.times c (queue_of l.resource space).granted + queue.times c (queue_of l.resource space).waiting
  some =
      let one = some_times c (locks_on l.resource v.granted) there in
      let same = granted_times c l.resource (queue_of l.resource space) v (shows.queues l.resource) in
      omega (arith, one, same)

  by : (s : Resource) (b : Bool) → same_resource l.resource s ≡ b → queue.is_in c (queue_of s space) ≡ same_resource s l.resource
  by s true e =
      let here : queue.is_in c (queue_of l.resource space) ≡ true = ap (λ b. b || queue.has c (queue_of l.resource space).waiting) in_queue
      in
      subst (λ k. queue.is_in c (queue_of k space) ≡ true) (same_is l.resource s e) here ∙ sym (same_turned s l.resource ∙ e)
  by s false e =
      let none = only_there space shows.lawful c l.resource s e some in
      (λ i. lists.none_of_times c (queue_of s space).granted none.0 i || lists.none_of_times c (queue_of s space).waiting none.1 i)
      ∙ sym (same_turned s l.resource ∙ e)

found_on : (space : SpaceState) (v : Target) (l found : Lock) → ShowsLocks space v → has l.cookie.0 (locks_on l.resource v.granted) ≡ true →
    lock_of l.cookie.0 space ≡ Some found → found.resource ≡ l.resource
found_on space v l found shows there is =
    by (queue.lock_of l.cookie.0 (queue_of l.resource space)) (sym
    (lock_at l.cookie.0 space (Some l.resource) (granted_place space v l shows there)) ∙ is) where
      by : (o : Option Granted) → option_map (lock_on l.resource) o ≡ Some found → found.resource ≡ l.resource
      by None h = absurd (cc)
      by (Some g) h = sym (ap (λ k. k.resource) (some_is (lock_on l.resource g) found h))

-- the queues once the lock is away
released_queues : (space : SpaceState) (v : Target) (l : Lock) → ShowsLocks space v → has l.cookie.0 (locks_on l.resource v.granted) ≡ true
    →
    Shows (put l.resource (without l.cookie.0 (queue_of l.resource space)) (queues_of space)) (after v (Release l))
released_queues space v l shows there =
    let one = without l.cookie.0 (queue_of l.resource space) in
    shows_released (queues_of space) (put l.resource one (queues_of space)) v l (shows_of space v shows) there
    (put_here l.resource one (queues_of space)) (put_keeps l.resource one (queues_of space))

-- the turn so far: the release, and the answers to those who asked its holder
pub released : (space after_it : SpaceState) (v : Target) (at : At) (l : Lock) (grants : List Granted) → ShowsLocks space v →
    has l.cookie.0 (locks_on l.resource v.granted) ≡ true → IsCancelled l.cookie.0 space grants after_it → IsSpace after_it → (w : Target)
    → w ≡ turn v (releases at l v) →
    (grants_go [] (locks_on l.resource w.waiting) w ≡ grants_told l.resource w grants)
    × ShowsLocks after_it (turn w (grants_told l.resource w grants))
released space after_it v at l grants shows there cancelled lawful w turned =
    (walked.0, space_shows after_it (turn w (grants_told l.resource w grants)) lawful walked.1) where
      one : QueueState
      one = without l.cookie.0 (queue_of l.resource space)

      same : cancelled.lock.resource ≡ l.resource
      same = found_on space v l cancelled.lock shows there cancelled.found

      left : LeavesLocks (after v (Release l)) (turn v (releases at l v))
      left = leaves_glimpses at v (after v (Release l)) (glimpses_of l v.glimpses)

      here : Shows (put l.resource one (queues_of space)) w
      here =
          subst (Shows (put l.resource one (queues_of space))) (sym turned)
          (shows_same (put l.resource one (queues_of space)) (after v (Release l)) (turn v (releases at l v)) left.0 left.1 left.2
          (released_queues space v l shows there))

      steps : AreGranted (put l.resource one (queues_of space) l.resource) grants (queue_of l.resource after_it)
      steps =
          subst (λ q. AreGranted q grants (queue_of l.resource after_it)) (sym (put_here l.resource one (queues_of space)))
          (subst (λ r. AreGranted (without l.cookie.0 (queue_of r space)) grants (queue_of r after_it)) same cancelled.granted)

      others : KeepsQueues l.resource (put l.resource one (queues_of space)) (queues_of after_it)
      others = λ s differ.
          subst (λ r. KeepsOthers r space after_it) same cancelled.others s differ ∙ sym (put_keeps l.resource one (queues_of space) s differ)

      walked : (grants_go [] (locks_on l.resource w.waiting) w ≡ grants_told l.resource w grants)
          × Shows (queues_of after_it) (turn w (grants_told l.resource w grants))
      walked = granted_on l.resource (put l.resource one (queues_of space)) (queues_of after_it) w grants here steps others

-- where nothing waits, as at the metadata target, nothing is granted
pub released_alone : (space after_it : SpaceState) (v : Target) (at : At) (l : Lock) (grants : List Granted) → ShowsLocks space v →
    has l.cookie.0 (locks_on l.resource v.granted) ≡ true → IsCancelled l.cookie.0 space grants after_it → IsSpace after_it → v.waiting ≡ []
    →
    (grants ≡ []) × ShowsLocks after_it (turn v (releases at l v))
released_alone space after_it v at l grants shows there cancelled lawful quiet = by grants whole refl where
  w : Target
  w = turn v (releases at l v)

  whole : (grants_go [] (locks_on l.resource w.waiting) w ≡ grants_told l.resource w grants)
      × ShowsLocks after_it (turn w (grants_told l.resource w grants))
  whole = released space after_it v at l grants shows there cancelled lawful w refl

  none : grants_go [] (locks_on l.resource w.waiting) w ≡ []
  none =
      let left = leaves_glimpses at v (after v (Release l)) (glimpses_of l v.glimpses) in
      ap (λ locks. grants_go [] (locks_on l.resource locks) w) (left.1 ∙ quiet)

  by : (gs : List Granted) → (grants_go [] (locks_on l.resource w.waiting) w ≡ grants_told l.resource w gs)
      × ShowsLocks after_it (turn w (grants_told l.resource w gs)) → gs ≡ grants →
      (grants ≡ []) × ShowsLocks after_it w
  by [] h same = (sym same, h.1)
  by (g ∷ gs) h same = absurd (no_entries (sym none ∙ h.0)) where
    no_entries : {e : Entry} {es : List Entry} → [] ≡ e ∷ es → ⊥
    no_entries p = cc

-- the queue of a resource goes on: what is granted, and then what the locks that wait on call back
pub queue_gone : (space : SpaceState) (r : Resource) (v : Target) (grants : List Granted) → grants_go [] (locks_on r v.waiting) v
    ≡ grants_told r v grants →
    ShowsLocks space (turn v (grants_told r v grants)) → ShowsLocks space (turn v (queue_goes r v))
queue_gone space r v grants same shows =
    let es = grants_go [] (locks_on r v.waiting) v in
    let w = turn v es in
    let left = leaves_blocks_go w (locks_on r w.waiting) in
    subst (ShowsLocks space) (sym (turn-append v es (blocks_go (locks_on r w.waiting) w)))
    (locks_same space w (turn w (blocks_go (locks_on r w.waiting) w)) left.0 left.1 left.2
    (subst (λ xs. ShowsLocks space (turn v xs)) (sym same) shows))

-- so a cancel at an object target leaves what its row leaves
pub cancel_shown : (space after_it : SpaceState) (v : Target) (at : At) (l : Lock) (grants : List Granted) → ShowsLocks space v → is_names v
    ≡ false →
    has l.cookie.0 (locks_on l.resource v.granted) ≡ true → IsCancelled l.cookie.0 space grants after_it → IsSpace after_it →
    ShowsLocks after_it (turn v (row_cancels v at (Some l)))
cancel_shown space after_it v at l grants shows objects there cancelled lawful =
    let es = releases at l v in
    let w = turn v es in
    let whole = released space after_it v at l grants shows there cancelled lawful w refl in
    let goes : goes_on l at w ≡ queue_goes l.resource w = ap (λ b. if b then names_go at w else queue_goes l.resource w)
    (still_objects es v ∙ objects) in
    subst (ShowsLocks after_it) (sym (turn-append v es (goes_on l at w) ∙ ap (turn w) goes))
    (queue_gone after_it l.resource w grants whole.0 whole.1)
  where
    still_objects : (es : List Entry) (x : Target) → is_names (turn x es) ≡ is_names x
    still_objects [] x = refl
    still_objects (e ∷ es) x = still_objects es (after x e)

-- ---- the rows of a request for a lock

pub enqueue_shown : (space after_it : SpaceState) (v : Target) (at : At) (r : RequestOf) (l : Lock) → ShowsLocks space v → l.cookie.0
    ≡ v.cookie + 1 →
    queue_of l.resource after_it ≡ with_lock (grant_of l) (queue_of l.resource space) → KeepsOthers l.resource space after_it
    → IsSpace after_it →
    ShowsLocks after_it (turn v (row_enqueue v at r l))
enqueue_shown space after_it v at r l shows next added others lawful = by (has_to_wait v (locks_on l.resource v.waiting) l) refl where
  by : (b : Bool) → has_to_wait v (locks_on l.resource v.waiting) l ≡ b →
      ShowsLocks after_it (turn v (if b then row_waiting v at r l else row_granted v at r (grown v (locks_on l.resource v.waiting) l)))
  by true e =
      let d = answered v at r (told.Waiting l.cookie) in
      let w = after v (Wait l d) in
      let x = after w (replies d) in
      let left = leaves_blocks_go x (locks_on l.resource x.waiting) in
      locks_same after_it w (turn x (blocks_go (locks_on l.resource x.waiting) x)) left.0 left.1 left.2
      (enqueue_waits space after_it v l d shows next added others lawful e)
  by false e =
      let g = grown v (locks_on l.resource v.waiting) l in
      let d = answered v at r (told.Granted g.cookie (extent_of g) (size_of v g.resource)) in
      let w = after v (Grant g (Some d)) in
      locks_same after_it w (after w (replies d)) refl refl refl
      (enqueue_granted space after_it v l (Some d) shows next added others lawful e)
