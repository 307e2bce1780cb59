-- What is granted on a resource: the rows go once through the waiting locks in order of arrival, the queue grants the first
-- that is free and begins anew. Both come to the same, since what had to wait still has to where more is granted.
use Rattle.std.proofs.Common.{◌≡◌, ◌||◌, Bool, true, false, None, List, [], ◌∷◌, ◌++◌, IsPermutation, refl, sym, ◌∙◌, ap, subst}
use Rattle.std.specs.Prelude.{if◌then◌else◌}
use Rattle.std.specs.List.{AllByRecursion}
use Rattle.std.proofs.lemmas.List.{append-nil, append_assoc, map-append}
use Rattle.std.proofs.lemmas.List.Elements.{filter_passes, recursion_from_All}
use Rattle.std.proofs.lemmas.List.Sorted.{IsPermutation-map, list_any-IsPermutation}
use Rattle.lu_base.specs.declared.locks.Ask.{Ask}
use Rattle.lu_base.specs.declared.locks.Lock.{Lock}
use Rattle.lu_base.specs.declared.locks.Resource.{Resource}
use Rattle.lu_lock.specs.Conflict.{conflict, conflicts_with_any}
use Rattle.lu_lock.specs.Growth.{granted_ask}
use Rattle.lu_queue.specs.declared.locks.Grant.{Grant as Granted}
use Rattle.lu_queue.specs.Queues as queue
use Rattle.lu_queue.specs.Queues.{QueueState, asks, conflicts, as_granted, IsGranted, AreGranted, AllWait}
use Rattle.lu_lockspace.specs.Spaces.{same_resource, grant_of, lock_on}
use Rattle.lu_lockspace.proofs.Resources.{same_is}
use Rattle.lu_spec_entries.specs.Words.{Grant}
use Rattle.lu_spec_target.specs.Replies.{locks_on, asks_of}
use Rattle.lu_spec_target.specs.Queues.{has_to_wait, grown, grant_message, grant_entries, grants_go}
use Rattle.lu_spec_target.specs.States.{Target, after, turn, follow}
use Rattle.lu_target_refines.specs.Locks.{grants_of, ShowsQueue, grants_told}
use Rattle.lu_target_refines.proofs.LockOrders.{granted_permuted}
use Rattle.lu_target_refines.proofs.LockWaits.{Stuck, stuck_push, stuck_more, first_granted, none_granted, some_granted}
use Rattle.lu_target_refines.proofs.LockSteps.{Queues, KeepsQueues, put, put_here, put_keeps, Shows, shows_same, shows_queues, all_same}
use Rattle.lu_target_refines.proofs.LockSteps.{shows_granted}

-- ---- which locks have to wait, and how far they grow

pub conflicts_of : (ask : Ask) (locks : List Lock) → conflicts_with_any ask (asks_of locks) ≡ conflicts ask (grants_of locks)
conflicts_of ask [] = refl
conflicts_of ask (l ∷ locks) = ap (λ b. conflict ask l.ask || b) (conflicts_of ask locks)

asks_same : (locks : List Lock) → asks (grants_of locks) ≡ asks_of locks
asks_same [] = refl
asks_same (l ∷ locks) = ap (λ more. l.ask ∷ more) (asks_same locks)

-- where the queue of a lock's resource shows the locks, the rows let it wait where the queue does, behind the same locks
pub waits : (one : QueueState) (v : Target) (ahead : List Lock) (l : Lock) → ShowsQueue l.resource one v →
    has_to_wait v ahead l ≡ queue.has_to_wait l.ask one.granted (grants_of ahead)
waits one v ahead l shows = λ i. granted i || conflicts_of l.ask ahead i where
  granted : conflicts_with_any l.ask (asks_of (locks_on l.resource v.granted)) ≡ conflicts l.ask one.granted
  granted =
      conflicts_of l.ask (locks_on l.resource v.granted)
      ∙ sym (list_any-IsPermutation (λ g. conflict l.ask g.ask) one.granted (grants_of (locks_on l.resource v.granted)) shows.granted)

-- and it grows as far
pub grows : (one : QueueState) (v : Target) (others : List Lock) (l : Lock) → ShowsQueue l.resource one v →
    grant_of (grown v others l) ≡ as_granted (grant_of l) one.granted (grants_of others)
grows one v others l shows = λ i. record { cookie = l.cookie; ask = same i } where
  moved : IsPermutation (asks one.granted) (asks_of (locks_on l.resource v.granted))
  moved =
      subst (IsPermutation (asks one.granted)) (asks_same (locks_on l.resource v.granted))
      (IsPermutation-map (λ g. g.ask) one.granted (grants_of (locks_on l.resource v.granted)) shows.granted)

  same : granted_ask l.ask (asks_of (locks_on l.resource v.granted)) (asks_of others)
      ≡ granted_ask l.ask (asks one.granted) (asks (grants_of others))
  same =
      sym (granted_permuted l.ask (asks one.granted) (asks_of (locks_on l.resource v.granted)) (asks_of others) moved)
      ∙ ap (granted_ask l.ask (asks one.granted)) (sym (asks_same others))

-- ---- what is told of a grant is the same before and after the others

pub told_later : (r : Resource) (v : Target) (l : Lock) (grants : List Granted) →
    grants_told r (turn v (Grant l None ∷ grant_message v l ∷ [])) grants ≡ grants_told r v grants
told_later r v l [] = refl
told_later r v l (g ∷ grants) = ap (λ es. Grant (lock_on r g) None ∷ grant_message v (lock_on r g) ∷ es) (told_later r v l grants)

-- ---- the walk of the rows

abbrev pub IsOn : Resource → Lock → Type 0
IsOn r l = same_resource l.resource r ≡ true

-- what it makes of the locks that are left
abbrev Walk : Resource → List Lock → Type 0
Walk r later =
    (ahead : List Lock) (queues next : Queues) (v : Target) (grants : List Granted) → Shows queues v → (queues r).waiting
    ≡ grants_of (ahead ++ later) →
    Stuck (queues r).granted [] (grants_of ahead) → AreGranted (queues r) grants (next r) → KeepsQueues r queues next →
    (grants_go ahead later v ≡ grants_told r v grants) × Shows next (turn v (grants_told r v grants))

ends : (r : Resource) → Walk r []
ends r ahead queues next v [] shows is stuck (same, all) others =
    (refl, shows_queues queues next v (all_same r queues next same others) shows)
ends r ahead queues next v (g ∷ grants) shows is stuck (mid, step, rest) others =
    let all : Stuck (queues r).granted [] (queues r).waiting = subst (Stuck (queues r).granted [])
    (sym (is ∙ ap grants_of (append-nil ahead))) stuck in
    absurd (none_granted (queues r) g mid all step)

-- one is passed over
passed : (r : Resource) (l : Lock) (later : List Lock) → same_resource l.resource r ≡ true → Walk r later →
    (ahead : List Lock) (queues next : Queues) (v : Target) (grants : List Granted) → Shows queues v → (queues r).waiting
    ≡ grants_of (ahead ++ l ∷ later) →
    Stuck (queues r).granted [] (grants_of ahead) → AreGranted (queues r) grants (next r) → KeepsQueues r queues next →
    queue.has_to_wait l.ask (queues r).granted (grants_of ahead) ≡ true →
    (grants_go (ahead ++ l ∷ []) later v ≡ grants_told r v grants) × Shows next (turn v (grants_told r v grants))
passed r l later on walk ahead queues next v grants shows is stuck steps others waits_on =
    walk (ahead ++ l ∷ []) queues next v grants shows (is ∙ ap grants_of (sym (append_assoc ahead (l ∷ []) later)))
    (subst (Stuck (queues r).granted []) (sym (map-append grant_of ahead (l ∷ [])))
    (stuck_push (queues r).granted [] (grants_of ahead) (grant_of l) stuck waits_on))
    steps others

-- one is granted, and then others
granted_next : (r : Resource) (l : Lock) (later : List Lock) → same_resource l.resource r ≡ true → Walk r later →
    (ahead : List Lock) (queues next : Queues) (v : Target) (g : Granted) (grants : List Granted) (mid : QueueState) → Shows queues v →
    (queues r).waiting ≡ grants_of (ahead ++ l ∷ later) → Stuck (queues r).granted [] (grants_of ahead) → IsGranted (queues r) g mid
    → AreGranted mid grants (next r) →
    KeepsQueues r queues next → queue.has_to_wait l.ask (queues r).granted (grants_of ahead) ≡ false →
    (follow v (grant_entries v (grown v (ahead ++ later) l)) (grants_go ahead later) ≡ grants_told r v (g ∷ grants))
    × Shows next (turn v (grants_told r v (g ∷ grants)))
granted_next r l later on walk ahead queues next v g grants mid shows is stuck step steps others free = (said, shown) where
  same : l.resource ≡ r
  same = same_is l.resource r on

  split : (queues r).waiting ≡ grants_of ahead ++ grant_of l ∷ grants_of later
  split = is ∙ map-append grant_of ahead (l ∷ later)

  joined : grants_of ahead ++ grants_of later ≡ grants_of (ahead ++ later)
  joined = sym (map-append grant_of ahead later)

  first : (g ≡ as_granted (grant_of l) (queues r).granted (grants_of ahead ++ grants_of later))
      × (mid ≡ record { granted = (queues r).granted ++ g ∷ []; waiting = grants_of ahead ++ grants_of later })
  first = first_granted (queues r) (grants_of ahead) (grant_of l) (grants_of later) g mid split stuck free step

  -- the lock that is granted is the one of the rows
  is_grown : lock_on r g ≡ grown v (ahead ++ later) l
  is_grown =
      let shown_here : ShowsQueue l.resource (queues r) v = subst (λ k. ShowsQueue k (queues r) v) (sym same) (shows.each r) in
      let grant : g ≡ grant_of (grown v (ahead ++ later) l) =
      first.0 ∙ ap (as_granted (grant_of l) (queues r).granted) joined ∙ sym (grows (queues r) v (ahead ++ later) l shown_here) in
      let resource : r ≡ l.resource = sym same in
      λ i. record { cookie = (grant i).cookie; resource = resource i; ask = (grant i).ask }

  now : Queues
  now = put r mid queues

  w : Target
  w = turn v (grant_entries v (lock_on r g))

  here : Shows now (after v (Grant (lock_on r g) None))
  here =
      shows_granted queues now v (lock_on r g) None (grants_of ahead) (grant_of l) (grants_of later) shows split
      (ap (λ x. x.cookie) (sym first.0))
      (put_here r mid queues ∙ first.1) (put_keeps r mid queues)

  next_here : AreGranted (now r) grants (next r)
  next_here = subst (λ one. AreGranted one grants (next r)) (sym (put_here r mid queues)) steps

  mid_is : now r ≡ record { granted = (queues r).granted ++ g ∷ []; waiting = grants_of ahead ++ grants_of later }
  mid_is = put_here r mid queues ∙ first.1

  rest : (grants_go ahead later w ≡ grants_told r w grants) × Shows next (turn w (grants_told r w grants))
  rest =
      walk ahead now next w grants (shows_same now (after v (Grant (lock_on r g) None)) w refl refl refl here)
      (ap (λ one. one.waiting) mid_is ∙ joined)
      (subst (λ one. Stuck one.granted [] (grants_of ahead)) (sym mid_is)
      (stuck_more (queues r).granted (g ∷ []) [] (grants_of ahead) stuck))
      next_here (λ s differ. others s differ ∙ sym (put_keeps r mid queues s differ))

  again : grants_told r w grants ≡ grants_told r v grants
  again = told_later r v (lock_on r g) grants

  said : follow v (grant_entries v (grown v (ahead ++ later) l)) (grants_go ahead later) ≡ grants_told r v (g ∷ grants)
  said =
      ap (λ k. follow v (grant_entries v k) (grants_go ahead later)) (sym is_grown)
      ∙ ap (λ es. grant_entries v (lock_on r g) ++ es) (rest.0 ∙ again)

  shown : Shows next (turn v (grants_told r v (g ∷ grants)))
  shown = subst (λ es. Shows next (turn w es)) again rest.1

one_more : (r : Resource) (l : Lock) (later : List Lock) → same_resource l.resource r ≡ true → Walk r later → Walk r (l ∷ later)
one_more r l later on walk ahead queues next v grants shows is stuck steps others = by (has_to_wait v ahead l) refl where
  test : has_to_wait v ahead l ≡ queue.has_to_wait l.ask (queues r).granted (grants_of ahead)
  test = waits (queues r) v ahead l (subst (λ k. ShowsQueue k (queues r) v) (sym (same_is l.resource r on)) (shows.each r))

  free_one : (grants : List Granted) → AreGranted (queues r) grants (next r) → queue.has_to_wait l.ask (queues r).granted (grants_of ahead)
      ≡ false →
      (follow v (grant_entries v (grown v (ahead ++ later) l)) (grants_go ahead later) ≡ grants_told r v grants)
      × Shows next (turn v (grants_told r v grants))
  free_one [] (same, all) free =
      absurd (some_granted (queues r).granted (grants_of ahead) (grant_of l) (grants_of later) free
      (subst (AllWait (queues r).granted) (is ∙ map-append grant_of ahead (l ∷ later)) all))
  free_one (g ∷ grants) (mid, step, rest) free = granted_next r l later on walk ahead queues next v g grants mid shows is stuck step rest
      others free

  by : (b : Bool) → has_to_wait v ahead l ≡ b →
      ((if b then grants_go (ahead ++ l ∷ []) later v else follow v (grant_entries v (grown v (ahead ++ later) l)) (grants_go ahead later))
      ≡ grants_told r v grants)
      × Shows next (turn v (grants_told r v grants))
  by true e = passed r l later on walk ahead queues next v grants shows is stuck steps others (sym test ∙ e)
  by false e = free_one grants steps (sym test ∙ e)

walk_all : (r : Resource) (later : List Lock) → AllByRecursion (IsOn r) later → Walk r later
walk_all r [] on = ends r
walk_all r (l ∷ later) on = one_more r l later on.0 (walk_all r later on.1)

pub all_on : (r : Resource) (locks : List Lock) → AllByRecursion (IsOn r) (locks_on r locks)
all_on r locks = recursion_from_All (IsOn r) (locks_on r locks) (filter_passes (λ l. same_resource l.resource r) locks)

-- what the queue of a resource grants is what the rows grant there, and it shows what they leave
pub granted_on : (r : Resource) (queues next : Queues) (v : Target) (grants : List Granted) → Shows queues v
    → AreGranted (queues r) grants (next r) → KeepsQueues r queues next →
    (grants_go [] (locks_on r v.waiting) v ≡ grants_told r v grants) × Shows next (turn v (grants_told r v grants))
granted_on r queues next v grants shows steps others =
    walk_all r (locks_on r v.waiting) (all_on r v.waiting) [] queues next v grants shows (shows.each r).waiting tt steps others
