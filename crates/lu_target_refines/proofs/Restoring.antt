-- The locks that stand again when a window closes: the lockspace restores them one after another, and refuses those that the
-- rows leave out.
use Rattle.std.proofs.Common.{◌≡◌, ℕ, ◌<◌, ◌≤◌, Bool, true, false, not, List, [], ◌∷◌, ◌++◌, All, AllPairs, IsPermutation, refl, sym, ◌∙◌}
use Rattle.std.proofs.Common.{ap, subst, arith}
use Rattle.std.specs.Prelude.{if◌then◌else◌}
use Rattle.std.proofs.lemmas.List.Elements.{All-cons}
use Rattle.std.proofs.lemmas.List.Sorted.{IsPermutation-refl, IsPermutation-sym, IsPermutation-trans, IsPermutation-cons, IsPermutation-map}
use Rattle.std.proofs.lemmas.List.Sorted.{IsPermutation-middle, IsPermutation-to_front, list_any-IsPermutation}
use Rattle.lu_base.specs.declared.locks.Lock.{Lock}
use Rattle.lu_base.specs.declared.locks.Resource.{Resource}
use Rattle.lu_held.proofs.Lists.{rest_all}
use Rattle.lu_lock.specs.Conflict.{conflict, conflicts_with_any}
use Rattle.lu_queue.specs.Queues as queue
use Rattle.lu_queue.specs.Queues.{QueueState, conflicts}
use Rattle.lu_lockspace.specs.Spaces.{SpaceState, empty, same_resource, grant_of, queue_of, KeepsOthers, IsSpace}
use Rattle.lu_lockspace.proofs.Resources.{same_is}
use Rattle.lu_spec_entries.specs.Carried.{Outcome}
use Rattle.lu_spec_entries.specs.Words.{Close}
use Rattle.lu_spec_target.specs.Outcomes.{restored}
use Rattle.lu_spec_target.specs.Replies.{locks_on, asks_of}
use Rattle.lu_spec_target.specs.States.{Target, after}
use Rattle.lu_target_refines.specs.Locks.{grants_of, ShowsLocks, AreRestored}
use Rattle.lu_target_refines.proofs.LockLists.{Above, Rises, rises_from, pairs_from, on_itself, on_other}
use Rattle.lu_target_refines.proofs.LockOrders.{IsPermutation-filter}
use Rattle.lu_target_refines.proofs.Granting.{conflicts_of}

-- the queue of a resource has those of these locks that are there, and nothing waits
abbrev pub Has : Resource → QueueState → List Lock → Type 0
Has r one locks = IsPermutation one.granted (grants_of (locks_on r locks)) × (one.waiting ≡ [])

abbrev pub HasAll : SpaceState → List Lock → Type 0
HasAll space locks = (r : Resource) → Has r (queue_of r space) locks

refused_where : (one : QueueState) (l : Lock) (before : List Lock) → Has l.resource one before →
    conflicts l.ask one.granted ≡ conflicts_with_any l.ask (asks_of (locks_on l.resource before))
refused_where one l before has =
    list_any-IsPermutation (λ g. conflict l.ask g.ask) one.granted (grants_of (locks_on l.resource before)) has.0
    ∙ sym (conflicts_of l.ask (locks_on l.resource before))

-- what is so of one resource and of all others is so of all
every : (r : Resource) (P : Resource → Type 0) → P r → ((s : Resource) → same_resource r s ≡ false → P s) → (s : Resource) → P s
every r P here others s = by (same_resource r s) refl where
  by : (b : Bool) → same_resource r s ≡ b → P s
  by true e = subst P (same_is r s e) here
  by false e = others s e

-- it is left out
pub has_without : (space next : SpaceState) (l : Lock) (before : List Lock) → HasAll space before → queue_of l.resource next
    ≡ queue.restored (grant_of l) (queue_of l.resource space) →
    KeepsOthers l.resource space next → conflicts_with_any l.ask (asks_of (locks_on l.resource before)) ≡ true → HasAll next before
has_without space next l before has is others refused =
    every l.resource (λ r. Has r (queue_of r next) before) (subst (λ q. Has l.resource q before) (sym (is ∙ same)) (has l.resource))
    (λ s differ. subst (λ q. Has s q before) (sym (others s differ)) (has s))
  where
    same : queue.restored (grant_of l) (queue_of l.resource space) ≡ queue_of l.resource space
    same =
        let test : conflicts l.ask (queue_of l.resource space).granted ≡ true =
        refused_where (queue_of l.resource space) l before (has l.resource) ∙ refused in
        ap (λ b. if not b then (record (queue_of l.resource space) { granted = (queue_of l.resource space).granted ++ grant_of l ∷ [] })
        else queue_of l.resource space) test

-- it stands again
pub has_with : (space next : SpaceState) (l : Lock) (before : List Lock) → HasAll space before → queue_of l.resource next
    ≡ queue.restored (grant_of l) (queue_of l.resource space) →
    KeepsOthers l.resource space next → conflicts_with_any l.ask (asks_of (locks_on l.resource before)) ≡ false → HasAll next (l ∷ before)
has_with space next l before has is others free =
    every l.resource (λ r. Has r (queue_of r next) (l ∷ before)) (subst (λ q. Has l.resource q (l ∷ before)) (sym (is ∙ same)) here)
    (λ s differ. subst (λ q. Has s q (l ∷ before)) (sym (others s differ)) (elsewhere s differ))
  where
    one : QueueState
    one = queue_of l.resource space

    same : queue.restored (grant_of l) one ≡ record { granted = one.granted ++ grant_of l ∷ []; waiting = one.waiting }
    same =
        let test : conflicts l.ask one.granted ≡ false = refused_where one l before (has l.resource) ∙ free in
        ap (λ b. if not b then (record one { granted = one.granted ++ grant_of l ∷ [] }) else one) test

    here : Has l.resource (record { granted = one.granted ++ grant_of l ∷ []; waiting = one.waiting }) (l ∷ before)
    here = (
      subst (λ ls. IsPermutation (one.granted ++ grant_of l ∷ []) (grants_of ls)) (sym (on_itself l before))
          (IsPermutation-trans (one.granted ++ grant_of l ∷ []) (grant_of l ∷ one.granted)
          (grant_of l ∷ grants_of (locks_on l.resource before))
          (IsPermutation-to_front one.granted (grant_of l)) (IsPermutation-cons (grant_of l) one.granted
          (grants_of (locks_on l.resource before)) (has l.resource).0)),
      (has l.resource).1,
    )

    elsewhere : (s : Resource) → same_resource l.resource s ≡ false → Has s (queue_of s space) (l ∷ before)
    elsewhere s differ = (
      subst (λ ls. IsPermutation (queue_of s space).granted (grants_of ls)) (sym (on_other s l before differ))
          (has s).0,
      (has s).1,
    )

-- in another order they are there too
has_permuted : (space : SpaceState) (xs ys : List Lock) → IsPermutation xs ys → HasAll space xs → HasAll space ys
has_permuted space xs ys moved has = λ r. (
  IsPermutation-trans (queue_of r space).granted (grants_of (locks_on r xs)) (grants_of (locks_on r ys)) (has r).0
      (IsPermutation-map grant_of (locks_on r xs) (locks_on r ys) (IsPermutation-filter (λ l. same_resource l.resource r) xs ys moved)),
  (has r).1,
)

pub has_restored : (locks before : List Lock) (space after_it : SpaceState) → HasAll space before → AreRestored locks space after_it
    → HasAll after_it (before ++ restored before locks)
has_restored [] before space after_it has same = subst (λ s. HasAll s (before ++ [])) (sym same)
    (subst (HasAll space) (sym (nil_after before)) has) where
      nil_after : (ls : List Lock) → ls ++ [] ≡ ls
      nil_after [] = refl
      nil_after (l ∷ ls) = ap (λ more. l ∷ more) (nil_after ls)
has_restored (l ∷ locks) before space after_it has (next, is, others, rest) =
    by (conflicts_with_any l.ask (asks_of (locks_on l.resource before))) refl (λ b a. has_restored locks b next after_it a rest) where
      by : (v : Bool) → conflicts_with_any l.ask (asks_of (locks_on l.resource before)) ≡ v →
          ((b : List Lock) → HasAll next b → HasAll after_it (b ++ restored b locks)) →
          HasAll after_it (before ++ (if v then restored before locks else l ∷ restored (l ∷ before) locks))
      by true e later = later before (has_without space next l before has is others e)
      by false e later =
          has_permuted after_it (l ∷ (before ++ restored (l ∷ before) locks)) (before ++ l ∷ restored (l ∷ before) locks)
          (IsPermutation-sym (before ++ l ∷ restored (l ∷ before) locks) (l ∷ (before ++ restored (l ∷ before) locks))
          (IsPermutation-middle before l (restored (l ∷ before) locks)))
          (later (l ∷ before) (has_with space next l before has is others e))

-- what was left out changes no order
above_restored : (n : ℕ) (locks before : List Lock) → Above n locks → Above n (restored before locks)
above_restored n [] before above = tt
above_restored n (l ∷ locks) before above =
    by (conflicts_with_any l.ask (asks_of (locks_on l.resource before))) (above_restored n locks before above.1)
    (above_restored n locks (l ∷ before) above.1) where
      by : (v : Bool) → Above n (restored before locks) → Above n (restored (l ∷ before) locks)
          → Above n (if v then restored before locks else l ∷ restored (l ∷ before) locks)
      by true a b = a
      by false a b = (above.0, b)

rises_restored : (locks before : List Lock) → Rises locks → Rises (restored before locks)
rises_restored [] before rises = tt
rises_restored (l ∷ locks) before rises =
    by (conflicts_with_any l.ask (asks_of (locks_on l.resource before))) (rises_restored locks before rises.1)
    (rises_restored locks (l ∷ before) rises.1) where
      by : (v : Bool) → Rises (restored before locks) → Rises (restored (l ∷ before) locks)
          → Rises (if v then restored before locks else l ∷ restored (l ∷ before) locks)
      by true a b = a
      by false a b = (above_restored l.cookie.0 locks (l ∷ before) rises.0, b)

all_restored : (n : ℕ) (locks before : List Lock) → All (λ l. l.cookie.0 ≤ n) locks → All (λ l. l.cookie.0 ≤ n) (restored before locks)
all_restored n [] before all = λ k d within. absurd (omega arith)
all_restored n (l ∷ locks) before all =
    by (conflicts_with_any l.ask (asks_of (locks_on l.resource before))) (all_restored n locks before rest)
    (all_restored n locks (l ∷ before) rest) where
      rest : All (λ k. k.cookie.0 ≤ n) locks
      rest = rest_all (λ k. k.cookie.0 ≤ n) l locks all

      by : (v : Bool) → All (λ k. k.cookie.0 ≤ n) (restored before locks) → All (λ k. k.cookie.0 ≤ n) (restored (l ∷ before) locks) →
          All (λ k. k.cookie.0 ≤ n) (if v then restored before locks else l ∷ restored (l ∷ before) locks)
      by true a b = a
      by false a b = All-cons (λ k. k.cookie.0 ≤ n) l (restored (l ∷ before) locks) (all 0 l (omega arith)) b

-- the call answers whether the rows keep the lock
pub restore_answers : (space : SpaceState) (l : Lock) (before : List Lock) (answer : Bool) → HasAll space before → answer
    ≡ queue.may_restore (grant_of l) (queue_of l.resource space) →
    answer ≡ not (conflicts_with_any l.ask (asks_of (locks_on l.resource before)))
restore_answers space l before answer has is = is ∙ ap not (refused_where (queue_of l.resource space) l before (has l.resource))

-- one more was restored after them, as at a step of a loop
pub restored_more : (locks : List Lock) (l : Lock) (before mid after_it : SpaceState) → AreRestored locks before mid →
    queue_of l.resource after_it ≡ queue.restored (grant_of l) (queue_of l.resource mid) → KeepsOthers l.resource mid after_it →
    AreRestored (locks ++ l ∷ []) before after_it
restored_more [] l before mid after_it same added others = subst (λ s. AreRestored (l ∷ []) s after_it) same (after_it, added, others, refl)
restored_more (k ∷ locks) l before mid after_it (next, a, b, rest) added others =
    (next, a, b, restored_more locks l next mid after_it rest added others)

pub has_none : HasAll empty []
has_none = λ r. (IsPermutation-refl [], refl)

-- the close: what was restored over an empty lockspace is what stands again
pub restores : (after_it : SpaceState) (v : Target) (o : Outcome) (locks : List Lock) → o.locks ≡ restored [] locks
    → AreRestored locks empty after_it → IsSpace after_it →
    AllPairs (λ earlier later. earlier.cookie.0 < later.cookie.0) locks → All (λ l. l.cookie.0 ≤ v.cookie) locks
    → ShowsLocks after_it (after v (Close o))
restores after_it v o locks kept steps lawful rising low = record {
  lawful = lawful;
  queues = λ r. record {
    granted = subst (λ ls. IsPermutation (queue_of r after_it).granted (grants_of (locks_on r ls))) (sym kept) (all r).0;
    waiting = (all r).1;
  };
  rising = subst (λ ls. AllPairs (λ earlier later. earlier.cookie.0 < later.cookie.0) ls) (sym kept)
      (pairs_from (restored [] locks) (rises_restored locks [] (rises_from locks rising)));
  granted = subst (λ ls. All (λ l. l.cookie.0 ≤ v.cookie) ls) (sym kept) (all_restored v.cookie locks [] low);
  waiting = λ k d within. absurd (omega arith);
}
  where
    all : HasAll after_it (restored [] locks)
    all = has_restored locks [] empty after_it has_none steps

-- a lockspace without locks, where the rows have none, as at the start of a run
pub begins : (v : Target) → IsSpace empty → v.granted ≡ [] → v.waiting ≡ [] → ShowsLocks empty v
begins v lawful granted waiting = record {
  lawful = lawful;
  queues = λ r. record {
    granted = subst (λ ls. IsPermutation [] (grants_of (locks_on r ls))) (sym granted) (IsPermutation-refl []);
    waiting = ap (λ ls. grants_of (locks_on r ls)) (sym waiting);
  };
  rising = subst (λ ls. AllPairs (λ earlier later. earlier.cookie.0 < later.cookie.0) ls) (sym granted)
      (λ i j d less within. absurd (omega arith));
  granted = subst (λ ls. All (λ l. l.cookie.0 ≤ v.cookie) ls) (sym granted) (λ k d within. absurd (omega arith));
  waiting = subst (λ ls. All (λ l. l.cookie.0 ≤ v.cookie) ls) (sym waiting) (λ k d within. absurd (omega arith));
}
