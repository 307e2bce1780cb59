-- The locks of an act at the metadata target: each is for reading and on bits, so it is granted at once and doesn't grow. The
-- rows have all of them in the line of the act, and then a line for each.
use Rattle.std.proofs.Common.{◌≡◌, ℕ, ◌+◌, ◌<◌, ◌≤◌, ◌==◌, ◌||◌, ◌&&◌, max, Bool, true, false, not, cond, Option, Some, find, List, [], ◌∷◌}
use Rattle.std.proofs.Common.{◌++◌, All, nat_lt, refl, sym, ◌∙◌, ap, subst, arith}
use Rattle.std.specs.Prelude.{if◌then◌else◌, ⊤}
use Rattle.std.specs.List.{AllByRecursion}
use Rattle.std.proofs.lemmas.Bool.Decides.{nat_tests}
use Rattle.std.proofs.lemmas.List.Elements.{All-cons, All-filter}
use Rattle.std.proofs.lemmas.List.Sorted.{All-permutation}
use Rattle.lu_base.specs.declared.ids.Who.{Who}
use Rattle.lu_base.specs.declared.locks.Ask.{Ask}
use Rattle.lu_base.specs.declared.locks.Lock.{Lock}
use Rattle.lu_base.specs.declared.locks.Mode.TheVariants.{PR}
use Rattle.lu_base.specs.declared.locks.Policy.TheVariants.{Bits}
use Rattle.lu_held.proofs.Lists.{rest_all, some_is}
use Rattle.lu_lock.specs.Conflict.{conflict, conflicts_with_any}
use Rattle.lu_lock.specs.Growth.{granted_policy, grown_policy, opposing}
use Rattle.lu_lock.specs.Modes.{compatible}
use Rattle.lu_lock.specs.Overlap.{policies_meet}
use Rattle.lu_part.specs.declared.parts.Want.{Want}
use Rattle.lu_queue.specs.Queues as queue
use Rattle.lu_lockspace.specs.Spaces.{SpaceState, same_resource, grant_of, queue_of, KeepsOthers, has, IsSpace}
use Rattle.lu_spec_entries.specs.Carried.{Deed}
use Rattle.lu_spec_entries.specs.Words.{Act, Grant}
use Rattle.lu_spec_target.specs.Locks.{with_lock, with_locks, without_lock}
use Rattle.lu_spec_target.specs.Names.{locks_from, grant_lines, row_acts}
use Rattle.lu_spec_target.specs.Phase.{greatest_cookie}
use Rattle.lu_spec_target.specs.Queues.{has_to_wait, grown}
use Rattle.lu_spec_target.specs.Replies.{locks_on, asks_of, replies}
use Rattle.lu_spec_target.specs.States.{Target, after, turn}
use Rattle.lu_target_refines.specs.Locks.{ShowsLocks, AreEnqueued}
use Rattle.lu_target_refines.proofs.LockLists.{not_above, Above, Rises, rises_from, rises_with, placed_among}
use Rattle.lu_target_refines.proofs.Locks.{locks_same, enqueue_granted, LeavesLocks, turn-append}

-- a lock for reading, on bits
abbrev pub IsReading : Lock → Type 0
IsReading l = (l.ask.mode ≡ PR) × ((bits : ℕ) × (l.ask.policy ≡ Bits bits))

-- the cookies after this one
abbrev pub Numbered : ℕ → List Lock → Type 0
Numbered n [] = ⊤
Numbered n (l ∷ locks) = (l.cookie.0 ≡ n + 1) × Numbered (n + 1) locks

pub from_numbered : (n : ℕ) (who : Who) (wants : List Want) → Numbered n (locks_from n who wants)
from_numbered n who [] = tt
from_numbered n who (want ∷ wants) = (refl, from_numbered (n + 1) who wants)

pub from_reading : (n : ℕ) (who : Who) (wants : List Want) → AllByRecursion IsReading (locks_from n who wants)
from_reading n who [] = tt
from_reading n who (want ∷ wants) = ((refl, (want.bits, refl)), from_reading (n + 1) who wants)

-- one more was asked for after them, as at a step of a loop
pub enqueued_more : (locks : List Lock) (l : Lock) (before mid after_it : SpaceState) → AreEnqueued locks before mid →
    queue_of l.resource after_it ≡ queue.with_lock (grant_of l) (queue_of l.resource mid) → KeepsOthers l.resource mid after_it
    → IsSpace after_it →
    AreEnqueued (locks ++ l ∷ []) before after_it
enqueued_more [] l before mid after_it same added others lawful =
    subst (λ s. AreEnqueued (l ∷ []) s after_it) same (after_it, added, others, lawful, refl)
enqueued_more (k ∷ locks) l before mid after_it (next, a, b, c, rest) added others lawful =
    (next, a, b, c, enqueued_more locks l next mid after_it rest added others lawful)

-- ---- one of them

-- locks for reading don't conflict
no_conflict : (ask : Ask) (locks : List Lock) → ask.mode ≡ PR → All (λ l. l.ask.mode ≡ PR) locks → conflicts_with_any ask (asks_of locks)
    ≡ false
no_conflict ask [] mode all = refl
no_conflict ask (l ∷ locks) mode all =
    let other : l.ask.mode ≡ PR = all 0 l (omega arith) in
    let here : conflict ask l.ask ≡ false = λ i. not (compatible (mode i) (other i)) && policies_meet ask.policy l.ask.policy in
    let rest = no_conflict ask locks mode (rest_all (λ k. k.ask.mode ≡ PR) l locks all) in
    λ i. here i || rest i

reading_free : (v : Target) (l : Lock) → IsReading l → v.waiting ≡ [] → All (λ k. k.ask.mode ≡ PR) v.granted
    → has_to_wait v (locks_on l.resource v.waiting) l ≡ false
reading_free v l reading quiet all =
    let granted = no_conflict l.ask (locks_on l.resource v.granted) reading.0
    (All-filter (λ k. same_resource k.resource l.resource) (λ k. k.ask.mode ≡ PR) v.granted all) in
    let waiting : conflicts_with_any l.ask (asks_of (locks_on l.resource v.waiting)) ≡ false =
    ap (λ ls. conflicts_with_any l.ask (asks_of (locks_on l.resource ls))) quiet in
    λ i. granted i || waiting i

reading_stays : (v : Target) (others : List Lock) (l : Lock) → IsReading l → grown v others l ≡ l
reading_stays v others l reading = λ i. record l { ask = record l.ask { policy = same i } } where
  same : granted_policy l.ask (asks_of (locks_on l.resource v.granted)) (asks_of others) ≡ l.ask.policy
  same =
      ap (λ p. grown_policy p (opposing l.ask.mode (asks_of (locks_on l.resource v.granted))) (opposing l.ask.mode (asks_of others)))
      reading.1.1
      ∙ sym reading.1.1

one_admitted : (space next : SpaceState) (v : Target) (l : Lock) (asked : Option Deed) → ShowsLocks space v → IsReading l → l.cookie.0
    ≡ v.cookie + 1 → v.waiting ≡ [] →
    All (λ k. k.ask.mode ≡ PR) v.granted → queue_of l.resource next ≡ queue.with_lock (grant_of l) (queue_of l.resource space)
    → KeepsOthers l.resource space next → IsSpace next →
    ShowsLocks next (after v (Grant l asked))
one_admitted space next v l asked shows reading number quiet all added others lawful =
    subst (λ k. ShowsLocks next (after v (Grant k asked))) (reading_stays v (locks_on l.resource v.waiting) l reading)
    (enqueue_granted space next v l asked shows number added others lawful (reading_free v l reading quiet all))

-- ---- all of them, each by its own line

all_admitted : (d : Deed) (locks : List Lock) (space after_it : SpaceState) (v : Target) → ShowsLocks space v
    → AllByRecursion IsReading locks → Numbered v.cookie locks →
    v.waiting ≡ [] → All (λ k. k.ask.mode ≡ PR) v.granted → AreEnqueued locks space after_it
    → ShowsLocks after_it (turn v (grant_lines d locks))
all_admitted d [] space after_it v shows reading numbered quiet all same = subst (λ s. ShowsLocks s v) (sym same) shows
all_admitted d (l ∷ locks) space after_it v shows reading numbered quiet all (next, added, others, lawful, rest) =
    all_admitted d locks next after_it (after v (Grant l (Some d)))
    (one_admitted space next v l (Some d) shows reading.0 numbered.0 quiet all added others lawful)
    reading.1 (subst (λ n. Numbered n locks) higher numbered.1) (ap (without_lock l) quiet) more rest
  where
    higher : v.cookie + 1 ≡ max v.cookie l.cookie.0
    higher = let number = numbered.0 in omega (arith, number)

    new : has l.cookie.0 v.granted ≡ false
    new = let number = numbered.0 in not_above v.cookie l.cookie.0 v.granted (omega (arith, number)) shows.granted

    more : All (λ k. k.ask.mode ≡ PR) (with_lock l v.granted)
    more = All-permutation (λ k. k.ask.mode ≡ PR) (l ∷ v.granted) (with_lock l v.granted) (placed_among l v.granted new)
        (All-cons (λ k. k.ask.mode ≡ PR) l v.granted reading.0.0 all)

-- ---- what the lines come to

lines_granted : (d : Deed) (locks : List Lock) (v : Target) → (turn v (grant_lines d locks)).granted ≡ with_locks locks v.granted
lines_granted d [] v = refl
lines_granted d (l ∷ locks) v = lines_granted d locks (after v (Grant l (Some d)))

lines_cookie : (d : Deed) (locks : List Lock) (v : Target) → (turn v (grant_lines d locks)).cookie ≡ greatest_cookie v.cookie locks
lines_cookie d [] v = refl
lines_cookie d (l ∷ locks) v = lines_cookie d locks (after v (Grant l (Some d)))

lines_waiting : (d : Deed) (locks : List Lock) (v : Target) → v.waiting ≡ [] → (turn v (grant_lines d locks)).waiting ≡ []
lines_waiting d [] v quiet = quiet
lines_waiting d (l ∷ locks) v quiet = lines_waiting d locks (after v (Grant l (Some d))) (ap (without_lock l) quiet)

-- ---- a lock that is there already

abbrev IsThere : Lock → List Lock → Type 0
IsThere l locks = find (λ k. k.cookie.0 == l.cookie.0) locks ≡ Some l

there_above : (n : ℕ) (l : Lock) (locks : List Lock) → Above n locks → IsThere l locks → n < l.cookie.0
there_above n l [] above there = absurd (cc)
there_above n l (k ∷ locks) above there = by (k.cookie.0 == l.cookie.0) refl there (there_above n l locks above.1) where
  by : (here : Bool) → (k.cookie.0 == l.cookie.0) ≡ here → cond here (Some k) (find (λ x. x.cookie.0 == l.cookie.0) locks) ≡ Some l
      → (IsThere l locks → n < l.cookie.0) → n < l.cookie.0
  by true e h rest =
      let same : k.cookie.0 ≡ l.cookie.0 = grind (arith, nat_tests, e) in
      let high = above.0 in
      omega (arith, same, high)
  by false e h rest = rest h

with_same : (l : Lock) (locks : List Lock) → Rises locks → IsThere l locks → with_lock l locks ≡ locks
with_same l [] rises there = absurd (cc)
with_same l (k ∷ locks) rises there = by (k.cookie.0 == l.cookie.0) refl there (with_same l locks rises.1) where
  by : (here : Bool) → (k.cookie.0 == l.cookie.0) ≡ here → cond here (Some k) (find (λ x. x.cookie.0 == l.cookie.0) locks) ≡ Some l →
      (IsThere l locks → with_lock l locks ≡ locks) → with_lock l (k ∷ locks) ≡ k ∷ locks
  by true e h rest =
      let turned : (l.cookie.0 == k.cookie.0) ≡ true = grind (arith, nat_tests, e) in
      let same : k ≡ l = some_is k l h in
      rw turned (λ i. sym same i ∷ locks)
  by false e h rest =
      let turned : (l.cookie.0 == k.cookie.0) ≡ false = grind (arith, nat_tests, e) in
      let high = there_above k.cookie.0 l locks rises.0 h in
      let not_low : nat_lt l.cookie.0 k.cookie.0 ≡ false = grind (arith, nat_tests, high) in
      rw (turned, not_low) (ap (λ more. k ∷ more) (rest h))

there_with : (l : Lock) (locks : List Lock) → IsThere l (with_lock l locks)
there_with l [] = let here : (l.cookie.0 == l.cookie.0) ≡ true = grind (arith, nat_tests) in rw here refl
there_with l (k ∷ locks) = by (l.cookie.0 == k.cookie.0) refl (nat_lt l.cookie.0 k.cookie.0) (there_with l locks) where
  itself : (l.cookie.0 == l.cookie.0) ≡ true
  itself = grind (arith, nat_tests)

  by : (same : Bool) → (l.cookie.0 == k.cookie.0) ≡ same → (below : Bool) → IsThere l (with_lock l locks) →
      IsThere l (if same then l ∷ locks else (if below then l ∷ k ∷ locks else k ∷ with_lock l locks))
  by true e below rest = rw itself refl
  by false e true rest = rw itself refl
  by false e false rest =
      let turned : (k.cookie.0 == l.cookie.0) ≡ false = grind (arith, nat_tests, e) in
      rw turned rest

there_still : (l m : Lock) (locks : List Lock) → (m.cookie.0 == l.cookie.0) ≡ false → IsThere l locks → IsThere l (with_lock m locks)
there_still l m [] differ there = absurd (cc)
there_still l m (k ∷ locks) differ there =
    by (k.cookie.0 == l.cookie.0) refl (m.cookie.0 == k.cookie.0) refl (nat_lt m.cookie.0 k.cookie.0) there
    (there_still l m locks differ) where
      by : (here : Bool) → (k.cookie.0 == l.cookie.0) ≡ here → (same : Bool) → (m.cookie.0 == k.cookie.0) ≡ same → (below : Bool) →
          cond here (Some k) (find (λ x. x.cookie.0 == l.cookie.0) locks) ≡ Some l → (IsThere l locks → IsThere l (with_lock m locks)) →
          IsThere l (if same then m ∷ locks else (if below then m ∷ k ∷ locks else k ∷ with_lock m locks))
      by true e true f below h rest = absurd (grind (arith, nat_tests, e, f, differ))
      by true e false f true h rest = rw (differ, e) h
      by true e false f false h rest = rw e h
      by false e true f below h rest = rw differ h
      by false e false f true h rest = rw (differ, e) h
      by false e false f false h rest = rw e (rest h)

-- through all of them
there_later : (n : ℕ) (l : Lock) (more locks : List Lock) → l.cookie.0 ≤ n → Numbered n more → IsThere l locks
    → IsThere l (with_locks more locks)
there_later n l [] locks low numbered there = there
there_later n l (m ∷ more) locks low numbered there =
    let number = numbered.0 in
    let differ : (m.cookie.0 == l.cookie.0) ≡ false = grind (arith, nat_tests, number, low) in
    there_later (n + 1) l more (with_lock m locks) (omega (arith, low)) numbered.1 (there_still l m locks differ there)

all_there : (n : ℕ) (locks others : List Lock) → Numbered n locks → AllByRecursion (λ l. IsThere l (with_locks locks others)) locks
all_there n [] others numbered = tt
all_there n (l ∷ locks) others numbered =
    let number = numbered.0 in (
      there_later (n + 1) l locks (with_lock l others) (omega (arith, number)) numbered.1 (there_with l others),
      all_there (n + 1) locks (with_lock l others) numbered.1,
    )

with_again : (more locks : List Lock) → Rises locks → AllByRecursion (λ l. IsThere l locks) more → with_locks more locks ≡ locks
with_again [] locks rises there = refl
with_again (l ∷ more) locks rises there = ap (with_locks more) (with_same l locks rises there.0) ∙ with_again more locks rises there.1

rises_all : (more locks : List Lock) → Rises locks → Rises (with_locks more locks)
rises_all [] locks rises = rises
rises_all (l ∷ more) locks rises = rises_all more (with_lock l locks) (rises_with l locks rises)

-- the greatest cookie is so still
greatest_least : (n : ℕ) (locks : List Lock) → n ≤ greatest_cookie n locks
greatest_least n [] = omega arith
greatest_least n (l ∷ locks) = let rest = greatest_least (max n l.cookie.0) locks in omega (arith, rest)

greatest_again : (m n : ℕ) (locks : List Lock) → greatest_cookie n locks ≤ m → greatest_cookie m locks ≡ m
greatest_again m n [] high = refl
greatest_again m n (l ∷ locks) high =
    let low = greatest_least (max n l.cookie.0) locks in
    let same : max m l.cookie.0 ≡ m = omega (arith, high, low) in
    ap (λ k. greatest_cookie k locks) same ∙ greatest_again m (max n l.cookie.0) locks high

-- ---- the act

-- its line alone
pub act_admitted : (space after_it : SpaceState) (v : Target) (d : Deed) → ShowsLocks space v → AllByRecursion IsReading d.reply.locks
    → Numbered v.cookie d.reply.locks →
    v.waiting ≡ [] → All (λ k. k.ask.mode ≡ PR) v.granted → AreEnqueued d.reply.locks space after_it → ShowsLocks after_it (after v (Act d))
act_admitted space after_it v d shows reading numbered quiet all steps =
    locks_same after_it (turn v (grant_lines d d.reply.locks)) (after v (Act d)) (sym (lines_granted d d.reply.locks v))
    (quiet ∙ sym (lines_waiting d d.reply.locks v quiet))
    (sym (lines_cookie d d.reply.locks v)) (all_admitted d d.reply.locks space after_it v shows reading numbered quiet all steps)

-- the lines of the grants change nothing any more
pub act_lines : (v : Target) (d : Deed) → Rises v.granted → Numbered v.cookie d.reply.locks → v.waiting ≡ []
    → LeavesLocks (after v (Act d)) (turn (after v (Act d)) (grant_lines d d.reply.locks))
act_lines v d rises numbered quiet = (
  lines_granted d locks (after v (Act d))
      ∙ with_again locks (with_locks locks v.granted) (rises_all locks v.granted rises) (all_there v.cookie locks v.granted numbered),
  lines_waiting d locks (after v (Act d)) quiet ∙ sym quiet,
  lines_cookie d locks (after v (Act d)) ∙ greatest_again (greatest_cookie v.cookie locks) v.cookie locks (omega arith),
)
  where
    locks : List Lock
    locks = d.reply.locks

-- the whole of it
pub admitted : (space after_it : SpaceState) (v : Target) (d : Deed) → ShowsLocks space v → AllByRecursion IsReading d.reply.locks
    → Numbered v.cookie d.reply.locks →
    v.waiting ≡ [] → All (λ k. k.ask.mode ≡ PR) v.granted → AreEnqueued d.reply.locks space after_it
    → ShowsLocks after_it (turn v (row_acts d))
admitted space after_it v d shows reading numbered quiet all steps =
    let w : Target = after v (Act d) in
    let lines = act_lines v d (rises_from v.granted shows.rising) numbered quiet in
    subst (ShowsLocks after_it) (sym (turn-append w (grant_lines d d.reply.locks) (replies d ∷ [])))
    (locks_same after_it w (turn (turn w (grant_lines d d.reply.locks)) (replies d ∷ [])) lines.0 lines.1 lines.2
    (act_admitted space after_it v d shows reading numbered quiet all steps))
