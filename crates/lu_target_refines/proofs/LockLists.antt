-- Lists of locks: how often a cookie is there, those on one resource, and rising cookies.
use Rattle.std.proofs.Common.{◌≡◌, ℕ, ◌+◌, ◌<◌, ◌≤◌, ◌==◌, ◌||◌, Bool, true, false, not, cond, List, [], ◌∷◌, ◌++◌, filter, All, AllPairs}
use Rattle.std.proofs.Common.{IsPermutation, nat_lt, refl, sym, ◌∙◌, ap, subst, arith}
use Rattle.std.specs.Prelude.{if◌then◌else◌, ⊤}
use Rattle.std.specs.List.{AllByRecursion}
use Rattle.std.proofs.lemmas.Bool.Decides.{nat_tests}
use Rattle.std.proofs.lemmas.Grind.{common_steps}
use Rattle.std.proofs.lemmas.List.Elements.{All-from_recursion, recursion_from_All}
use Rattle.std.proofs.lemmas.List.Kept.{AllPairs-cons}
use Rattle.std.proofs.lemmas.List.Sorted.{IsPermutation-refl, IsPermutation-trans, IsPermutation-cons, IsPermutation-middle}
use Rattle.lu_base.specs.declared.locks.Lock.{Lock}
use Rattle.lu_base.specs.declared.locks.Resource.{Resource}
use Rattle.lu_held.proofs.Lists.{rest_all, rest_pairs, first_pairs}
use Rattle.lu_queue.specs.declared.locks.Grant.{Grant}
use Rattle.lu_queue.specs.Queues as queue
use Rattle.lu_queue.specs.Queues.{other_than}
use Rattle.lu_queue.proofs.Lists as lists
use Rattle.lu_queue.proofs.Lists.{or_false}
use Rattle.lu_lockspace.specs.Spaces.{same_resource, grant_of, has, times}
use Rattle.lu_lockspace.proofs.Places.{times-append}
use Rattle.lu_lockspace.proofs.Resources.{same_itself, same_is, same_turned}
use Rattle.lu_spec_target.specs.Locks.{with_lock}
use Rattle.lu_spec_target.specs.Replies.{locks_on}
use Rattle.lu_target_refines.specs.Locks.{grants_of}

-- ---- how often a cookie is there

pub times_more : (c : ℕ) (l : Lock) (locks : List Lock) → times c (l ∷ locks) ≡ times c (l ∷ []) + times c locks
times_more c l locks = times-append c (l ∷ []) locks

pub times_itself : (l : Lock) → times l.cookie.0 (l ∷ []) ≡ 1
times_itself l = let here : (l.cookie.0 == l.cookie.0) ≡ true = grind (arith, nat_tests) in rw here refl

pub times_other : (c : ℕ) (l : Lock) → (l.cookie.0 == c) ≡ false → times c (l ∷ []) ≡ 0
times_other c l e = rw e refl

pub no_times : (c : ℕ) (locks : List Lock) → has c locks ≡ false → times c locks ≡ 0
no_times c [] none = refl
no_times c (l ∷ locks) none =
    let parts = or_false (l.cookie.0 == c) (has c locks) none in
    let rest = no_times c locks parts.1 in
    let one = times_other c l parts.0 in
    let all = times_more c l locks in
    omega (arith, rest, one, all)

pub none_has : (c : ℕ) (locks : List Lock) → times c locks ≡ 0 → has c locks ≡ false
none_has c [] none = refl
none_has c (l ∷ locks) none = by (l.cookie.0 == c) refl (none_has c locks) where
  by : (here : Bool) → (l.cookie.0 == c) ≡ here → (times c locks ≡ 0 → has c locks ≡ false) → (here || has c locks) ≡ false
  by true e rest =
      let one : times c (l ∷ []) ≡ 1 = rw e refl in
      let all = times_more c l locks in
      absurd (omega (arith, one, all, none))
  by false e rest = let all = times_more c l locks in rest (omega (arith, all, none))

pub some_times : (c : ℕ) (locks : List Lock) → has c locks ≡ true → 1 ≤ times c locks
some_times c [] some = absurd (cc)
some_times c (l ∷ locks) some = by (l.cookie.0 == c) refl some (some_times c locks) where
  by : (here : Bool) → (l.cookie.0 == c) ≡ here → (here || has c locks) ≡ true → (has c locks ≡ true → 1 ≤ times c locks)
      → 1 ≤ times c (l ∷ locks)
  by true e h rest =
      let one : times c (l ∷ []) ≡ 1 = rw e refl in
      let all = times_more c l locks in
      omega (arith, one, all)
  by false e h rest = let few = rest h in let all = times_more c l locks in omega (arith, few, all)

pub times_filter : (c : ℕ) (test : Lock → Bool) (locks : List Lock) → times c (filter test locks) ≤ times c locks
times_filter c test [] = omega arith
times_filter c test (l ∷ locks) = let rest = times_filter c test locks in grind (arith, common_steps, rest)

pub has_filter : (c : ℕ) (test : Lock → Bool) (locks : List Lock) → has c locks ≡ false → has c (filter test locks) ≡ false
has_filter c test locks none =
    let few = times_filter c test locks in
    let zero_times = no_times c locks none in
    none_has c (filter test locks) (omega (arith, few, zero_times))

-- a cookie above all others is new
pub not_above : (n c : ℕ) (locks : List Lock) → n < c → All (λ l. l.cookie.0 ≤ n) locks → has c locks ≡ false
not_above n c [] above all = refl
not_above n c (l ∷ locks) above all =
    let low : l.cookie.0 ≤ n = all 0 l (omega arith) in
    let here : (l.cookie.0 == c) ≡ false = grind (arith, nat_tests) in
    rw here (not_above n c locks above (rest_all (λ k. k.cookie.0 ≤ n) l locks all))

-- ---- the locks that are left

pub times_without : (c : ℕ) (locks : List Lock) → times c (filter (λ k. not (k.cookie.0 == c)) locks) ≡ 0
times_without c [] = refl
times_without c (l ∷ locks) = by (l.cookie.0 == c) refl (times_without c locks) where
  by : (here : Bool) → (l.cookie.0 == c) ≡ here → times c (filter (λ k. not (k.cookie.0 == c)) locks) ≡ 0 →
      times c (cond (not here) (l ∷ filter (λ k. not (k.cookie.0 == c)) locks) (filter (λ k. not (k.cookie.0 == c)) locks)) ≡ 0
  by true e rest = rest
  by false e rest =
      let one = times_other c l e in
      let all = times_more c l (filter (λ k. not (k.cookie.0 == c)) locks) in
      omega (arith, one, all, rest)

pub nothing_taken : (c : ℕ) (locks : List Lock) → has c locks ≡ false → filter (λ k. not (k.cookie.0 == c)) locks ≡ locks
nothing_taken c [] none = refl
nothing_taken c (l ∷ locks) none =
    let parts = or_false (l.cookie.0 == c) (has c locks) none in
    rw parts.0 (ap (λ more. l ∷ more) (nothing_taken c locks parts.1))

pub filters_commute : {X : Type 0} (p q : X → Bool) (xs : List X) → filter p (filter q xs) ≡ filter q (filter p xs)
filters_commute p q [] = refl
filters_commute p q (x ∷ xs) = by (p x) refl (q x) refl (filters_commute p q xs) where
  by : (v : Bool) → p x ≡ v → (w : Bool) → q x ≡ w → filter p (filter q xs) ≡ filter q (filter p xs) →
      filter p (cond w (x ∷ filter q xs) (filter q xs)) ≡ filter q (cond v (x ∷ filter p xs) (filter p xs))
  by true e true f rest = rw (e, f) (ap (λ more. x ∷ more) rest)
  by true e false f rest = rw f rest
  by false e true f rest = rw e rest
  by false e false f rest = rest

-- ---- the locks as in a queue

pub grants_without : (c : ℕ) (locks : List Lock) → grants_of (filter (λ k. not (k.cookie.0 == c)) locks) ≡ other_than c (grants_of locks)
grants_without c [] = refl
grants_without c (l ∷ locks) = by (l.cookie.0 == c) (grants_without c locks) where
  by : (here : Bool) → grants_of (filter (λ k. not (k.cookie.0 == c)) locks) ≡ other_than c (grants_of locks) →
      grants_of (cond (not here) (l ∷ filter (λ k. not (k.cookie.0 == c)) locks) (filter (λ k. not (k.cookie.0 == c)) locks))
      ≡ cond (not here) (grant_of l ∷ other_than c (grants_of locks)) (other_than c (grants_of locks))
  by true rest = rest
  by false rest = ap (λ more. grant_of l ∷ more) rest

pub times_grants : (c : ℕ) (locks : List Lock) → queue.times c (grants_of locks) ≡ times c locks
times_grants c [] = refl
times_grants c (l ∷ locks) =
    let rest = times_grants c locks in
    let all = times_more c l locks in
    let more = lists.times-append c (grant_of l ∷ []) (grants_of locks) in
    let one : queue.times c (grant_of l ∷ []) ≡ times c (l ∷ []) = refl in
    omega (arith, rest, all, more, one)

pub has_grants : (c : ℕ) (locks : List Lock) → queue.has c (grants_of locks) ≡ has c locks
has_grants c [] = refl
has_grants c (l ∷ locks) = ap (λ b. (l.cookie.0 == c) || b) (has_grants c locks)

none_other : (c : ℕ) (grants : List Grant) → queue.times c grants ≡ 0 → other_than c grants ≡ grants
none_other c [] none = refl
none_other c (g ∷ grants) none = by (g.cookie.0 == c) refl (none_other c grants) where
  all : queue.times c (g ∷ grants) ≡ queue.times c (g ∷ []) + queue.times c grants
  all = lists.times-append c (g ∷ []) grants

  by : (here : Bool) → (g.cookie.0 == c) ≡ here → (queue.times c grants ≡ 0 → other_than c grants ≡ grants)
      → cond (not here) (g ∷ other_than c grants) (other_than c grants) ≡ g ∷ grants
  by true e rest = let one : queue.times c (g ∷ []) ≡ 1 = rw e refl in absurd (omega (arith, one, all, none))
  by false e rest = ap (λ more. g ∷ more) (rest (omega (arith, all, none)))

-- one is taken out, and the others stay
pub one_taken : (ahead : List Grant) (grant : Grant) (behind : List Grant) → queue.times grant.cookie.0 (ahead ++ grant ∷ behind) ≤ 1 →
    other_than grant.cookie.0 (ahead ++ grant ∷ behind) ≡ ahead ++ behind
one_taken [] grant behind once =
    let here : (grant.cookie.0 == grant.cookie.0) ≡ true = grind (arith, nat_tests) in
    let one : queue.times grant.cookie.0 (grant ∷ []) ≡ 1 = rw here refl in
    let all = lists.times-append grant.cookie.0 (grant ∷ []) behind in
    rw here (none_other grant.cookie.0 behind (omega (arith, one, all, once)))
one_taken (g ∷ ahead) grant behind once = by (g.cookie.0 == grant.cookie.0) refl (one_taken ahead grant behind) where
  first : queue.times grant.cookie.0 (g ∷ (ahead ++ grant ∷ behind))
      ≡ queue.times grant.cookie.0 (g ∷ []) + queue.times grant.cookie.0 (ahead ++ grant ∷ behind)
  first = lists.times-append grant.cookie.0 (g ∷ []) (ahead ++ grant ∷ behind)

  here : (grant.cookie.0 == grant.cookie.0) ≡ true
  here = grind (arith, nat_tests)

  one : queue.times grant.cookie.0 (grant ∷ []) ≡ 1
  one = rw here refl

  some : 1 ≤ queue.times grant.cookie.0 (ahead ++ grant ∷ behind)
  some =
      let a = lists.times-append grant.cookie.0 ahead (grant ∷ behind) in
      let b = lists.times-append grant.cookie.0 (grant ∷ []) behind in
      omega (arith, a, b, one)

  by : (same : Bool) → (g.cookie.0 == grant.cookie.0) ≡ same →
      (queue.times grant.cookie.0 (ahead ++ grant ∷ behind) ≤ 1 → other_than grant.cookie.0 (ahead ++ grant ∷ behind) ≡ ahead ++ behind) →
      cond (not same) (g ∷ other_than grant.cookie.0 (ahead ++ grant ∷ behind)) (other_than grant.cookie.0 (ahead ++ grant ∷ behind)) ≡ g
      ∷ (ahead ++ behind)
  by true e rest = let two : queue.times grant.cookie.0 (g ∷ []) ≡ 1 = rw e refl in absurd (omega (arith, two, first, some, once))
  by false e rest = ap (λ more. g ∷ more) (rest (omega (arith, first, once)))

-- ---- rising cookies

abbrev pub Above : ℕ → List Lock → Type 0
Above n locks = AllByRecursion (λ l. n < l.cookie.0) locks

abbrev pub Rises : List Lock → Type 0
Rises [] = ⊤
Rises (l ∷ locks) = Above l.cookie.0 locks × Rises locks

abbrev Less : Lock → Lock → Type 0
Less earlier later = earlier.cookie.0 < later.cookie.0

pub rises_from : (locks : List Lock) → AllPairs Less locks → Rises locks
rises_from [] pairs = tt
rises_from (l ∷ locks) pairs = (
  recursion_from_All (Less l) locks (first_pairs Less l locks pairs),
  rises_from locks (rest_pairs Less l locks pairs),
)

pub pairs_from : (locks : List Lock) → Rises locks → AllPairs Less locks
pairs_from [] rises = λ i j d less within. absurd (omega arith)
pairs_from (l ∷ locks) rises = AllPairs-cons Less l locks (All-from_recursion (Less l) locks rises.0) (pairs_from locks rises.1)

pub above_less : (n m : ℕ) (locks : List Lock) → n < m → Above m locks → Above n locks
above_less n m [] less above = tt
above_less n m (l ∷ locks) less above = let high = above.0 in (omega (arith, high, less), above_less n m locks less above.1)

above_with : (n : ℕ) (l : Lock) (locks : List Lock) → n < l.cookie.0 → Above n locks → Above n (with_lock l locks)
above_with n l [] less above = (less, tt)
above_with n l (k ∷ locks) less above = by (l.cookie.0 == k.cookie.0) (nat_lt l.cookie.0 k.cookie.0)
    (above_with n l locks less above.1) where
      by : (same below : Bool) → Above n (with_lock l locks) → Above n
          (if same then l ∷ locks else (if below then l ∷ k ∷ locks else k ∷ with_lock l locks))
      by true below rest = (less, above.1)
      by false true rest = (less, above)
      by false false rest = (above.0, rest)

pub rises_with : (l : Lock) (locks : List Lock) → Rises locks → Rises (with_lock l locks)
rises_with l [] rises = (tt, tt)
rises_with l (k ∷ locks) rises = by (l.cookie.0 == k.cookie.0) refl (nat_lt l.cookie.0 k.cookie.0) refl (rises_with l locks rises.1) where
  by : (same : Bool) → (l.cookie.0 == k.cookie.0) ≡ same → (below : Bool) → nat_lt l.cookie.0 k.cookie.0 ≡ below → Rises (with_lock l locks)
      →
      Rises (if same then l ∷ locks else (if below then l ∷ k ∷ locks else k ∷ with_lock l locks))
  by true e below f rest =
      let same : k.cookie.0 ≡ l.cookie.0 = grind (arith, nat_tests, e) in
      (subst (λ n. Above n locks) same rises.0, rises.1)
  by false e true f rest =
      let less : l.cookie.0 < k.cookie.0 = grind (arith, nat_tests, f) in
      ((less, above_less l.cookie.0 k.cookie.0 locks less rises.0), rises)
  by false e false f rest =
      let less : k.cookie.0 < l.cookie.0 = grind (arith, nat_tests, e, f) in
      (above_with k.cookie.0 l locks less rises.0, rest)

above_filter : (n : ℕ) (test : Lock → Bool) (locks : List Lock) → Above n locks → Above n (filter test locks)
above_filter n test [] above = tt
above_filter n test (l ∷ locks) above = by (test l) (above_filter n test locks above.1) where
  by : (v : Bool) → Above n (filter test locks) → Above n (cond v (l ∷ filter test locks) (filter test locks))
  by true rest = (above.0, rest)
  by false rest = rest

pub rises_filter : (test : Lock → Bool) (locks : List Lock) → Rises locks → Rises (filter test locks)
rises_filter test [] rises = tt
rises_filter test (l ∷ locks) rises = by (test l) (rises_filter test locks rises.1) where
  by : (v : Bool) → Rises (filter test locks) → Rises (cond v (l ∷ filter test locks) (filter test locks))
  by true rest = (above_filter l.cookie.0 test locks rises.0, rest)
  by false rest = rest

-- a new one among the others
pub placed_among : (l : Lock) (locks : List Lock) → has l.cookie.0 locks ≡ false → IsPermutation (l ∷ locks) (with_lock l locks)
placed_among l [] new = IsPermutation-refl (l ∷ [])
placed_among l (k ∷ locks) new =
    by (l.cookie.0 == k.cookie.0) refl (nat_lt l.cookie.0 k.cookie.0)
    (placed_among l locks (or_false (k.cookie.0 == l.cookie.0) (has l.cookie.0 locks) new).1) where
      differ : (k.cookie.0 == l.cookie.0) ≡ false
      differ = (or_false (k.cookie.0 == l.cookie.0) (has l.cookie.0 locks) new).0

      by : (same : Bool) → (l.cookie.0 == k.cookie.0) ≡ same → (below : Bool) → IsPermutation (l ∷ locks) (with_lock l locks) →
          IsPermutation (l ∷ k ∷ locks) (if same then l ∷ locks else (if below then l ∷ k ∷ locks else k ∷ with_lock l locks))
      by true e below rest = absurd (grind (arith, nat_tests, e, differ))
      by false e true rest = IsPermutation-refl (l ∷ k ∷ locks)
      by false e false rest =
          IsPermutation-trans (l ∷ k ∷ locks) (k ∷ l ∷ locks) (k ∷ with_lock l locks)
          (IsPermutation-middle (l ∷ []) k locks) (IsPermutation-cons k (l ∷ locks) (with_lock l locks) rest)

-- ---- the locks on one resource

pub on_itself : (l : Lock) (locks : List Lock) → locks_on l.resource (l ∷ locks) ≡ l ∷ locks_on l.resource locks
on_itself l locks = ap (λ b. cond b (l ∷ locks_on l.resource locks) (locks_on l.resource locks)) (same_itself l.resource)

pub on_other : (r : Resource) (l : Lock) (locks : List Lock) → same_resource l.resource r ≡ false → locks_on r (l ∷ locks)
    ≡ locks_on r locks
on_other r l locks differ = ap (λ b. cond b (l ∷ locks_on r locks) (locks_on r locks)) differ

-- a cookie on one resource isn't on another
pub times_apart : (c : ℕ) (r s : Resource) → same_resource r s ≡ false → (locks : List Lock)
    → times c (locks_on r locks) + times c (locks_on s locks) ≤ times c locks
times_apart c r s differ [] = omega arith
times_apart c r s differ (l ∷ locks) = by (same_resource l.resource r) refl (same_resource l.resource s) refl
    (times_apart c r s differ locks) where
      all : times c (l ∷ locks) ≡ times c (l ∷ []) + times c locks
      all = times_more c l locks

      clash : same_resource l.resource r ≡ true → same_resource l.resource s ≡ true → ⊥
      clash e f =
          let same : r ≡ l.resource = same_is r l.resource (same_turned r l.resource ∙ e) in
          let both : same_resource r s ≡ true = subst (λ k. same_resource k s ≡ true) (sym same) f in
          cc (both, differ)

      by : (v : Bool) → same_resource l.resource r ≡ v → (w : Bool) → same_resource l.resource s ≡ w
          → times c (locks_on r locks) + times c (locks_on s locks) ≤ times c locks →
          times c (cond v (l ∷ locks_on r locks) (locks_on r locks)) + times c (cond w (l ∷ locks_on s locks) (locks_on s locks)) ≤ times c
          (l ∷ locks)
      by true e true f rest = absurd (clash e f)
      by true e false f rest = let one = times_more c l (locks_on r locks) in omega (arith, all, one, rest)
      by false e true f rest = let one = times_more c l (locks_on s locks) in omega (arith, all, one, rest)
      by false e false f rest = omega (arith, all, rest)
