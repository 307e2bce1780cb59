-- Each granted lock is found by its cookie, and the granted locks of a resource are counted in rising cookie.
use Rattle.std.proofs.Common.{◌≡◌, ℕ, suc, ◌+◌, ◌<◌, ◌≤◌, ◌==◌, ◌||◌, Bool, true, false, cond, Option, Some, None, find, List, [], ◌∷◌}
use Rattle.std.proofs.Common.{length, All, get_or, refl, sym, ◌∙◌, ap, subst, arith, inl, inr, ◌⊎◌}
use Rattle.std.specs.Prelude.{slice_get}
use Rattle.std.specs.Option.{option_map, option_or}
use Rattle.std.specs.List.{AllByRecursion}
use Rattle.std.proofs.lemmas.Bool.{cases_lt}
use Rattle.std.proofs.lemmas.Bool.Decides.{nat_tests}
use Rattle.std.proofs.lemmas.List.Elements.{All-from_recursion}
use Rattle.std.proofs.lemmas.List.Folds.{find-append}
use Rattle.std.proofs.lemmas.List.Sorted.{sum_by-IsPermutation}
use Rattle.lu_base.specs.declared.locks.Lock.{Lock}
use Rattle.lu_base.specs.declared.locks.Resource.{Resource}
use Rattle.lu_held.proofs.Lists.{some_is}
use Rattle.lu_queue.specs.declared.locks.Grant.{Grant as Granted}
use Rattle.lu_queue.specs.Queues as queue
use Rattle.lu_queue.proofs.Lists as lists
use Rattle.lu_lockspace.specs.Spaces.{SpaceState, IsAt, same_resource, grant_of, lock_on, queue_of, has, times, lock_of}
use Rattle.lu_lockspace.proofs.Resources.{same_is}
use Rattle.lu_spec_target.specs.Replies.{locks_on}
use Rattle.lu_spec_target.specs.States.{Target}
use Rattle.lu_target_refines.specs.Locks.{grants_of, ShowsLocks}
use Rattle.lu_target_refines.proofs.LockLists.{times_more, times_grants, Above, Rises, rises_from, rises_filter, above_less}
use Rattle.lu_target_refines.proofs.Finding.{find_granted, found_permuted}

-- ---- each granted lock

pub finds_itself : (locks : List Lock) → Rises locks → AllByRecursion (λ l. find (λ k. k.cookie.0 == l.cookie.0) locks ≡ Some l) locks
finds_itself [] rises = tt
finds_itself (l ∷ locks) rises = (here, later l locks locks rises.0 (finds_itself locks rises.1)) where
  here : find (λ k. k.cookie.0 == l.cookie.0) (l ∷ locks) ≡ Some l
  here = let same : (l.cookie.0 == l.cookie.0) ≡ true = grind (arith, nat_tests) in rw same refl

  later : (l : Lock) (all locks : List Lock) → Above l.cookie.0 locks
      → AllByRecursion (λ m. find (λ k. k.cookie.0 == m.cookie.0) all ≡ Some m) locks →
      AllByRecursion (λ m. find (λ k. k.cookie.0 == m.cookie.0) (l ∷ all) ≡ Some m) locks
  later l all [] above each = tt
  later l all (m ∷ locks) above each =
      let high = above.0 in
      let differ : (l.cookie.0 == m.cookie.0) ≡ false = grind (arith, nat_tests, high) in
      (rw differ each.0, later l all locks above.1 each.1)

found_some : (c : ℕ) (locks : List Lock) (l : Lock) → find (λ k. k.cookie.0 == c) locks ≡ Some l → has c locks ≡ true
found_some c [] l found = absurd (cc)
found_some c (k ∷ locks) l found = by (k.cookie.0 == c) found (found_some c locks l) where
  by : (here : Bool) → cond here (Some k) (find (λ x. x.cookie.0 == c) locks) ≡ Some l
      → (find (λ x. x.cookie.0 == c) locks ≡ Some l → has c locks ≡ true) → (here || has c locks) ≡ true
  by true h rest = refl
  by false h rest = rest h

-- a lock that the rows have is the one that the lockspace finds, and is granted there
pub found_each : (space : SpaceState) (v : Target) → ShowsLocks space v →
    All (λ l. (lock_of l.cookie.0 space ≡ Some l) × (has l.cookie.0 space.granted ≡ true)) v.granted
found_each space v shows =
    All-from_recursion (λ l. (lock_of l.cookie.0 space ≡ Some l) × (has l.cookie.0 space.granted ≡ true)) v.granted
    (each v.granted (finds_itself v.granted (rises_from v.granted shows.rising)))
  where
    one : (l : Lock) → find (λ k. k.cookie.0 == l.cookie.0) v.granted ≡ Some l → (lock_of l.cookie.0 space ≡ Some l)
        × (has l.cookie.0 space.granted ≡ true)
    one l there =
        let granted : find (λ k. k.cookie.0 == l.cookie.0) space.granted ≡ Some l = find_granted space v l.cookie.0 shows ∙ there in (
          find-append (λ k. k.cookie.0 == l.cookie.0) space.granted space.waiting
              ∙ ap (λ o. option_or o (find (λ k. k.cookie.0 == l.cookie.0) space.waiting)) granted,
          found_some l.cookie.0 space.granted l granted,
        )

    each : (locks : List Lock) → AllByRecursion (λ l. find (λ k. k.cookie.0 == l.cookie.0) v.granted ≡ Some l) locks →
        AllByRecursion (λ l. (lock_of l.cookie.0 space ≡ Some l) × (has l.cookie.0 space.granted ≡ true)) locks
    each [] there = tt
    each (l ∷ locks) there = (one l there.0, each locks there.1)

-- ---- rising lists in which the same is found are the same

none_found : (c n : ℕ) (locks : List Lock) → c ≤ n → Above n locks → find (λ l. l.cookie.0 == c) locks ≡ None
none_found c n [] low above = refl
none_found c n (l ∷ locks) low above =
    let high = above.0 in
    let differ : (l.cookie.0 == c) ≡ false = grind (arith, nat_tests, high, low) in
    rw differ (none_found c n locks low above.1)

first_found : (l : Lock) (locks : List Lock) → find (λ k. k.cookie.0 == l.cookie.0) (l ∷ locks) ≡ Some l
first_found l locks = let same : (l.cookie.0 == l.cookie.0) ≡ true = grind (arith, nat_tests) in rw same refl

none_some : (l : Lock) → None ≡ Some l → ⊥
none_some l e = cc

not_lower : (x y : Lock) (xs ys : List Lock) → Above y.cookie.0 ys
    → ((c : ℕ) → find (λ l. l.cookie.0 == c) (x ∷ xs) ≡ find (λ l. l.cookie.0 == c) (y ∷ ys)) →
    x.cookie.0 < y.cookie.0 → ⊥
not_lower x y xs ys above same less =
    none_some x (sym (none_found x.cookie.0 x.cookie.0 (y ∷ ys) (omega arith) (less, above_less x.cookie.0 y.cookie.0 ys less above))
    ∙ sym (same x.cookie.0) ∙ first_found x xs)

numbers_same : (m n : ℕ) → (m < n → ⊥) → (n < m → ⊥) → m ≡ n
numbers_same m n a b = by (cases_lt m n) (cases_lt n m) where
  by : (m < n) ⊎ (n ≤ m) → (n < m) ⊎ (m ≤ n) → m ≡ n
  by (inl less) other = absurd (a less)
  by (inr most) (inl less) = absurd (b less)
  by (inr most) (inr least) = omega (arith, most, least)

same_found : (xs ys : List Lock) → Rises xs → Rises ys → ((c : ℕ) → find (λ l. l.cookie.0 == c) xs ≡ find (λ l. l.cookie.0 == c) ys) → xs
    ≡ ys
same_found [] [] up up2 same = refl
same_found [] (y ∷ ys) up up2 same = absurd (none_some y (same y.cookie.0 ∙ first_found y ys))
same_found (x ∷ xs) [] up up2 same = absurd (none_some x (sym (same x.cookie.0) ∙ first_found x xs))
same_found (x ∷ xs) (y ∷ ys) up up2 same = λ i. first i ∷ same_found xs ys up.1 up2.1 rest i where
  number : x.cookie.0 ≡ y.cookie.0
  number = numbers_same x.cookie.0 y.cookie.0 (not_lower x y xs ys up2.0 same) (not_lower y x ys xs up.0 (λ c. sym (same c)))

  first : x ≡ y
  first = some_is x y (sym (first_found x xs) ∙ same x.cookie.0
      ∙ subst (λ n. find (λ l. l.cookie.0 == n) (y ∷ ys) ≡ Some y) (sym number) (first_found y ys))

  rest : (c : ℕ) → find (λ l. l.cookie.0 == c) xs ≡ find (λ l. l.cookie.0 == c) ys
  rest c = by (x.cookie.0 == c) refl where
    by : (b : Bool) → (x.cookie.0 == c) ≡ b → find (λ l. l.cookie.0 == c) xs ≡ find (λ l. l.cookie.0 == c) ys
    by true e =
        let low : c ≤ x.cookie.0 = grind (arith, nat_tests, e) in
        let low2 : c ≤ y.cookie.0 = subst (λ n. c ≤ n) number low in
        none_found c x.cookie.0 xs low up.0 ∙ sym (none_found c y.cookie.0 ys low2 up2.0)
    by false e =
        let other : (y.cookie.0 == c) ≡ false = subst (λ n. (n == c) ≡ false) number e in
        sym (ap (λ b. cond b (Some x) (find (λ l. l.cookie.0 == c) xs)) e) ∙ same c
        ∙ ap (λ b. cond b (Some y) (find (λ l. l.cookie.0 == c) ys)) other

-- ---- locks in an order that doesn't fall rise, where no cookie is twice

abbrev Least : ℕ → List Lock → Type 0
Least n locks = AllByRecursion (λ l. n ≤ l.cookie.0) locks

least_less : (n m : ℕ) (locks : List Lock) → n ≤ m → Least m locks → Least n locks
least_less n m [] less least = tt
least_less n m (l ∷ locks) less least = let low = least.0 in (omega (arith, low, less), least_less n m locks less least.1)

abbrev Steps : List Lock → Type 0
Steps order = (place : ℕ) (d : Lock) → place + 1 < length order → (get_or order place d).cookie.0 ≤ (get_or order (place + 1) d).cookie.0

steps_rest : (l : Lock) (order : List Lock) → Steps (l ∷ order) → Steps order
steps_rest l order steps = λ place d within.
    let next : suc place + 1 ≡ suc (place + 1) = omega arith in
    subst (λ n. (get_or (l ∷ order) (suc place) d).cookie.0 ≤ (get_or (l ∷ order) n d).cookie.0) next (steps (suc place) d (omega arith))

least_of : (l : Lock) (order : List Lock) → Steps (l ∷ order) → Least l.cookie.0 order
least_of l [] steps = tt
least_of l (k ∷ order) steps =
    let low : l.cookie.0 ≤ k.cookie.0 = steps 0 l (omega arith) in
    (low, least_less l.cookie.0 k.cookie.0 order low (least_of k order (steps_rest l (k ∷ order) steps)))

above_of : (n : ℕ) (order : List Lock) → Least n order → times n order ≡ 0 → Above n order
above_of n [] least none = tt
above_of n (l ∷ order) least none = (by (l.cookie.0 == n) refl, above_of n order least.1 (omega (arith, all, none))) where
  all : times n (l ∷ order) ≡ times n (l ∷ []) + times n order
  all = times_more n l order

  low : n ≤ l.cookie.0
  low = least.0

  by : (b : Bool) → (l.cookie.0 == n) ≡ b → n < l.cookie.0
  by true e = let one : times n (l ∷ []) ≡ 1 = rw e refl in absurd (omega (arith, one, all, none))
  by false e = grind (arith, nat_tests, e, low)

rises_once : (order : List Lock) → Steps order → ((c : ℕ) → times c order ≤ 1) → Rises order
rises_once [] steps once = tt
rises_once (l ∷ order) steps once = (
  above_of l.cookie.0 order (least_of l order steps) none,
  rises_once order (steps_rest l order steps) later,
) where
  none : times l.cookie.0 order ≡ 0
  none =
      let same : (l.cookie.0 == l.cookie.0) ≡ true = grind (arith, nat_tests) in
      let one : times l.cookie.0 (l ∷ []) ≡ 1 = rw same refl in
      let all = times_more l.cookie.0 l order in
      let most = once l.cookie.0 in
      omega (arith, one, all, most)

  later : (c : ℕ) → times c order ≤ 1
  later c = let all = times_more c l order in let most = once c in omega (arith, all, most)

-- ---- the granted lock at a place

find_grants : (c : ℕ) (r : Resource) (locks : List Lock) → find (λ l. l.cookie.0 == c) (locks_on r locks)
    ≡ option_map (lock_on r) (find (λ g. g.cookie.0 == c) (grants_of (locks_on r locks)))
find_grants c r [] = refl
find_grants c r (l ∷ locks) = by (same_resource l.resource r) refl (find_grants c r locks) where
  inner : l.resource ≡ r → (here : Bool) → find (λ k. k.cookie.0 == c) (locks_on r locks)
      ≡ option_map (lock_on r) (find (λ g. g.cookie.0 == c) (grants_of (locks_on r locks))) →
      cond here (Some l) (find (λ k. k.cookie.0 == c) (locks_on r locks))
      ≡ option_map (lock_on r) (cond here (Some (grant_of l)) (find (λ g. g.cookie.0 == c) (grants_of (locks_on r locks))))
  inner same true rest = λ i. Some (record { cookie = l.cookie; resource = same i; ask = l.ask })
  inner same false rest = rest

  by : (v : Bool) → same_resource l.resource r ≡ v →
      find (λ k. k.cookie.0 == c) (locks_on r locks) ≡ option_map (lock_on r) (find (λ g. g.cookie.0 == c) (grants_of (locks_on r locks))) →
      find (λ k. k.cookie.0 == c) (cond v (l ∷ locks_on r locks) (locks_on r locks))
      ≡ option_map (lock_on r) (find (λ g. g.cookie.0 == c) (grants_of (cond v (l ∷ locks_on r locks) (locks_on r locks))))
  by true e rest = inner (same_is l.resource r e) (l.cookie.0 == c) rest
  by false e rest = rest

pub granted_at : (space : SpaceState) (v : Target) (r : Resource) (at : ℕ) (found : Option Lock) → ShowsLocks space v
    → IsAt r at space.granted found →
    found ≡ slice_get (locks_on r v.granted) at
granted_at space v r at found shows is = is.is ∙ ap (λ locks. slice_get locks at) order where
  few : (c : ℕ) → queue.times c (queue_of r space).granted ≤ 1
  few c =
      let most = (shows.lawful.queues r).coherent.once c in
      let both = lists.times-append c (queue_of r space).granted (queue_of r space).waiting in
      omega (arith, most, both)

  few_locks : (c : ℕ) → times c (locks_on r space.granted) ≤ 1
  few_locks c = let same = times_grants c (locks_on r space.granted) in let most = few c in omega (arith, same, most)

  once : (c : ℕ) → times c is.order ≤ 1
  once c =
      let same : times c is.order ≡ times c (locks_on r space.granted) =
      sum_by-IsPermutation (λ (l : Lock). cond (l.cookie.0 == c) 1 0) (locks_on r space.granted) is.order is.rising.same in
      let most = few_locks c in
      omega (arith, same, most)

  found_in : (c : ℕ) → find (λ l. l.cookie.0 == c) is.order ≡ find (λ l. l.cookie.0 == c) (locks_on r v.granted)
  found_in c =
      sym (found_permuted (λ (l : Lock). l.cookie.0 == c) (locks_on r space.granted) is.order is.rising.same (few_locks c))
      ∙ find_grants c r space.granted
      ∙ ap (option_map (lock_on r)) (found_permuted (λ (g : Granted). g.cookie.0 == c) (queue_of r space).granted
      (grants_of (locks_on r v.granted)) (shows.queues r).granted (few c))
      ∙ sym (find_grants c r v.granted)

  order : is.order ≡ locks_on r v.granted
  order =
      same_found is.order (locks_on r v.granted) (rises_once is.order is.rising.rising once)
      (rises_filter (λ l. same_resource l.resource r) v.granted (rises_from v.granted shows.rising)) found_in
