-- All locks of one cookie are on one resource: so what is found of it there is what is found among all.
use Rattle.std.proofs.Common.{◌≡◌, ℕ, ◌+◌, ◌≤◌, ◌==◌, ◌||◌, Bool, true, false, cond, Option, Some, None, is_some, List, [], ◌∷◌, ◌++◌, map}
use Rattle.std.proofs.Common.{filter, find, refl, sym, ◌∙◌, ap, arith}
use Rattle.std.specs.Option.{option_map}
use Rattle.std.proofs.lemmas.Bool.Decides.{nat_tests}
use Rattle.std.proofs.lemmas.List.Sums.{sum_by-append}
use Rattle.std.proofs.lemmas.List.Folds.{list_any-append}
use Rattle.lu_base.specs.declared.locks.Lock.{Lock}
use Rattle.lu_base.specs.declared.locks.Resource.{Resource}
use Rattle.lu_queue.specs.declared.locks.Grant.{Grant}
use Rattle.lu_queue.specs.Queues as queue
use Rattle.lu_queue.specs.Queues.{QueueState, IsQueue}
use Rattle.lu_queue.proofs.Lists as lists
use Rattle.lu_queue.proofs.Keyed.{none_from_false}
use Rattle.lu_lockspace.specs.Spaces.{SpaceState, same_resource, grant_of, grants_on, lock_on, queue_of, has, is_in, lock_of, times}
use Rattle.lu_lockspace.specs.Entries.{is_place, IsPlaced}
use Rattle.lu_lockspace.proofs.Resources.{same_itself, same_is, grants_on-append}

pub times-append : (cookie : ℕ) (xs ys : List Lock) → times cookie (xs ++ ys) ≡ times cookie xs + times cookie ys
times-append cookie xs ys = sum_by-append (λ (lock : Lock). cond (lock.cookie.0 == cookie) 1 0) xs ys

-- no lock on another resource has the cookie
abbrev pub Elsewhere : ℕ → Resource → List Lock → Type 0
Elsewhere c r xs = (s : Resource) → same_resource r s ≡ false → queue.has c (grants_on s xs) ≡ false

-- one lock and the others on a resource
has_more : (c : ℕ) (s : Resource) (x : Lock) (xs : List Lock) → queue.has c (grants_on s (x ∷ xs)) ≡ false → queue.has c (grants_on s xs)
    ≡ false
has_more c s x xs = by (same_resource x.resource s) where
  on : List Lock
  on = filter (λ l. same_resource l.resource s) xs

  by : (b : Bool) → queue.has c (map grant_of (cond b (x ∷ on) on)) ≡ false → queue.has c (map grant_of on) ≡ false
  by true h = (lists.or_false (x.cookie.0 == c) (queue.has c (map grant_of on)) h).1
  by false h = h

elsewhere_more : (c : ℕ) (r : Resource) (x : Lock) (xs : List Lock) → Elsewhere c r (x ∷ xs) → Elsewhere c r xs
elsewhere_more c r x xs none = λ s differ. has_more c s x xs (none s differ)

-- a lock with the cookie is on the resource
on_it : (c : ℕ) (r : Resource) (x : Lock) (xs : List Lock) → Elsewhere c r (x ∷ xs) → (x.cookie.0 == c) ≡ true → same_resource r x.resource
    ≡ true
on_it c r x xs none here = by (same_resource r x.resource) refl where
  there : queue.has c (grants_on x.resource (x ∷ xs)) ≡ true
  there = rw (same_itself x.resource, here) refl

  by : (b : Bool) → same_resource r x.resource ≡ b → b ≡ true
  by true e = refl
  by false e = absurd (clash (queue.has c (grants_on x.resource (x ∷ xs))) there (none x.resource e)) where
    clash : (v : Bool) → v ≡ true → v ≡ false → ⊥
    clash v p q = cc

pub find_on : (c : ℕ) (r : Resource) (xs : List Lock) → Elsewhere c r xs →
    find (λ l. l.cookie.0 == c) xs ≡ option_map (lock_on r) (find (λ l. l.cookie.0 == c) (grants_on r xs))
find_on c r [] none = refl
find_on c r (x ∷ xs) none =
    by (x.cookie.0 == c) refl (find_on c r xs (elsewhere_more c r x xs none)) where
      on : List Lock
      on = filter (λ l. same_resource l.resource r) xs

      skip : (b : Bool) → (x.cookie.0 == c) ≡ false → find (λ l. l.cookie.0 == c) (map grant_of (cond b (x ∷ on) on))
          ≡ find (λ l. l.cookie.0 == c) (map grant_of on)
      skip true e = rw e refl
      skip false e = refl

      by : (b : Bool) → (x.cookie.0 == c) ≡ b → find (λ l. l.cookie.0 == c) xs
          ≡ option_map (lock_on r) (find (λ l. l.cookie.0 == c) (map grant_of on)) →
          find (λ l. l.cookie.0 == c) (x ∷ xs) ≡ option_map (lock_on r) (find (λ l. l.cookie.0 == c) (grants_on r (x ∷ xs)))
      by true e rest =
          let same : r ≡ x.resource = same_is r x.resource (on_it c r x xs none e) in
          rw (same, same_itself x.resource, e) refl
      by false e rest =
          let first : find (λ l. l.cookie.0 == c) (x ∷ xs) ≡ find (λ l. l.cookie.0 == c) xs = rw e refl in
          first ∙ rest ∙ ap (option_map (lock_on r)) (sym (skip (same_resource x.resource r) e))

pub times_on : (c : ℕ) (r : Resource) (xs : List Lock) → Elsewhere c r xs → times c xs ≡ queue.times c (grants_on r xs)
times_on c r [] none = refl
times_on c r (x ∷ xs) none =
    times-append c (x ∷ []) xs ∙ by (x.cookie.0 == c) refl (times_on c r xs (elsewhere_more c r x xs none)) where
      on : List Lock
      on = filter (λ l. same_resource l.resource r) xs

      skip : (b : Bool) → (x.cookie.0 == c) ≡ false → queue.times c (map grant_of (cond b (x ∷ on) on)) ≡ queue.times c (map grant_of on)
      skip true e =
          let first : queue.times c (grant_of x ∷ []) ≡ 0 = rw e refl in
          let all = lists.times-append c (grant_of x ∷ []) (map grant_of on) in
          omega (arith, first, all)
      skip false e = refl

      by : (b : Bool) → (x.cookie.0 == c) ≡ b → times c xs ≡ queue.times c (map grant_of on) → times c (x ∷ []) + times c xs
          ≡ queue.times c (grants_on r (x ∷ xs))
      by true e rest =
          let same : r ≡ x.resource = same_is r x.resource (on_it c r x xs none e) in
          let here : same_resource x.resource r ≡ true = rw same (same_itself x.resource) in
          let all : queue.times c (grants_on r (x ∷ xs)) ≡ queue.times c (map grant_of (x ∷ on)) =
          ap (λ b. queue.times c (map grant_of (cond b (x ∷ on) on))) here in
          let split = lists.times-append c (grant_of x ∷ []) (map grant_of on) in
          let one : queue.times c (grant_of x ∷ []) ≡ times c (x ∷ []) = refl in
          omega (arith, rest, all, split, one)
      by false e rest =
          let first : times c (x ∷ []) ≡ 0 = rw e refl in
          let last = skip (same_resource x.resource r) e in
          omega (arith, first, last, rest)

pub has_on : (c : ℕ) (r : Resource) (xs : List Lock) → Elsewhere c r xs → has c xs ≡ queue.has c (grants_on r xs)
has_on c r [] none = refl
has_on c r (x ∷ xs) none =
    by (x.cookie.0 == c) refl (has_on c r xs (elsewhere_more c r x xs none)) where
      on : List Lock
      on = filter (λ l. same_resource l.resource r) xs

      skip : (b : Bool) → (x.cookie.0 == c) ≡ false → queue.has c (map grant_of (cond b (x ∷ on) on)) ≡ queue.has c (map grant_of on)
      skip true e = rw e refl
      skip false e = refl

      by : (b : Bool) → (x.cookie.0 == c) ≡ b → has c xs ≡ queue.has c (map grant_of on) → has c (x ∷ xs)
          ≡ queue.has c (grants_on r (x ∷ xs))
      by true e rest =
          let same : r ≡ x.resource = same_is r x.resource (on_it c r x xs none e) in
          let here : same_resource x.resource r ≡ true = rw same (same_itself x.resource) in
          rw (here, e) refl
      by false e rest =
          let first : has c (x ∷ xs) ≡ has c xs = rw e refl in
          first ∙ rest ∙ sym (skip (same_resource x.resource r) e)

-- ---- all locks, where it is known on which resource the cookie is

-- some resource
abbrev nowhere : Resource
nowhere = record { fid = record { 0 = 0 }; stripe = 0 }

-- where it is looked for
abbrev spot : Option Resource → Resource
spot None = nowhere
spot (Some r) = r

not_in : (c : ℕ) (space : SpaceState) (place : Option Resource) → IsPlaced c space place → (s : Resource) → same_resource (spot place) s
    ≡ false →
    queue.is_in c (queue_of s space) ≡ false
not_in c space None at s differ = at s
not_in c space (Some r) at s differ = at s ∙ turned where
  turned : same_resource s r ≡ false
  turned = grind (arith, nat_tests, differ)

granted_elsewhere : (c : ℕ) (space : SpaceState) (place : Option Resource) → IsPlaced c space place → Elsewhere c (spot place) space.granted
granted_elsewhere c space place at = λ s differ. (lists.or_false _ _ (not_in c space place at s differ)).0

waiting_elsewhere : (c : ℕ) (space : SpaceState) (place : Option Resource) → IsPlaced c space place → Elsewhere c (spot place) space.waiting
waiting_elsewhere c space place at = λ s differ. (lists.or_false _ _ (not_in c space place at s differ)).1

all_elsewhere : (c : ℕ) (space : SpaceState) (place : Option Resource) → IsPlaced c space place
    → Elsewhere c (spot place) (space.granted ++ space.waiting)
all_elsewhere c space place at = λ s differ.
    ap (queue.has c) (grants_on-append s space.granted space.waiting)
    ∙ list_any-append (λ (l : Grant). l.cookie.0 == c) (grants_on s space.granted) (grants_on s space.waiting)
    ∙ not_in c space place at s differ

-- the lock of the cookie is that of its queue
pub lock_at : (c : ℕ) (space : SpaceState) (place : Option Resource) → IsPlaced c space place →
    lock_of c space ≡ option_map (lock_on (spot place)) (queue.lock_of c (queue_of (spot place) space))
lock_at c space place at =
    find_on c (spot place) (space.granted ++ space.waiting) (all_elsewhere c space place at)
    ∙ ap (λ grants. option_map (lock_on (spot place)) (find (λ l. l.cookie.0 == c) grants))
    (grants_on-append (spot place) space.granted space.waiting)

pub granted_at : (c : ℕ) (space : SpaceState) (place : Option Resource) → IsPlaced c space place → has c space.granted
    ≡ queue.has c (queue_of (spot place) space).granted
granted_at c space place at = has_on c (spot place) space.granted (granted_elsewhere c space place at)

pub in_at : (c : ℕ) (space : SpaceState) (place : Option Resource) → IsPlaced c space place → is_in c space ≡ is_some place
in_at c space place at =
    (λ i. has_on c (spot place) space.granted (granted_elsewhere c space place at) i
    || has_on c (spot place) space.waiting (waiting_elsewhere c space place at) i)
    ∙ at (spot place) ∙ by place where
      by : (p : Option Resource) → is_place (spot p) p ≡ is_some p
      by None = refl
      by (Some r) = same_itself r

-- no cookie is there twice, where none is twice in a queue
pub once_at : (c : ℕ) (space : SpaceState) (place : Option Resource) → IsPlaced c space place → IsQueue (queue_of (spot place) space) →
    times c space.granted + times c space.waiting ≤ 1
once_at c space place at lawful =
    let a = times_on c (spot place) space.granted (granted_elsewhere c space place at) in
    let b = times_on c (spot place) space.waiting (waiting_elsewhere c space place at) in
    let d = lists.times-append c (grants_on (spot place) space.granted) (grants_on (spot place) space.waiting) in
    let most = lawful.coherent.once c in
    omega arith

found_has : (c : ℕ) (locks : List Lock) → is_some (find (λ lock. lock.cookie.0 == c) locks) ≡ has c locks
found_has c [] = refl
found_has c (lock ∷ locks) = by (lock.cookie.0 == c) (found_has c locks) where
  by : (here : Bool) → is_some (find (λ l. l.cookie.0 == c) locks) ≡ has c locks
      → is_some (cond here (Some lock) (find (λ l. l.cookie.0 == c) locks)) ≡ (here || has c locks)
  by true rest = refl
  by false rest = rest

-- what is found by its cookie is there
pub is_found : (c : ℕ) (space : SpaceState) → is_some (lock_of c space) ≡ is_in c space
is_found c space = found_has c (space.granted ++ space.waiting)
    ∙ list_any-append (λ (l : Lock). l.cookie.0 == c) space.granted space.waiting

pub no_lock : (c : ℕ) (space : SpaceState) → IsPlaced c space None → lock_of c space ≡ None
no_lock c space at = none_from_false (lock_of c space) (is_found c space ∙ in_at c space None at)

pub not_granted : (c : ℕ) (space : SpaceState) → IsPlaced c space None → has c space.granted ≡ false
not_granted c space at = (lists.or_false (has c space.granted) (has c space.waiting) (in_at c space None at)).0
