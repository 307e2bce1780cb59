-- What a lockspace tells of its granted locks: the lock of a cookie, those of a life, those in the way of a change, and those
-- of a resource in rising cookie.
use Rattle.std.proofs.Common.{◌≡◌, ℕ, suc, ◌+◌, ◌<◌, ◌≤◌, ◌==◌, ◌||◌, ◌&&◌, Bool, true, false, not, cond, Option, Some, None, find, List}
use Rattle.std.proofs.Common.{[], ◌∷◌, map, filter, All, IsPermutation, get_or, refl, sym, ◌∙◌, ap, subst, arith, inl, inr, ◌⊎◌}
use Rattle.std.specs.Prelude.{if◌then◌else◌, ⊤}
use Rattle.std.specs.Option.{option_map, option_or}
use Rattle.std.specs.List.{count_by, list_any, AllByRecursion}
use Rattle.std.proofs.lemmas.Bool.{cases_lt}
use Rattle.std.proofs.lemmas.Bool.Decides.{nat_tests}
use Rattle.std.proofs.lemmas.List.Folds.{find-append}
use Rattle.std.proofs.lemmas.List.Sums.{sum_by-append}
use Rattle.std.proofs.lemmas.List.Sorted.{list_any-IsPermutation}
use Rattle.lu_base.specs.declared.ids.Cookie.{Cookie}
use Rattle.lu_base.specs.declared.ids.Who.{Who}
use Rattle.lu_base.specs.declared.locks.Lock.{Lock}
use Rattle.lu_base.specs.declared.locks.Mode.TheVariants.{EX}
use Rattle.lu_base.specs.declared.locks.Resource.{Resource}
use Rattle.lu_held.proofs.Lists.{rest_all}
use Rattle.lu_lock.specs.Modes.{compatible}
use Rattle.lu_lock.proofs.OverlapLaws.{policies_meet_symmetric}
use Rattle.lu_part.specs.declared.parts.Part.{Part}
use Rattle.lu_part.specs.Guards.{guard}
use Rattle.lu_queue.specs.declared.locks.Grant.{Grant as Granted}
use Rattle.lu_queue.specs.Queues as queue
use Rattle.lu_queue.specs.Queues.{IsRising, same_who}
use Rattle.lu_queue.proofs.Lists as lists
use Rattle.lu_queue.proofs.Lists.{or_false}
use Rattle.lu_lockspace.specs.Spaces.{SpaceState, same_resource, grant_of, lock_on, queue_of, has, is_in, times, lock_of, AreCookiesOf}
use Rattle.lu_lockspace.specs.Spaces.{is_guarded, meets_guard}
use Rattle.lu_lockspace.proofs.Resources.{same_is}
use Rattle.lu_lockspace.proofs.Places.{Elsewhere, find_on}
use Rattle.lu_spec_entries.specs.Words.{same_life}
use Rattle.lu_spec_target.specs.Leaving.{locks_of}
use Rattle.lu_spec_target.specs.Names.{guards_part, in_way}
use Rattle.lu_spec_target.specs.Objects.{lock_of as row_lock_of}
use Rattle.lu_spec_target.specs.Replies.{locks_on}
use Rattle.lu_spec_target.specs.States.{Target}
use Rattle.lu_target_refines.specs.Locks.{grants_of, ShowsLocks}
use Rattle.lu_target_refines.proofs.LockLists.{times_more, not_above, none_has, has_grants, Above, Rises, rises_from, rises_filter}
use Rattle.lu_target_refines.proofs.LockLists.{on_itself}
use Rattle.lu_target_refines.proofs.LockOrders.{of_permutation}
use Rattle.lu_target_refines.proofs.Locks.{only_there, granted_times, once_in, where_found, or_right}

-- ---- a test that some granted lock passes

pub same_bools : (a b : Bool) → (a ≡ true → b ≡ true) → (b ≡ true → a ≡ true) → a ≡ b
same_bools true true f g = refl
same_bools true false f g = sym (f refl)
same_bools false true f g = g refl
same_bools false false f g = refl

-- on one resource, as in its queue
pub any_grants : (test : Lock → Bool) (r : Resource) (locks : List Lock) → list_any (λ g. test (lock_on r g)) (grants_of (locks_on r locks))
    ≡ list_any test (locks_on r locks)
any_grants test r [] = refl
any_grants test r (l ∷ locks) = by (same_resource l.resource r) refl (any_grants test r locks) where
  by : (v : Bool) → same_resource l.resource r ≡ v → list_any (λ g. test (lock_on r g)) (grants_of (locks_on r locks))
      ≡ list_any test (locks_on r locks) →
      list_any (λ g. test (lock_on r g)) (grants_of (cond v (l ∷ locks_on r locks) (locks_on r locks)))
      ≡ list_any test (cond v (l ∷ locks_on r locks) (locks_on r locks))
  by true e rest =
      let same : l.resource ≡ r = same_is l.resource r e in
      let itself : lock_on l.resource (grant_of l) ≡ l = refl in
      let here : test (lock_on r (grant_of l)) ≡ test l = ap test (subst (λ k. lock_on k (grant_of l) ≡ l) same itself) in
      λ i. here i || rest i
  by false e rest = rest

pub any_some : (test : Lock → Bool) (r : Resource) (locks : List Lock) → list_any test (locks_on r locks) ≡ true → list_any test locks
    ≡ true
any_some test r [] some = some
any_some test r (l ∷ locks) some = by (same_resource l.resource r) (test l) some (any_some test r locks) where
  by : (v w : Bool) → list_any test (cond v (l ∷ locks_on r locks) (locks_on r locks)) ≡ true
      → (list_any test (locks_on r locks) ≡ true → list_any test locks ≡ true) → (test l || list_any test locks) ≡ true
  by false w h rest = or_right (test l) (list_any test locks) (rest h)
  by true w h rest = inner (test l) h where
    inner : (t : Bool) → (t || list_any test (locks_on r locks)) ≡ true → (t || list_any test locks) ≡ true
    inner true g = refl
    inner false g = rest g

pub any_where : (P : Type 0) (test : Lock → Bool) (locks : List Lock) → list_any test locks ≡ true
    → ((r : Resource) → list_any test (locks_on r locks) ≡ true → P) → P
any_where P test [] some goal = absurd (cc)
any_where P test (l ∷ locks) some goal = by (test l) refl some (any_where P test locks) where
  more : (r : Resource) (v : Bool) → list_any test (locks_on r locks) ≡ true
      → list_any test (cond v (l ∷ locks_on r locks) (locks_on r locks)) ≡ true
  more r true h = or_right (test l) (list_any test (locks_on r locks)) h
  more r false h = h

  by : (t : Bool) → test l ≡ t → (t || list_any test locks) ≡ true
      → (list_any test locks ≡ true → ((r : Resource) → list_any test (locks_on r locks) ≡ true → P) → P) → P
  by true e h rest =
      let there : list_any test (l ∷ locks_on l.resource locks) ≡ true = rw e refl in
      goal l.resource (subst (λ ls. list_any test ls ≡ true) (sym (on_itself l locks)) there)
  by false e h rest = rest h (λ r some. goal r (more r (same_resource l.resource r) some))

-- the granted locks of a lockspace pass what those of the rows pass
pub any_granted : (space : SpaceState) (v : Target) (test : Lock → Bool) → ShowsLocks space v → list_any test space.granted
    ≡ list_any test v.granted
any_granted space v test shows = same_bools (list_any test space.granted) (list_any test v.granted) to from where
  on : (r : Resource) → list_any test (locks_on r space.granted) ≡ list_any test (locks_on r v.granted)
  on r =
      sym (any_grants test r space.granted)
      ∙ list_any-IsPermutation (λ g. test (lock_on r g)) (queue_of r space).granted (grants_of (locks_on r v.granted))
      (shows.queues r).granted
      ∙ any_grants test r v.granted

  to : list_any test space.granted ≡ true → list_any test v.granted ≡ true
  to h = any_where (list_any test v.granted ≡ true) test space.granted h (λ r some. any_some test r v.granted (sym (on r) ∙ some))

  from : list_any test v.granted ≡ true → list_any test space.granted ≡ true
  from h = any_where (list_any test space.granted ≡ true) test v.granted h (λ r some. any_some test r space.granted (on r ∙ some))

-- and so the waiting ones
pub any_waiting : (space : SpaceState) (v : Target) (test : Lock → Bool) → ShowsLocks space v → list_any test space.waiting
    ≡ list_any test v.waiting
any_waiting space v test shows = same_bools (list_any test space.waiting) (list_any test v.waiting) to from where
  on : (r : Resource) → list_any test (locks_on r space.waiting) ≡ list_any test (locks_on r v.waiting)
  on r =
      sym (any_grants test r space.waiting) ∙ ap (list_any (λ g. test (lock_on r g))) (shows.queues r).waiting
      ∙ any_grants test r v.waiting

  to : list_any test space.waiting ≡ true → list_any test v.waiting ≡ true
  to h = any_where (list_any test v.waiting ≡ true) test space.waiting h (λ r some. any_some test r v.waiting (sym (on r) ∙ some))

  from : list_any test v.waiting ≡ true → list_any test space.waiting ≡ true
  from h = any_where (list_any test space.waiting ≡ true) test v.waiting h (λ r some. any_some test r space.waiting (on r ∙ some))

-- a cookie above the greatest one is no lock's: such a lock is never refused as one that comes twice
pub nowhere : (space : SpaceState) (v : Target) (c : ℕ) → ShowsLocks space v → v.cookie < c → is_in c space ≡ false
nowhere space v c shows above = λ i. granted i || waiting i where
  granted : has c space.granted ≡ false
  granted = any_granted space v (λ l. l.cookie.0 == c) shows ∙ not_above v.cookie c v.granted above shows.granted

  waiting : has c space.waiting ≡ false
  waiting = any_waiting space v (λ l. l.cookie.0 == c) shows ∙ not_above v.cookie c v.waiting above shows.waiting

-- ---- the lock of a cookie

-- none is found where none has it
pub finds_none : (c : ℕ) (locks : List Lock) → has c locks ≡ false → find (λ l. l.cookie.0 == c) locks ≡ None
finds_none c [] none = refl
finds_none c (l ∷ locks) none =
    let parts = or_false (l.cookie.0 == c) (has c locks) none in
    rw parts.0 (finds_none c locks parts.1)

abbrev Finds : {X : Type 0} → (X → Bool) → List X → List X → Type 0
Finds test xs ys = (count_by test xs ≡ count_by test ys) × (count_by test xs ≤ 1 → find test xs ≡ find test ys)

-- in another order the same is found, where one alone passes
pub found_permuted : {X : Type 0} (test : X → Bool) (xs ys : List X) → IsPermutation xs ys → count_by test xs ≤ 1 → find test xs
    ≡ find test ys
found_permuted {X} test xs ys moved =
    (of_permutation (Finds test) (λ us. (refl, λ few. refl))
    (λ us vs ws a b. (a.0 ∙ b.0, λ few. a.1 few ∙ b.1 (subst (λ n. n ≤ 1) a.0 few)))
    behind turned xs ys moved).1
  where
    more : (x : X) (us : List X) → count_by test (x ∷ us) ≡ count_by test (x ∷ []) + count_by test us
    more x us = sum_by-append (λ y. cond (test y) 1 0) (x ∷ []) us

    behind : (x : X) (us vs : List X) → Finds test us vs → Finds test (x ∷ us) (x ∷ vs)
    behind x us vs a =
        let m = more x us in
        let n = more x vs in
        let same = a.0 in
        (omega (arith, m, n, same), λ few. by (test x) (a.1 (omega (arith, m, few)))) where
          by : (here : Bool) → find test us ≡ find test vs → cond here (Some x) (find test us) ≡ cond here (Some x) (find test vs)
          by true e = refl
          by false e = e

    turned : (x y : X) (us : List X) → Finds test (x ∷ y ∷ us) (y ∷ x ∷ us)
    turned x y us =
        let a = more x (y ∷ us) in
        let b = more y us in
        let d = more y (x ∷ us) in
        let e = more x us in
        (omega (arith, a, b, d, e), λ few. by (test x) refl (test y) refl few) where
          by : (p : Bool) → test x ≡ p → (q : Bool) → test y ≡ q → count_by test (x ∷ y ∷ us) ≤ 1 →
              cond p (Some x) (cond q (Some y) (find test us)) ≡ cond q (Some y) (cond p (Some x) (find test us))
          by true e true f few =
              let one : count_by test (x ∷ []) ≡ 1 = rw e refl in
              let two : count_by test (y ∷ []) ≡ 1 = rw f refl in
              let a = more x (y ∷ us) in
              let b = more y us in
              absurd (omega (arith, one, two, a, b, few))
          by true e false f few = refl
          by false e true f few = refl
          by false e false f few = refl

-- the granted lock of a cookie is that of the rows
pub find_granted : (space : SpaceState) (v : Target) (c : ℕ) → ShowsLocks space v → find (λ l. l.cookie.0 == c) space.granted
    ≡ find (λ l. l.cookie.0 == c) v.granted
find_granted space v c shows = by (has c v.granted) refl where
  some_on : (r : Resource) → 1 ≤ times c (locks_on r v.granted) → find (λ l. l.cookie.0 == c) space.granted
      ≡ find (λ l. l.cookie.0 == c) v.granted
  some_on r some =
      find_on c r space.granted (λ s differ. lists.none_of_times c (queue_of s space).granted (none s differ).0)
      ∙ ap (option_map (lock_on r)) (found_permuted (λ (g : Granted). g.cookie.0 == c) (queue_of r space).granted
      (grants_of (locks_on r v.granted)) (shows.queues r).granted few)
      ∙ sym (find_on c r v.granted elsewhere)
    where
      same : queue.times c (queue_of r space).granted ≡ times c (locks_on r v.granted)
      same = granted_times c r (queue_of r space) v (shows.queues r)

      few : queue.times c (queue_of r space).granted ≤ 1
      few =
          let most = (shows.lawful.queues r).coherent.once c in
          let both = lists.times-append c (queue_of r space).granted (queue_of r space).waiting in
          omega (arith, most, both)

      none : (s : Resource) → same_resource r s ≡ false → (queue.times c (queue_of s space).granted ≡ 0)
          × (queue.times c (queue_of s space).waiting ≡ 0)
      none s differ = only_there space shows.lawful c r s differ (omega (arith, same, some))

      elsewhere : Elsewhere c r v.granted
      elsewhere s differ =
          let zero_times = (none s differ).0 in
          let there = granted_times c s (queue_of s space) v (shows.queues s) in
          has_grants c (locks_on s v.granted) ∙ none_has c (locks_on s v.granted) (omega (arith, zero_times, there))

  by : (b : Bool) → has c v.granted ≡ b → find (λ l. l.cookie.0 == c) space.granted ≡ find (λ l. l.cookie.0 == c) v.granted
  by true e = where_found (find (λ l. l.cookie.0 == c) space.granted ≡ find (λ l. l.cookie.0 == c) v.granted) c v.granted e some_on
  by false e = finds_none c space.granted (any_granted space v (λ l. l.cookie.0 == c) shows ∙ e) ∙ sym (finds_none c v.granted e)

-- what was found, where it is of this life, and on this resource
abbrev pub of_life : Who → Option Lock → Option Lock
of_life who None = None
of_life who (Some l) = if same_life l.ask.who who then Some l else None

abbrev pub on_resource : Resource → Option Lock → Option Lock
on_resource r None = None
on_resource r (Some l) = if same_resource l.resource r then Some l else None

row_none : (who : Who) (cookie : Cookie) (locks : List Lock) → has cookie.0 locks ≡ false → row_lock_of who cookie locks ≡ None
row_none who cookie [] none = refl
row_none who cookie (l ∷ locks) none =
    let parts = or_false (l.cookie.0 == cookie.0) (has cookie.0 locks) none in
    rw parts.0 (row_none who cookie locks parts.1)

row_finds : (who : Who) (cookie : Cookie) (locks : List Lock) → times cookie.0 locks ≤ 1 →
    row_lock_of who cookie locks ≡ of_life who (find (λ l. l.cookie.0 == cookie.0) locks)
row_finds who cookie [] once = refl
row_finds who cookie (l ∷ locks) once = by (l.cookie.0 == cookie.0) refl (same_life l.ask.who who) refl
    (row_finds who cookie locks few) where
      all : times cookie.0 (l ∷ locks) ≡ times cookie.0 (l ∷ []) + times cookie.0 locks
      all = times_more cookie.0 l locks

      few : times cookie.0 locks ≤ 1
      few = omega (arith, all, once)

      by : (here : Bool) → (l.cookie.0 == cookie.0) ≡ here → (own : Bool) → same_life l.ask.who who ≡ own →
          row_lock_of who cookie locks ≡ of_life who (find (λ k. k.cookie.0 == cookie.0) locks) →
          (if here && own then Some l else row_lock_of who cookie locks)
          ≡ of_life who (cond here (Some l) (find (λ k. k.cookie.0 == cookie.0) locks))
      by true e true f rest = ap (λ b. if b then Some l else None) (sym f)
      by true e false f rest =
          let one : times cookie.0 (l ∷ []) ≡ 1 = rw e refl in
          row_none who cookie locks (none_has cookie.0 locks (omega (arith, one, all, once))) ∙ ap (λ b. if b then Some l else None) (sym f)
      by false e own f rest = rest

-- on one resource
row_finds_on : (who : Who) (cookie : Cookie) (r : Resource) (locks : List Lock) → times cookie.0 locks ≤ 1 →
    row_lock_of who cookie (locks_on r locks) ≡ on_resource r (row_lock_of who cookie locks)
row_finds_on who cookie r [] once = refl
row_finds_on who cookie r (l ∷ locks) once =
    by (same_resource l.resource r) refl (l.cookie.0 == cookie.0) refl (same_life l.ask.who who) refl (row_finds_on who cookie r locks few)
  where
    all : times cookie.0 (l ∷ locks) ≡ times cookie.0 (l ∷ []) + times cookie.0 locks
    all = times_more cookie.0 l locks

    few : times cookie.0 locks ≤ 1
    few = omega (arith, all, once)

    -- after it no other has the cookie
    no_other : (l.cookie.0 == cookie.0) ≡ true → row_lock_of who cookie locks ≡ None
    no_other e =
        let one : times cookie.0 (l ∷ []) ≡ 1 = rw e refl in
        row_none who cookie locks (none_has cookie.0 locks (omega (arith, one, all, once)))

    by : (on : Bool) → same_resource l.resource r ≡ on → (here : Bool) → (l.cookie.0 == cookie.0) ≡ here → (own : Bool)
        → same_life l.ask.who who ≡ own →
        row_lock_of who cookie (locks_on r locks) ≡ on_resource r (row_lock_of who cookie locks) →
        row_lock_of who cookie (cond on (l ∷ locks_on r locks) (locks_on r locks))
        ≡ on_resource r (if here && own then Some l else row_lock_of who cookie locks)
    by true e true f true g rest = rw (f, g) (ap (λ b. if b then Some l else None) (sym e))
    by true e true f false g rest = rw (f, g) rest
    by true e false f own g rest = rw f rest
    by false e true f true g rest = rest ∙ ap (on_resource r) (no_other f) ∙ ap (λ b. if b then Some l else None) (sym e)
    by false e true f false g rest = rest
    by false e false f own g rest = rest

pub few_granted : (space : SpaceState) (v : Target) (c : ℕ) → ShowsLocks space v → times c v.granted ≤ 1
few_granted space v c shows = let most = once_in space v shows c in omega (arith, most)

-- what `find` gives of a cookie that `is_granted`
pub found_granted : (space : SpaceState) (v : Target) (who : Who) (cookie : Cookie) → ShowsLocks space v → has cookie.0 space.granted ≡ true
    →
    row_lock_of who cookie v.granted ≡ of_life who (lock_of cookie.0 space)
found_granted space v who cookie shows there =
    row_finds who cookie v.granted (few_granted space v cookie.0 shows)
    ∙ ap (of_life who) (sym (find_granted space v cookie.0 shows) ∙ first (find test space.granted) refl)
  where
    test : Lock → Bool
    test l = l.cookie.0 == cookie.0

    some : (locks : List Lock) → has cookie.0 locks ≡ true → find test locks ≡ None → ⊥
    some [] h e = cc
    some (l ∷ locks) h e = by (l.cookie.0 == cookie.0) h e (some locks) where
      by : (here : Bool) → (here || has cookie.0 locks) ≡ true → cond here (Some l) (find test locks) ≡ None
          → (has cookie.0 locks ≡ true → find test locks ≡ None → ⊥) → ⊥
      by true h e rest = cc
      by false h e rest = rest h e

    first : (o : Option Lock) → find test space.granted ≡ o → find test space.granted ≡ lock_of cookie.0 space
    first None e = absurd (some space.granted there e)
    first (Some l) e =
        sym (find-append test space.granted space.waiting ∙ ap (λ o. option_or o (find test space.waiting)) e ∙ sym e)

-- and of one that isn't
pub found_none : (space : SpaceState) (v : Target) (who : Who) (cookie : Cookie) → ShowsLocks space v → has cookie.0 space.granted ≡ false →
    row_lock_of who cookie v.granted ≡ None
found_none space v who cookie shows none = row_none who cookie v.granted
    (sym (any_granted space v (λ l. l.cookie.0 == cookie.0) shows) ∙ none)

-- on one resource it is the same, if it is there
pub found_on_resource : (space : SpaceState) (v : Target) (who : Who) (cookie : Cookie) (r : Resource) → ShowsLocks space v →
    row_lock_of who cookie (locks_on r v.granted) ≡ on_resource r (row_lock_of who cookie v.granted)
found_on_resource space v who cookie r shows = row_finds_on who cookie r v.granted (few_granted space v cookie.0 shows)

-- ---- cookies in rising order

abbrev pub Above_all : ℕ → List Cookie → Type 0
Above_all n cookies = AllByRecursion (λ k. n < k.0) cookies

abbrev pub Rising : List Cookie → Type 0
Rising [] = ⊤
Rising (k ∷ cookies) = Above_all k.0 cookies × Rising cookies

abbrev pub holds : ℕ → List Cookie → Bool
holds c cookies = list_any (λ k. k.0 == c) cookies

above_lower : (n m : ℕ) (cookies : List Cookie) → n < m → Above_all m cookies → Above_all n cookies
above_lower n m [] less above = tt
above_lower n m (k ∷ cookies) less above = let high = above.0 in (omega (arith, high, less), above_lower n m cookies less above.1)

pub rising_from : (cookies : List Cookie) → IsRising cookies → Rising cookies
rising_from [] rising = tt
rising_from (k ∷ cookies) rising = by cookies (rising_from cookies tail) rising where
  tail : IsRising cookies
  tail = λ place d within.
      let next : suc place + 1 ≡ suc (place + 1) = omega arith in
      subst (λ n. (get_or (k ∷ cookies) (suc place) d).0 < (get_or (k ∷ cookies) n d).0) next (rising (suc place) d (omega arith))

  by : (rest : List Cookie) → Rising rest → IsRising (k ∷ rest) → Rising (k ∷ rest)
  by [] up whole = (tt, tt)
  by (m ∷ rest) up whole =
      let less : k.0 < m.0 = whole 0 k (omega arith) in
      ((less, above_lower k.0 m.0 rest less up.0), up)

none_below : (c n : ℕ) (cookies : List Cookie) → c ≤ n → Above_all n cookies → holds c cookies ≡ false
none_below c n [] low above = refl
none_below c n (k ∷ cookies) low above =
    let high = above.0 in
    let differ : (k.0 == c) ≡ false = grind (arith, nat_tests, high, low) in
    rw differ (none_below c n cookies low above.1)

pub differ_bools : true ≡ false → ⊥
differ_bools e = cc

itself_holds : (k : Cookie) (cookies : List Cookie) → holds k.0 (k ∷ cookies) ≡ true
itself_holds k cookies = let same : (k.0 == k.0) ≡ true = grind (arith, nat_tests) in rw same refl

-- a cookie that is the first of one list is below none of the other
not_lower : (x y : Cookie) (xs ys : List Cookie) → Above_all y.0 ys → ((c : ℕ) → holds c (x ∷ xs) ≡ holds c (y ∷ ys)) → x.0 < y.0 → ⊥
not_lower x y xs ys above same less =
    let none : holds x.0 (y ∷ ys) ≡ false = none_below x.0 x.0 (y ∷ ys) (omega arith) (less, above_lower x.0 y.0 ys less above) in
    differ_bools (sym (itself_holds x xs) ∙ same x.0 ∙ none)

-- rising lists of the same cookies are the same
pub rising_same : (xs ys : List Cookie) → Rising xs → Rising ys → ((c : ℕ) → holds c xs ≡ holds c ys) → xs ≡ ys
rising_same [] [] up up2 same = refl
rising_same [] (y ∷ ys) up up2 same = absurd (differ_bools (sym (itself_holds y ys) ∙ sym (same y.0)))
rising_same (x ∷ xs) [] up up2 same = absurd (differ_bools (sym (itself_holds x xs) ∙ same x.0))
rising_same (x ∷ xs) (y ∷ ys) up up2 same = λ i. record { 0 = number i } ∷ rising_same xs ys up.1 up2.1 rest i where
  number : x.0 ≡ y.0
  number =
      let a = not_lower x y xs ys up2.0 same in
      let b = not_lower y x ys xs up.0 (λ c. sym (same c)) in
      by (x.0 == y.0) refl a b where
        by : (e : Bool) → (x.0 == y.0) ≡ e → (x.0 < y.0 → ⊥) → (y.0 < x.0 → ⊥) → x.0 ≡ y.0
        by true e a b = grind (arith, nat_tests, e)
        by false e a b = apart (cases_lt x.0 y.0) a b e where
          apart : (x.0 < y.0) ⊎ (y.0 ≤ x.0) → (x.0 < y.0 → ⊥) → (y.0 < x.0 → ⊥) → (x.0 == y.0) ≡ false → x.0 ≡ y.0
          apart (inl less) a b e = absurd (a less)
          apart (inr most) a b e = absurd (b (grind (arith, nat_tests, e, most)))

  rest : (c : ℕ) → holds c xs ≡ holds c ys
  rest c = by (x.0 == c) refl where
    by : (b : Bool) → (x.0 == c) ≡ b → holds c xs ≡ holds c ys
    by true e =
        let at : c ≤ x.0 = grind (arith, nat_tests, e) in
        let at_y : c ≤ y.0 = subst (λ n. c ≤ n) number at in
        none_below c x.0 xs at up.0 ∙ sym (none_below c y.0 ys at_y up2.0)
    by false e =
        let other : (y.0 == c) ≡ false = subst (λ n. (n == c) ≡ false) number e in
        sym (ap (λ b. b || holds c xs) e) ∙ same c ∙ ap (λ b. b || holds c ys) other

-- ---- the cookies of granted locks that pass a test

abbrev pub cookies_of : List Lock → List Cookie
cookies_of locks = map {A = Lock} {B = Cookie} (λ l. l.cookie) locks

above_cookies : (n : ℕ) (locks : List Lock) → Above n locks → Above_all n (cookies_of locks)
above_cookies n [] above = tt
above_cookies n (l ∷ locks) above = (above.0, above_cookies n locks above.1)

pub rising_cookies : (locks : List Lock) → Rises locks → Rising (cookies_of locks)
rising_cookies [] up = tt
rising_cookies (l ∷ locks) up = (above_cookies l.cookie.0 locks up.0, rising_cookies locks up.1)

pub holds_passing : (c : ℕ) (test : Lock → Bool) (locks : List Lock) → holds c (cookies_of (filter test locks))
    ≡ list_any (λ l. test l && (l.cookie.0 == c)) locks
holds_passing c test [] = refl
holds_passing c test (l ∷ locks) = by (test l) (holds_passing c test locks) where
  by : (v : Bool) → holds c (cookies_of (filter test locks)) ≡ list_any (λ k. test k && (k.cookie.0 == c)) locks →
      holds c (cookies_of (cond v (l ∷ filter test locks) (filter test locks)))
      ≡ ((v && (l.cookie.0 == c)) || list_any (λ k. test k && (k.cookie.0 == c)) locks)
  by true rest = ap (λ b. (l.cookie.0 == c) || b) rest
  by false rest = rest

pub cookies_are : (space : SpaceState) (v : Target) (test : Lock → Bool) (cookies : List Cookie) → ShowsLocks space v
    → AreCookiesOf test space.granted cookies →
    cookies ≡ cookies_of (filter test v.granted)
cookies_are space v test cookies shows are =
    rising_same cookies (cookies_of (filter test v.granted)) (rising_from cookies are.rising)
    (rising_cookies (filter test v.granted) (rises_filter test v.granted (rises_from v.granted shows.rising))) same
  where
    same : (c : ℕ) → holds c cookies ≡ holds c (cookies_of (filter test v.granted))
    same c =
        sym (list_any-IsPermutation (λ (k : Cookie). k.0 == c) (cookies_of (filter test space.granted)) cookies are.all)
        ∙ holds_passing c test space.granted ∙ any_granted space v (λ l. test l && (l.cookie.0 == c)) shows
        ∙ sym (holds_passing c test v.granted)

-- of a life
pub held_by : (space : SpaceState) (v : Target) (who : Who) (cookies : List Cookie) → ShowsLocks space v →
    AreCookiesOf (λ lock. same_who lock.ask.who who) space.granted cookies → cookies ≡ cookies_of (locks_of who v.granted)
held_by space v who cookies shows are = cookies_are space v (λ lock. same_who lock.ask.who who) cookies shows are

-- in the way of a change, where all granted locks are for reading, as at the metadata target
guards_same : (l : Lock) (part : Part) → compatible EX l.ask.mode ≡ false → is_guarded part l ≡ guards_part l part
guards_same l part apart = λ i. same_resource l.resource (guard part).0
    && (not (apart i) && policies_meet_symmetric (guard part).1 l.ask.policy i)

any_same : (l : Lock) (parts : List Part) → compatible EX l.ask.mode ≡ false → meets_guard parts l ≡ list_any (guards_part l) parts
any_same l [] apart = refl
any_same l (part ∷ parts) apart = λ i. guards_same l part apart i || any_same l parts apart i

passing_same : (parts : List Part) (locks : List Lock) → All (λ l. compatible EX l.ask.mode ≡ false) locks
    → filter (meets_guard parts) locks ≡ in_way locks parts
passing_same parts [] apart = refl
passing_same parts (l ∷ locks) apart =
    let here = any_same l parts (apart 0 l (omega arith)) in
    let rest = passing_same parts locks (rest_all (λ k. compatible EX k.ask.mode ≡ false) l locks apart) in
    λ i. cond (here i) (l ∷ rest i) (rest i)

pub in_way_is : (space : SpaceState) (v : Target) (parts : List Part) (cookies : List Cookie) → ShowsLocks space v
    → All (λ l. compatible EX l.ask.mode ≡ false) v.granted →
    AreCookiesOf (meets_guard parts) space.granted cookies → cookies ≡ cookies_of (in_way v.granted parts)
in_way_is space v parts cookies shows apart are = cookies_are space v (meets_guard parts) cookies shows are
    ∙ ap cookies_of (passing_same parts v.granted apart)
