-- The cookies of what blocks waiting locks: each is that of a granted lock, and stands once.
use Rattle.std.proofs.Common.{◌≡◌, ℕ, ◌==◌, ◌||◌, ◌&&◌, Bool, true, false, not, cond, Some, find, List, [], ◌∷◌, ◌++◌, map, filter, refl}
use Rattle.std.proofs.Common.{sym, ◌∙◌, ap, subst, arith}
use Rattle.std.specs.Prelude.{⊤}
use Rattle.std.specs.List.{AllByRecursion}
use Rattle.std.specs.Option.{option_or}
use Rattle.std.proofs.lemmas.Bool.Decides.{nat_tests}
use Rattle.std.proofs.lemmas.List.Folds.{list_any-append, find-append}
use Rattle.std.proofs.lemmas.List.Sorted.{list_any-IsPermutation}
use Rattle.lu_base.specs.declared.ids.Cookie.{Cookie}
use Rattle.lu_base.specs.declared.locks.Ask.{Ask}
use Rattle.lu_base.specs.declared.locks.Lock.{Lock}
use Rattle.lu_base.specs.declared.locks.Resource.{Resource}
use Rattle.lu_lock.specs.Conflict.{conflict}
use Rattle.lu_held.proofs.Lists.{some_is}
use Rattle.lu_queue.specs.declared.locks.Grant.{Grant as Granted}
use Rattle.lu_queue.specs.Queues as queue
use Rattle.lu_queue.specs.Queues.{IsRising}
use Rattle.lu_lockspace.specs.Spaces.{SpaceState, same_resource, grant_of, queue_of, has, lock_of, is_told, blocking_more, AreBlocking}
use Rattle.lu_lockspace.specs.Spaces.{AreBlockers}
use Rattle.lu_spec_target.specs.States.{Target}
use Rattle.lu_target_refines.specs.Cookies.{HaveOther}
use Rattle.lu_target_refines.specs.Locks.{ShowsLocks, found_or, named}
use Rattle.lu_target_refines.proofs.Callbacks.{same_cookie, same_number}
use Rattle.lu_target_refines.proofs.Finding.{any_granted, find_granted, Rising, Above_all, rising_from}

-- ---- one stands once, and is among the granted ones

from_more : (ask : Ask) (granted : List Granted) (told : List Cookie) (c : Cookie) → is_told c (blocking_more ask granted told) ≡ true
    → (is_told c told ≡ false) × (queue.has c.0 granted ≡ true)
from_more ask [] told c h = absurd (cc)
from_more ask (g ∷ granted) told c h = by (conflict ask g.ask) (is_told g.cookie told) refl h (from_more ask granted told c) where
  here : (same : Bool) → (g.cookie.0 == c.0) ≡ same → is_told g.cookie told ≡ false → (same || is_told c (blocking_more ask granted told))
      ≡ true
      → (is_told c (blocking_more ask granted told) ≡ true → (is_told c told ≡ false) × (queue.has c.0 granted ≡ true))
      → (is_told c told ≡ false) × ((same || queue.has c.0 granted) ≡ true)
  here true e new h rest = (subst (λ (k : Cookie). is_told k told ≡ false) (same_cookie g.cookie c e) new, refl)
  here false e new h rest = rest h

  later : (same : Bool) → (is_told c told ≡ false) × (queue.has c.0 granted ≡ true) → (is_told c told ≡ false)
      × ((same || queue.has c.0 granted) ≡ true)
  later true both = (both.0, refl)
  later false both = both

  by : (meets was : Bool) → is_told g.cookie told ≡ was
      → is_told c (map (λ o. o.cookie) (cond (meets && not was)
      (g ∷ filter (λ o. conflict ask o.ask && not (is_told o.cookie told)) granted)
      (filter (λ o. conflict ask o.ask && not (is_told o.cookie told)) granted))) ≡ true
      → (is_told c (blocking_more ask granted told) ≡ true → (is_told c told ≡ false) × (queue.has c.0 granted ≡ true))
      → (is_told c told ≡ false) × (queue.has c.0 (g ∷ granted) ≡ true)
  by true false new h rest = here (g.cookie.0 == c.0) refl new h rest
  by true true new h rest = later (g.cookie.0 == c.0) (rest h)
  by false was new h rest = later (g.cookie.0 == c.0) (rest h)

unequal : false ≡ true → ⊥
unequal e = cc

either : (a b : Bool) → (a || b) ≡ false → (a ≡ false) × (b ≡ false)
either true b h = absurd (cc)
either false b h = (refl, h)

one_of : {P : Type 0} (a b : Bool) → (a || b) ≡ true → (a ≡ true → P) → (b ≡ true → P) → P
one_of true b h left right = left refl
one_of false b h left right = right h

pub members : (granted waiting : List Granted) (told cookies : List Cookie) → AreBlocking granted waiting told cookies → (c : Cookie)
    → is_told c cookies ≡ true
    → (is_told c told ≡ false) × (queue.has c.0 granted ≡ true)
members granted [] told cookies none c h = absurd (unequal (sym (ap (is_told c) none) ∙ h))
members granted (l ∷ waiting) told cookies (first, rest, all, rising, permuted, more) c h =
    one_of (is_told c first) (is_told c rest) (sym (ap (is_told c) all ∙ list_any-append (λ (k : Cookie). k.0 == c.0) first rest) ∙ h)
    in_first
    (λ there. in_rest (members granted waiting (told ++ first) rest more c there))
  where
    in_first : is_told c first ≡ true → (is_told c told ≡ false) × (queue.has c.0 granted ≡ true)
    in_first there = from_more l.ask granted told c (list_any-IsPermutation (λ (k : Cookie). k.0 == c.0) (blocking_more l.ask granted told)
        first permuted ∙ there)

    in_rest : (is_told c (told ++ first) ≡ false) × (queue.has c.0 granted ≡ true) → (is_told c told ≡ false)
        × (queue.has c.0 granted ≡ true)
    in_rest both =
        ((either (is_told c told) (is_told c first) (sym (list_any-append (λ (k : Cookie). k.0 == c.0) told first) ∙ both.0)).0, both.1)

abbrev pub StandOnce : List Cookie → Type 0
StandOnce [] = ⊤
StandOnce (c ∷ cookies) = (is_told c cookies ≡ false) × StandOnce cookies

not_above_all : (n : ℕ) (c : Cookie) (cookies : List Cookie) → c.0 ≡ n → Above_all n cookies → is_told c cookies ≡ false
not_above_all n c [] e above = refl
not_above_all n c (k ∷ cookies) e above =
    let high = above.0 in
    let differ : (k.0 == c.0) ≡ false = grind (arith, nat_tests, high, e) in
    rw differ (not_above_all n c cookies e above.1)

pub rising_once : (cookies : List Cookie) → Rising cookies → StandOnce cookies
rising_once [] rising = tt
rising_once (c ∷ cookies) rising = (not_above_all c.0 c cookies refl rising.0, rising_once cookies rising.1)

both_once : (first rest : List Cookie) → StandOnce first → StandOnce rest → ((c : Cookie) → is_told c first ≡ true → is_told c rest ≡ false)
    → StandOnce (first ++ rest)
both_once [] rest once later apart = later
both_once (c ∷ first) rest once later apart =
    let itself : is_told c (c ∷ first) ≡ true = ap (λ b. b || is_told c first) (same_number c.0) in (
      list_any-append (λ (k : Cookie). k.0 == c.0) first rest ∙ (λ i. once.0 i || apart c itself i),
      both_once first rest once.1 later (λ k there. apart k (right (c.0 == k.0) (is_told k first) there)),
    )
  where
    right : (a b : Bool) → b ≡ true → (a || b) ≡ true
    right true b h = refl
    right false b h = h

pub blocking_once : (granted waiting : List Granted) (told cookies : List Cookie) → AreBlocking granted waiting told cookies
    → StandOnce cookies
blocking_once granted [] told cookies none = subst StandOnce (sym none) tt
blocking_once granted (l ∷ waiting) told cookies (first, rest, all, rising, permuted, more) =
    subst StandOnce (sym all)
    (both_once first rest (rising_once first (rising_from first rising)) (blocking_once granted waiting (told ++ first) rest more) apart)
  where
    apart : (c : Cookie) → is_told c first ≡ true → is_told c rest ≡ false
    apart c there = by (is_told c rest) refl where
      by : (b : Bool) → is_told c rest ≡ b → b ≡ false
      by false e = refl
      by true e =
          let new = (members granted waiting (told ++ first) rest more c e).0 in
          absurd (unequal (sym (either (is_told c told) (is_told c first)
          (sym (list_any-append (λ (k : Cookie). k.0 == c.0) told first) ∙ new)).1 ∙ there))

-- ---- the lock of each cookie

-- a granted lock of the rows, which the lockspace finds too
pub record IsOfLock (space : SpaceState) (locks : List Lock) (c : Cookie) : Type 0 where
  pub lock : Lock
  pub granted : find (λ l. l.cookie.0 == c.0) locks ≡ Some lock
  pub found : lock_of c.0 space ≡ Some lock

some_found : (c : ℕ) (locks : List Lock) → has c locks ≡ true → (l : Lock) × (find (λ k. k.cookie.0 == c) locks ≡ Some l)
some_found c [] h = absurd (cc)
some_found c (l ∷ locks) h = by (l.cookie.0 == c) h (some_found c locks) where
  by : (here : Bool) → (here || has c locks) ≡ true → (has c locks ≡ true → (k : Lock) × (find (λ k. k.cookie.0 == c) locks ≡ Some k))
      → (k : Lock) × (cond here (Some l) (find (λ k. k.cookie.0 == c) locks) ≡ Some k)
  by true h rest = (l, refl)
  by false h rest = rest h

-- one that is granted on some resource
has_on : (c : ℕ) (r : Resource) (locks : List Lock) → queue.has c (map grant_of (filter (λ l. same_resource l.resource r) locks)) ≡ true
    → has c locks ≡ true
has_on c r [] h = absurd (cc)
has_on c r (l ∷ locks) h = by (same_resource l.resource r) h (has_on c r locks) where
  right : (a b : Bool) → b ≡ true → (a || b) ≡ true
  right true b h = refl
  right false b h = h

  of : (a b d : Bool) → (b ≡ true → d ≡ true) → (a || b) ≡ true → (a || d) ≡ true
  of true b d rest h = refl
  of false b d rest h = rest h

  by : (on : Bool) → queue.has c (map grant_of (cond on (l ∷ filter (λ l. same_resource l.resource r) locks)
      (filter (λ l. same_resource l.resource r) locks))) ≡ true
      → (queue.has c (map grant_of (filter (λ l. same_resource l.resource r) locks)) ≡ true → has c locks ≡ true)
      → (l.cookie.0 == c || has c locks) ≡ true
  by true h rest = of (l.cookie.0 == c) (queue.has c (map grant_of (filter (λ l. same_resource l.resource r) locks))) (has c locks) rest h
  by false h rest = right (l.cookie.0 == c) (has c locks) (rest h)

pub is_of_lock : (space : SpaceState) (v : Target) (c : Cookie) → ShowsLocks space v → has c.0 space.granted ≡ true
    → IsOfLock space v.granted c
is_of_lock space v c shows there =
    let one = some_found c.0 v.granted (sym (any_granted space v (λ l. l.cookie.0 == c.0) shows) ∙ there) in
    let same : find (λ l. l.cookie.0 == c.0) space.granted ≡ Some one.0 = find_granted space v c.0 shows ∙ one.1 in
    record {
      lock = one.0;
      granted = one.1;
      found = find-append (λ (l : Lock). l.cookie.0 == c.0) space.granted space.waiting
          ∙ ap (λ o. option_or o (find (λ l. l.cookie.0 == c.0) space.waiting)) same;
    }

abbrev pub AreOfLocks : SpaceState → List Lock → List Cookie → Type 0
AreOfLocks space locks cookies = AllByRecursion (IsOfLock space locks) cookies

pub all_of_locks : (space : SpaceState) (v : Target) (cookies : List Cookie) → ShowsLocks space v
    → ((c : Cookie) → is_told c cookies ≡ true → has c.0 space.granted ≡ true) → AreOfLocks space v.granted cookies
all_of_locks space v [] shows there = tt
all_of_locks space v (c ∷ cookies) shows there =
    let itself : is_told c (c ∷ cookies) ≡ true = ap (λ b. b || is_told c cookies) (same_number c.0) in (
      is_of_lock space v c shows (there c itself),
      all_of_locks space v cookies shows
          (λ k among. there k (right (c.0 == k.0) (is_told k cookies) among)),
    )
  where
    right : (a b : Bool) → b ≡ true → (a || b) ≡ true
    right true b h = refl
    right false b h = h

pub blockers_of_locks : (space : SpaceState) (v : Target) (r : Resource) (cookies : List Cookie) → ShowsLocks space v
    → AreBlockers (queue_of r space) cookies → AreOfLocks space v.granted cookies
blockers_of_locks space v r cookies shows are =
    all_of_locks space v cookies shows (λ c among. has_on c.0 r space.granted
    (members (queue_of r space).granted (queue_of r space).waiting [] cookies are c among).1)

-- ---- their locks, by their cookies

pub found_cookie : (c : Cookie) (locks : List Lock) (l : Lock) → find (λ k. k.cookie.0 == c.0) locks ≡ Some l → c ≡ l.cookie
found_cookie c [] l found = absurd (cc)
found_cookie c (k ∷ locks) l found = by (k.cookie.0 == c.0) refl found (found_cookie c locks l) where
  by : (here : Bool) → (k.cookie.0 == c.0) ≡ here → cond here (Some k) (find (λ k. k.cookie.0 == c.0) locks) ≡ Some l
      → (find (λ k. k.cookie.0 == c.0) locks ≡ Some l → c ≡ l.cookie) → c ≡ l.cookie
  by true e found rest = sym (same_cookie k.cookie c e) ∙ ap (λ (x : Lock). x.cookie) (some_is k l found)
  by false e found rest = rest found

pub other_named : (space : SpaceState) (locks : List Lock) (c : Cookie) (cookies : List Cookie) → is_told c cookies ≡ false
    → AreOfLocks space locks cookies → HaveOther c (named cookies locks)
other_named space locks c [] new are = tt
other_named space locks c (k ∷ cookies) new are =
    let apart = either (k.0 == c.0) (is_told c cookies) new in
    let l = are.0.lock in
    subst (λ o. HaveOther c (found_or o (named cookies locks))) (sym are.0.granted) (
      subst (λ (x : Cookie). (x.0 == c.0) ≡ false) (found_cookie k locks l are.0.granted) apart.0,
      other_named space locks c cookies apart.1 are.1,
    )
