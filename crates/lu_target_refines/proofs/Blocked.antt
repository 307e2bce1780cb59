-- What the waiting locks of a resource call back: the lockspace tells the cookies of what blocks them, each once, and the rows
-- call back each of these locks that isn't called back yet.
use Rattle.std.proofs.Common.{◌≡◌, ℕ, ◌==◌, ◌||◌, ◌&&◌, Bool, true, false, not, cond, Option, Some, None, find, List, [], ◌∷◌, ◌++◌, map}
use Rattle.std.proofs.Common.{filter, IsPermutation, refl, sym, ◌∙◌, ap, subst, arith}
use Rattle.std.specs.Prelude.{if◌then◌else◌}
use Rattle.std.specs.List.{list_any, AllByRecursion}
use Rattle.std.proofs.lemmas.Bool.Decides.{nat_tests}
use Rattle.std.proofs.lemmas.List.Folds.{list_any-append}
use Rattle.std.proofs.lemmas.List.Sorted.{IsPermutation-map, list_any-IsPermutation}
use Rattle.lu_base.specs.declared.ids.Cookie.{Cookie}
use Rattle.lu_base.specs.declared.locks.Ask.{Ask}
use Rattle.lu_base.specs.declared.locks.Lock.{Lock}
use Rattle.lu_base.specs.declared.locks.Resource.{Resource}
use Rattle.lu_lock.specs.Conflict.{conflict}
use Rattle.lu_queue.specs.declared.locks.Grant.{Grant as Granted}
use Rattle.lu_queue.specs.Queues.{QueueState, IsRising}
use Rattle.lu_lockspace.specs.Spaces.{SpaceState, same_resource, grant_of, queue_of, is_told, blocking_more, AreBlocking, AreBlockers}
use Rattle.lu_lockspace.proofs.Resources.{same_is}
use Rattle.lu_spec_entries.specs.Carried.{Called}
use Rattle.lu_spec_entries.specs.Words.{Block}
use Rattle.lu_spec_target.specs.Replies.{locks_on, is_called, called, block_of, blocks}
use Rattle.lu_spec_target.specs.Queues.{conflicting, blocks_go}
use Rattle.lu_spec_target.specs.States.{Target, after, turn}
use Rattle.lu_target_refines.specs.Locks.{grants_of, ShowsLocks, ShowsQueue, found_or, named}
use Rattle.lu_target_refines.proofs.LockLists.{Rises, rises_from, rises_filter}
use Rattle.lu_target_refines.proofs.LockOrders.{IsPermutation-filter}
use Rattle.lu_target_refines.proofs.Granting.{IsOn, all_on}
use Rattle.lu_target_refines.proofs.Finding.{cookies_of, holds, rising_from, rising_cookies, rising_same, differ_bools}
use Rattle.lu_target_refines.proofs.Ranks.{finds_itself}

-- ---- the locks of cookies

named-append : (xs ys : List Cookie) (locks : List Lock) → named (xs ++ ys) locks ≡ named xs locks ++ named ys locks
named-append [] ys locks = refl
named-append (c ∷ xs) ys locks = by (find (λ l. l.cookie.0 == c.0) locks) (named-append xs ys locks) where
  by : (o : Option Lock) → named (xs ++ ys) locks ≡ named xs locks ++ named ys locks → found_or o (named (xs ++ ys) locks)
      ≡ found_or o (named xs locks) ++ named ys locks
  by None rest = rest
  by (Some l) rest = ap (λ more. l ∷ more) rest

abbrev IsFound : List Lock → Lock → Type 0
IsFound locks l = find (λ k. k.cookie.0 == l.cookie.0) locks ≡ Some l

each_filter : (P : Lock → Type 0) (test : Lock → Bool) (locks : List Lock) → AllByRecursion P locks → AllByRecursion P (filter test locks)
each_filter P test [] each = tt
each_filter P test (l ∷ locks) each = by (test l) (each_filter P test locks each.1) where
  by : (v : Bool) → AllByRecursion P (filter test locks) → AllByRecursion P (cond v (l ∷ filter test locks) (filter test locks))
  by true rest = (each.0, rest)
  by false rest = rest

named_same : (some locks : List Lock) → AllByRecursion (IsFound locks) some → named (cookies_of some) locks ≡ some
named_same [] locks each = refl
named_same (l ∷ some) locks each =
    ap (λ o. found_or o (named (cookies_of some) locks)) each.0 ∙ ap (λ more. l ∷ more) (named_same some locks each.1)

-- ---- the lines of blocks

blocks-append : (v : Target) (xs ys : List Lock) → blocks v (xs ++ ys) ≡ blocks v xs ++ blocks v ys
blocks-append v [] ys = refl
blocks-append v (l ∷ xs) ys = by (is_called l.cookie v.called) (blocks-append v xs ys) where
  by : (b : Bool) → blocks v (xs ++ ys) ≡ blocks v xs ++ blocks v ys →
      (if b then blocks v (xs ++ ys) else Block (called v l) ∷ block_of v l ∷ blocks v (xs ++ ys))
      ≡ (if b then blocks v xs else Block (called v l) ∷ block_of v l ∷ blocks v xs) ++ blocks v ys
  by true rest = rest
  by false rest = ap (λ es. Block (called v l) ∷ block_of v l ∷ es) rest

-- What a turn has told so far: the cookies of what it has called back, or had not to.
record Goes (v w : Target) (told : List Cookie) : Type 0 where
  pub granted : w.granted ≡ v.granted
  pub ticks : w.ticks ≡ v.ticks
  pub boot : w.boot ≡ v.boot
  pub calls : (c : Cookie) → is_called c w.called ≡ (is_called c v.called || is_told c told)

-- those in conflict with an ask, and of these the ones that weren't told of
abbrev opposed : Ask → List Lock → List Lock
opposed ask locks = filter (λ k. conflict ask k.ask) locks

abbrev opposed_new : Ask → List Cookie → List Lock → List Lock
opposed_new ask told locks = filter (λ k. conflict ask k.ask && not (is_told k.cookie told)) locks

blocks_new : (v w : Target) (told : List Cookie) (ask : Ask) (locks : List Lock) → Goes v w told → blocks w (opposed ask locks)
    ≡ blocks v (opposed_new ask told locks)
blocks_new v w told ask [] goes = refl
blocks_new v w told ask (l ∷ locks) goes =
    by (conflict ask l.ask) (is_told l.cookie told) refl (is_called l.cookie v.called) refl (blocks_new v w told ask locks goes) where
      line : called w l ≡ called v l
      line = λ i. record { cookie = l.cookie; who = l.ask.who; since = goes.ticks i }

      message : block_of w l ≡ block_of v l
      message = ap (λ n. block_of (record v { boot = n }) l) goes.boot

      test : (t c : Bool) → is_told l.cookie told ≡ t → is_called l.cookie v.called ≡ c → is_called l.cookie w.called ≡ (c || t)
      test t c e f = goes.calls l.cookie ∙ (λ i. f i || e i)

      by : (p t : Bool) → is_told l.cookie told ≡ t → (c : Bool) → is_called l.cookie v.called ≡ c → blocks w (opposed ask locks)
          ≡ blocks v (opposed_new ask told locks) →
          blocks w (cond p (l ∷ opposed ask locks) (opposed ask locks))
          ≡ blocks v (cond (p && not t) (l ∷ opposed_new ask told locks) (opposed_new ask told locks))
      by false t e c f rest = rest
      by true true e true f rest =
          ap (λ b. if b then blocks w (opposed ask locks) else Block (called w l) ∷ block_of w l ∷ blocks w (opposed ask locks))
          (test true true e f) ∙ rest
      by true true e false f rest =
          ap (λ b. if b then blocks w (opposed ask locks) else Block (called w l) ∷ block_of w l ∷ blocks w (opposed ask locks))
          (test true false e f) ∙ rest
      by true false e true f rest =
          ap (λ b. if b then blocks w (opposed ask locks) else Block (called w l) ∷ block_of w l ∷ blocks w (opposed ask locks))
          (test false true e f) ∙ rest
          ∙ ap (λ b. if b then blocks v (opposed_new ask told locks) else Block (called v l) ∷ block_of v l
          ∷ blocks v (opposed_new ask told locks)) (sym f)
      by true false e false f rest =
          ap (λ b. if b then blocks w (opposed ask locks) else Block (called w l) ∷ block_of w l ∷ blocks w (opposed ask locks))
          (test false false e f)
          ∙ (λ i. Block (line i) ∷ message i ∷ rest i)
          ∙ ap (λ b. if b then blocks v (opposed_new ask told locks) else Block (called v l) ∷ block_of v l
          ∷ blocks v (opposed_new ask told locks)) (sym f)

-- what is called back after these lines
called_more : (w x : Target) (locks : List Lock) → ((c : Cookie) → is_called c w.called ≡ true → is_called c x.called ≡ true) → (c : Cookie)
    →
    is_called c (turn x (blocks w locks)).called ≡ (is_called c x.called || list_any (λ k. k.cookie.0 == c.0) locks)
called_more w x [] within c = or_false_right (is_called c x.called) where
  or_false_right : (b : Bool) → b ≡ (b || false)
  or_false_right true = refl
  or_false_right false = refl
called_more w x (l ∷ locks) within c =
    by (is_called l.cookie w.called) refl (λ y later. called_more w y locks later c) where
      y : Target
      y = after (after x (Block (called w l))) (block_of w l)

      more : (d : Cookie) → is_called d y.called ≡ (is_called d x.called || ((l.cookie.0 == d.0) || false))
      more d = list_any-append (λ (k : Called). k.cookie.0 == d.0) x.called (called w l ∷ [])

      later : (d : Cookie) → is_called d w.called ≡ true → is_called d y.called ≡ true
      later d h = more d ∙ ap (λ b. b || ((l.cookie.0 == d.0) || false)) (within d h)

      rearrange : (a b r : Bool) → ((a || (b || false)) || r) ≡ (a || (b || r))
      rearrange true b r = refl
      rearrange false true r = refl
      rearrange false false r = refl

      skip : (a b r : Bool) → (b ≡ true → a ≡ true) → (a || r) ≡ (a || (b || r))
      skip true b r h = refl
      skip false true r h = absurd (differ_bools (sym (h refl)))
      skip false false r h = refl

      same_cookie : is_called l.cookie w.called ≡ true → (l.cookie.0 == c.0) ≡ true → is_called c x.called ≡ true
      same_cookie there e =
          let same : l.cookie.0 ≡ c.0 = grind (arith, nat_tests, e) in
          let is : l.cookie ≡ c = λ i. record { 0 = same i } in
          within c (subst (λ k. is_called k w.called ≡ true) is there)

      by : (b : Bool) → is_called l.cookie w.called ≡ b →
          ((z : Target) → ((d : Cookie) → is_called d w.called ≡ true → is_called d z.called ≡ true) →
          is_called c (turn z (blocks w locks)).called ≡ (is_called c z.called || list_any (λ k. k.cookie.0 == c.0) locks)) →
          is_called c (turn x (if b then blocks w locks else Block (called w l) ∷ block_of w l ∷ blocks w locks)).called
          ≡ (is_called c x.called || ((l.cookie.0 == c.0) || list_any (λ k. k.cookie.0 == c.0) locks))
      by true there rest = rest x within ∙ skip (is_called c x.called) (l.cookie.0 == c.0) (list_any (λ k. k.cookie.0 == c.0) locks)
          (same_cookie there)
      by false there rest =
          rest y later ∙ ap (λ b. b || list_any (λ k. k.cookie.0 == c.0) locks) (more c)
          ∙ rearrange (is_called c x.called) (l.cookie.0 == c.0) (list_any (λ k. k.cookie.0 == c.0) locks)

left_by_blocks : (w x : Target) (locks : List Lock) →
    ((turn x (blocks w locks)).granted ≡ x.granted) × ((turn x (blocks w locks)).ticks ≡ x.ticks)
    × ((turn x (blocks w locks)).boot ≡ x.boot)
left_by_blocks w x [] = (refl, refl, refl)
left_by_blocks w x (l ∷ locks) = by (is_called l.cookie w.called) (λ z. left_by_blocks w z locks) where
  by : (b : Bool) →
      ((z : Target) → ((turn z (blocks w locks)).granted ≡ z.granted) × ((turn z (blocks w locks)).ticks ≡ z.ticks)
      × ((turn z (blocks w locks)).boot ≡ z.boot)) →
      ((turn x (if b then blocks w locks else Block (called w l) ∷ block_of w l ∷ blocks w locks)).granted ≡ x.granted)
      × ((turn x (if b then blocks w locks else Block (called w l) ∷ block_of w l ∷ blocks w locks)).ticks ≡ x.ticks)
      × ((turn x (if b then blocks w locks else Block (called w l) ∷ block_of w l ∷ blocks w locks)).boot ≡ x.boot)
  by true rest = rest x
  by false rest = rest (after (after x (Block (called w l))) (block_of w l))

-- ---- which were told of

-- a cookie that wasn't told of is among the new ones if it is among all
any_new : (ask : Ask) (told : List Cookie) (c : Cookie) (locks : List Lock) → is_told c told ≡ false →
    list_any (λ k. k.cookie.0 == c.0) (opposed ask locks) ≡ list_any (λ k. k.cookie.0 == c.0) (opposed_new ask told locks)
any_new ask told c [] none = refl
any_new ask told c (l ∷ locks) none = by (conflict ask l.ask) (is_told l.cookie told) refl (l.cookie.0 == c.0) refl
    (any_new ask told c locks none) where
      by : (p t : Bool) → is_told l.cookie told ≡ t → (here : Bool) → (l.cookie.0 == c.0) ≡ here →
          list_any (λ k. k.cookie.0 == c.0) (opposed ask locks) ≡ list_any (λ k. k.cookie.0 == c.0) (opposed_new ask told locks) →
          list_any (λ k. k.cookie.0 == c.0) (cond p (l ∷ opposed ask locks) (opposed ask locks))
          ≡ list_any (λ k. k.cookie.0 == c.0) (cond (p && not t) (l ∷ opposed_new ask told locks) (opposed_new ask told locks))
      by false t e here f rest = rest
      by true false e here f rest = ap (λ b. (l.cookie.0 == c.0) || b) rest
      by true true e true f rest =
          let same : l.cookie.0 ≡ c.0 = grind (arith, nat_tests, f) in
          let is : l.cookie ≡ c = λ i. record { 0 = same i } in
          absurd (differ_bools (sym e ∙ subst (λ k. is_told k told ≡ false) (sym is) none))
      by true true e false f rest = ap (λ b. b || list_any (λ k. k.cookie.0 == c.0) (opposed ask locks)) f ∙ rest

grants_opposed : (ask : Ask) (told : List Cookie) (locks : List Lock) → blocking_more ask (grants_of locks) told
    ≡ cookies_of (opposed_new ask told locks)
grants_opposed ask told [] = refl
grants_opposed ask told (l ∷ locks) = by (conflict ask l.ask && not (is_told l.cookie told)) (grants_opposed ask told locks) where
  by : (v : Bool) → blocking_more ask (grants_of locks) told ≡ cookies_of (opposed_new ask told locks) →
      map (λ g. g.cookie) (cond v (grant_of l ∷ filter (λ g. conflict ask g.ask && not (is_told g.cookie told)) (grants_of locks))
      (filter (λ g. conflict ask g.ask && not (is_told g.cookie told)) (grants_of locks)))
      ≡ cookies_of (cond v (l ∷ opposed_new ask told locks) (opposed_new ask told locks))
  by true rest = ap (λ more. l.cookie ∷ more) rest
  by false rest = rest

held_cookies : (c : ℕ) (locks : List Lock) → holds c (cookies_of locks) ≡ list_any (λ k. k.cookie.0 == c) locks
held_cookies c [] = refl
held_cookies c (l ∷ locks) = ap (λ b. (l.cookie.0 == c) || b) (held_cookies c locks)

-- what the lockspace tells of one waiting lock
first_told : (granted : List Granted) (locks : List Lock) (ask : Ask) (told first : List Cookie) → IsPermutation granted (grants_of locks)
    → Rises locks →
    IsPermutation (blocking_more ask granted told) first → IsRising first → first ≡ cookies_of (opposed_new ask told locks)
first_told granted locks ask told first moved rises permuted rising =
    rising_same first (cookies_of (opposed_new ask told locks)) (rising_from first rising)
    (rising_cookies (opposed_new ask told locks) (rises_filter (λ k. conflict ask k.ask && not (is_told k.cookie told)) locks rises)) same
  where
    test : Granted → Bool
    test g = conflict ask g.ask && not (is_told g.cookie told)

    all : IsPermutation (blocking_more ask granted told) (cookies_of (opposed_new ask told locks))
    all = subst (IsPermutation (blocking_more ask granted told)) (grants_opposed ask told locks)
        (IsPermutation-map (λ g. g.cookie) (filter test granted) (filter test (grants_of locks))
        (IsPermutation-filter test granted (grants_of locks) moved))

    same : (c : ℕ) → holds c first ≡ holds c (cookies_of (opposed_new ask told locks))
    same c =
        sym (list_any-IsPermutation (λ (k : Cookie). k.0 == c) (blocking_more ask granted told) first permuted)
        ∙ list_any-IsPermutation (λ (k : Cookie). k.0 == c) (blocking_more ask granted told) (cookies_of (opposed_new ask told locks)) all

-- ---- through the waiting locks

goes_next : (v w : Target) (told first : List Cookie) (l : Lock) (locks : List Lock) → Goes v w told → conflicting w l ≡ opposed l.ask locks
    →
    first ≡ cookies_of (opposed_new l.ask told locks) → Goes v (turn w (blocks w (conflicting w l))) (told ++ first)
goes_next v w told first l locks goes same is = record {
  granted = left.0 ∙ goes.granted;
  ticks = left.1 ∙ goes.ticks;
  boot = left.2 ∙ goes.boot;
  calls = calls;
}
  where
    left : ((turn w (blocks w (conflicting w l))).granted ≡ w.granted) × ((turn w (blocks w (conflicting w l))).ticks ≡ w.ticks)
        × ((turn w (blocks w (conflicting w l))).boot ≡ w.boot)
    left = left_by_blocks w w (conflicting w l)

    first_has : (c : Cookie) → is_told c first ≡ list_any (λ k. k.cookie.0 == c.0) (opposed_new l.ask told locks)
    first_has c = ap (is_told c) is ∙ held_cookies c.0 (opposed_new l.ask told locks)

    join : (a b m n : Bool) → (b ≡ false → m ≡ n) → ((a || b) || m) ≡ (a || (b || n))
    join true b m n h = refl
    join false true m n h = refl
    join false false m n h = h refl

    calls : (c : Cookie) → is_called c (turn w (blocks w (conflicting w l))).called ≡ (is_called c v.called || is_told c (told ++ first))
    calls c =
        called_more w w (conflicting w l) (λ d h. h) c
        ∙ (λ i. goes.calls c i || list_any (λ k. k.cookie.0 == c.0) (same i))
        ∙ join (is_called c v.called) (is_told c told) (list_any (λ k. k.cookie.0 == c.0) (opposed l.ask locks))
        (list_any (λ k. k.cookie.0 == c.0) (opposed_new l.ask told locks))
        (any_new l.ask told c locks)
        ∙ (λ i. is_called c v.called || (is_told c told || first_has_back i))
        ∙ (λ i. is_called c v.called || told_both i)
      where
        first_has_back : list_any (λ k. k.cookie.0 == c.0) (opposed_new l.ask told locks) ≡ is_told c first
        first_has_back = sym (first_has c)

        told_both : (is_told c told || is_told c first) ≡ is_told c (told ++ first)
        told_both = sym (list_any-append (λ (k : Cookie). k.0 == c.0) told first)

go : (r : Resource) (v : Target) (granted : List Granted) (waiting : List Lock) (told cookies : List Cookie) (w : Target)
    → IsPermutation granted (grants_of (locks_on r v.granted)) →
    Rises v.granted → AllByRecursion (IsOn r) waiting → Goes v w told → AreBlocking granted (grants_of waiting) told cookies
    → blocks_go waiting w ≡ blocks v (named cookies v.granted)
go r v granted [] told cookies w moved rises on goes none = ap (λ cs. blocks v (named cs v.granted)) (sym none)
go r v granted (l ∷ waiting) told cookies w moved rises on goes (first, rest, all, rising, permuted, more) =
    (λ i. here i ++ go r v granted waiting (told ++ first) rest (turn w (blocks w (conflicting w l))) moved rises on.1
    (goes_next v w told first l locks goes same is) more i)
    ∙ sym (blocks-append v (opposed_new l.ask told locks) (named rest v.granted)) ∙ ap (blocks v) joined
  where
    locks : List Lock
    locks = locks_on r v.granted

    same : conflicting w l ≡ opposed l.ask locks
    same = λ i. opposed l.ask (locks_on (same_is l.resource r on.0 i) (goes.granted i))

    is : first ≡ cookies_of (opposed_new l.ask told locks)
    is = first_told granted locks l.ask told first moved (rises_filter (λ k. same_resource k.resource r) v.granted rises) permuted rising

    here : blocks w (conflicting w l) ≡ blocks v (opposed_new l.ask told locks)
    here = ap (blocks w) same ∙ blocks_new v w told l.ask locks goes

    each : AllByRecursion (IsFound v.granted) (opposed_new l.ask told locks)
    each =
        each_filter (IsFound v.granted) (λ k. conflict l.ask k.ask && not (is_told k.cookie told)) locks
        (each_filter (IsFound v.granted) (λ k. same_resource k.resource r) v.granted (finds_itself v.granted rises))

    joined : opposed_new l.ask told locks ++ named rest v.granted ≡ named cookies v.granted
    joined =
        (λ i. sym (ap (λ cs. named cs v.granted) is ∙ named_same (opposed_new l.ask told locks) v.granted each) i ++ named rest v.granted)
        ∙ sym (named-append first rest v.granted) ∙ ap (λ cs. named cs v.granted) (sym all)

-- the locks of the cookies that the queue of a resource tells are called back, but for those that are already
pub blocked_on : (r : Resource) (one : QueueState) (v : Target) (cookies : List Cookie) → ShowsQueue r one v → Rises v.granted
    → AreBlockers one cookies →
    blocks_go (locks_on r v.waiting) v ≡ blocks v (named cookies v.granted)
blocked_on r one v cookies shows rises are =
    go r v one.granted (locks_on r v.waiting) [] cookies v shows.granted rises (all_on r v.waiting) start
    (subst (λ waiting. AreBlocking one.granted waiting [] cookies) shows.waiting are)
  where
    or_nothing : (b : Bool) → b ≡ (b || false)
    or_nothing true = refl
    or_nothing false = refl

    start : Goes v v []
    start = record { granted = refl; ticks = refl; boot = refl; calls = λ c. or_nothing (is_called c v.called) }

-- those that the lockspace tells
pub blocked : (space : SpaceState) (v : Target) (r : Resource) (cookies : List Cookie) → ShowsLocks space v
    → AreBlockers (queue_of r space) cookies →
    blocks_go (locks_on r v.waiting) v ≡ blocks v (named cookies v.granted)
blocked space v r cookies shows are = blocked_on r (queue_of r space) v cookies (shows.queues r) (rises_from v.granted shows.rising) are
