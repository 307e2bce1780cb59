-- Lives leave: their locks go, and then what may be granted is granted, resource by resource. The rows go through the
-- resources on which a lock waits, the lockspace through those on which the lives had locks. On a resource that only one of
-- the two goes through nothing is granted, and both go in rising Fid and stripe.
use Rattle.std.proofs.Common.{◌≡◌, ℕ, zero, suc, ◌+◌, ◌<◌, ◌≤◌, ◌==◌, ◌||◌, ◌&&◌, Bool, true, false, not, cond, None, List, [], ◌∷◌, ◌++◌}
use Rattle.std.proofs.Common.{length, filter, All, get_or, nat_lt, refl, sym, ◌∙◌, ap, subst, arith, inl, inr, ◌⊎◌}
use Rattle.std.specs.Prelude.{if◌then◌else◌, ⊤}
use Rattle.std.specs.List.{list_any, AllByRecursion}
use Rattle.std.proofs.lemmas.Bool.Decides.{nat_tests}
use Rattle.std.proofs.lemmas.List.Elements.{All-cons}
use Rattle.lu_base.specs.declared.ids.At.{At}
use Rattle.lu_base.specs.declared.ids.Who.{Who}
use Rattle.lu_base.specs.declared.locks.Cause.{Cause}
use Rattle.lu_base.specs.declared.locks.Lock.{Lock}
use Rattle.lu_base.specs.declared.locks.Resource.{Resource}
use Rattle.lu_held.proofs.Lists.{rest_all}
use Rattle.lu_msg.specs.declared.commits.Batch.{Batch}
use Rattle.lu_queue.specs.declared.locks.Grant.{Grant as Granted}
use Rattle.lu_queue.specs.Queues.{QueueState, without_lives, is_of, IsGranted, AreGranted, AllWait}
use Rattle.lu_queue.proofs.Lists.{or_false}
use Rattle.lu_lockspace.specs.Spaces.{SpaceState, same_resource, grant_of, queue_of, KeepsOthers, has, times, IsSpace, IsBefore, AllSettled}
use Rattle.lu_lockspace.specs.Spaces.{AreCancelled}
use Rattle.lu_lockspace.proofs.Resources.{same_is, same_turned}
use Rattle.lu_spec_entries.specs.Words.{Entry, Grant, Block, Release, Commit, Evict, same_life}
use Rattle.lu_spec_target.specs.Lives.{is_life}
use Rattle.lu_spec_target.specs.Locks.{without_lock, locks_without}
use Rattle.lu_spec_target.specs.Replies.{locks_on, is_called, called, block_of, blocks}
use Rattle.lu_spec_target.specs.Queues.{grants_go, blocks_go, conflicting, queue_goes, is_before, with_resource, resources_of, queues_go}
use Rattle.lu_spec_target.specs.Queues.{all_queues_go}
use Rattle.lu_spec_target.specs.Leaving.{locks_of, evicted, all_released, evictions}
use Rattle.lu_spec_target.specs.Requests.{releases}
use Rattle.lu_spec_target.specs.Glimpses.{glimpses_of}
use Rattle.lu_spec_target.specs.States.{Target, after, turn}
use Rattle.lu_target_refines.specs.Locks.{grants_of, ShowsLocks, grants_told}
use Rattle.lu_target_refines.proofs.LockLists.{times_more, times_itself, none_has, times_filter, nothing_taken}
use Rattle.lu_target_refines.proofs.LockSteps.{Queues, KeepsQueues, Shows, shows_same, shows_queues, shows_gone}
use Rattle.lu_target_refines.proofs.LockWaits.{stuck_from, none_granted}
use Rattle.lu_target_refines.proofs.Granting.{granted_on}
use Rattle.lu_target_refines.proofs.Locks.{queues_of, shows_of, space_shows, LeavesLocks, left_twice, turn-append, leaves_blocks_go}
use Rattle.lu_target_refines.proofs.Locks.{leaves_glimpses, once_in, or_right}

-- ---- what a turn grants of locks that had waited

abbrev pub granted_in : List Entry → List Granted
granted_in [] = []
granted_in (Grant l None ∷ es) = grant_of l ∷ granted_in es
granted_in (_ ∷ es) = granted_in es

granted_in-append : (xs ys : List Entry) → granted_in (xs ++ ys) ≡ granted_in xs ++ granted_in ys
granted_in-append [] ys = refl
granted_in-append (Grant l None ∷ xs) ys = ap (λ gs. grant_of l ∷ gs) (granted_in-append xs ys)
granted_in-append (_ ∷ xs) ys = granted_in-append xs ys

pub granted_told : (r : Resource) (v : Target) (grants : List Granted) → granted_in (grants_told r v grants) ≡ grants
granted_told r v [] = refl
granted_told r v (g ∷ grants) = ap (λ gs. g ∷ gs) (granted_told r v grants)

no_grant_blocks : (v : Target) (locks : List Lock) → granted_in (blocks v locks) ≡ []
no_grant_blocks v [] = refl
no_grant_blocks v (l ∷ locks) = by (is_called l.cookie v.called) (no_grant_blocks v locks) where
  by : (b : Bool) → granted_in (blocks v locks) ≡ [] → granted_in
      (if b then blocks v locks else Block (called v l) ∷ block_of v l ∷ blocks v locks) ≡ []
  by true rest = rest
  by false rest = rest

no_grant_goes : (locks : List Lock) (v : Target) → granted_in (blocks_go locks v) ≡ []
no_grant_goes [] v = refl
no_grant_goes (l ∷ locks) v =
    let es = blocks v (conflicting v l) in
    granted_in-append es (blocks_go locks (turn v es))
    ∙ (λ i. no_grant_blocks v (conflicting v l) i ++ no_grant_goes locks (turn v es) i)

-- ---- the queue of one resource goes on

queue_step : (r : Resource) (queues next : Queues) (u : Target) (grants : List Granted) → Shows queues u
    → AreGranted (queues r) grants (next r) → KeepsQueues r queues next →
    (granted_in (queue_goes r u) ≡ grants) × Shows next (turn u (queue_goes r u))
queue_step r queues next u grants shows steps others = (said, shown) where
  es : List Entry
  es = grants_go [] (locks_on r u.waiting) u

  w : Target
  w = turn u es

  walked : (es ≡ grants_told r u grants) × Shows next (turn u (grants_told r u grants))
  walked = granted_on r queues next u grants shows steps others

  said : granted_in (queue_goes r u) ≡ grants
  said =
      granted_in-append es (blocks_go (locks_on r w.waiting) w)
      ∙ (λ i. granted_in (walked.0 i) ++ no_grant_goes (locks_on r w.waiting) w i)
      ∙ (λ i. granted_told r u grants i ++ []) ∙ nil_after grants
    where
      nil_after : (gs : List Granted) → gs ++ [] ≡ gs
      nil_after [] = refl
      nil_after (g ∷ gs) = ap (λ more. g ∷ more) (nil_after gs)

  shown : Shows next (turn u (queue_goes r u))
  shown =
      let left = leaves_blocks_go w (locks_on r w.waiting) in
      subst (Shows next) (sym (turn-append u es (blocks_go (locks_on r w.waiting) w)))
      (shows_same next w (turn w (blocks_go (locks_on r w.waiting) w)) left.0 left.1 left.2
      (subst (λ xs. Shows next (turn u xs)) (sym walked.0) walked.1))

-- where all have to wait nothing is granted
pub nothing_granted : (before after_it : QueueState) (grants : List Granted) → AllWait before.granted before.waiting
    → AreGranted before grants after_it → (grants ≡ []) × (after_it ≡ before)
nothing_granted before after_it [] stuck (same, all) = (refl, same)
nothing_granted before after_it (g ∷ grants) stuck (mid, step, rest) =
    absurd (none_granted before g mid (stuck_from before.granted [] before.waiting stuck) step)

-- ---- no lock of the lives comes back

abbrev NoneOf : List Who → List Granted → Type 0
NoneOf lives grants = list_any (is_of lives) grants ≡ false

filtered_none : (lives : List Who) (grants : List Granted) → NoneOf lives (filter (λ g. not (is_of lives g)) grants)
filtered_none lives [] = refl
filtered_none lives (g ∷ grants) = by (is_of lives g) refl (filtered_none lives grants) where
  by : (v : Bool) → is_of lives g ≡ v → NoneOf lives (filter (λ k. not (is_of lives k)) grants) →
      NoneOf lives (cond (not v) (g ∷ filter (λ k. not (is_of lives k)) grants) (filter (λ k. not (is_of lives k)) grants))
  by true e rest = rest
  by false e rest = rw e rest

all_stay : (lives : List Who) (grants : List Granted) → NoneOf lives grants → filter (λ g. not (is_of lives g)) grants ≡ grants
all_stay lives [] none = refl
all_stay lives (g ∷ grants) none =
    let parts = or_false (is_of lives g) (list_any (is_of lives) grants) none in
    ap (λ b. cond (not b) (g ∷ filter (λ k. not (is_of lives k)) grants) (filter (λ k. not (is_of lives k)) grants)) parts.0
    ∙ ap (λ more. g ∷ more) (all_stay lives grants parts.1)

none-append : (lives : List Who) (xs ys : List Granted) → NoneOf lives xs → NoneOf lives ys → NoneOf lives (xs ++ ys)
none-append lives [] ys a b = b
none-append lives (x ∷ xs) ys a b =
    let parts = or_false (is_of lives x) (list_any (is_of lives) xs) a in
    rw parts.0 (none-append lives xs ys parts.1 b)

none_split : (lives : List Who) (xs ys : List Granted) → NoneOf lives (xs ++ ys) → NoneOf lives xs × NoneOf lives ys
none_split lives [] ys h = (refl, h)
none_split lives (x ∷ xs) ys h =
    let parts = or_false (is_of lives x) (list_any (is_of lives) (xs ++ ys)) h in
    let rest = none_split lives xs ys parts.1 in
    (rw parts.0 rest.0, rest.1)

abbrev NoneIn : List Who → QueueState → Type 0
NoneIn lives one = NoneOf lives one.granted × NoneOf lives one.waiting

none_granted_of : (lives : List Who) (before : QueueState) (g : Granted) (mid : QueueState) → NoneIn lives before → IsGranted before g mid
    → NoneIn lives mid
none_granted_of lives before g mid none step =
    let parts = none_split lives step.ahead (step.lock ∷ step.behind) (subst (NoneOf lives) step.waiting none.1) in
    let tail = or_false (is_of lives step.lock) (list_any (is_of lives) step.behind) parts.1 in
    let own : is_of lives g ≡ false = ap (is_of lives) step.grown ∙ tail.0 in
    let one : NoneOf lives (g ∷ []) = rw own refl in
    subst (NoneIn lives) (sym step.left) (
      none-append lives before.granted (g ∷ []) none.0 one,
      none-append lives step.ahead step.behind parts.0 tail.1,
    )

none_all : (lives : List Who) (grants : List Granted) (before after_it : QueueState) → NoneIn lives before
    → AreGranted before grants after_it → NoneIn lives after_it
none_all lives [] before after_it none (same, all) = subst (NoneIn lives) (sym same) none
none_all lives (g ∷ grants) before after_it none (mid, step, rest) =
    none_all lives grants mid after_it (none_granted_of lives before g mid none step) rest

-- so once a resource was gone through, taking the lives away changes nothing there
pub settled_same : (lives : List Who) (grants : List Granted) (before after_it : QueueState)
    → AreGranted (without_lives lives before) grants after_it → without_lives lives after_it ≡ after_it
settled_same lives grants before after_it steps =
    let none = none_all lives grants (without_lives lives before) after_it
    (filtered_none lives before.granted, filtered_none lives before.waiting) steps in
    λ i. record { granted = all_stay lives after_it.granted none.0 i; waiting = all_stay lives after_it.waiting none.1 i }

-- and each lock that waits there has to
pub settled_stuck : (grants : List Granted) (before after_it : QueueState) → AreGranted before grants after_it
    → AllWait after_it.granted after_it.waiting
settled_stuck [] before after_it (same, all) = subst (λ q. AllWait q.granted q.waiting) (sym same) all
settled_stuck (g ∷ grants) before after_it (mid, step, rest) = settled_stuck grants mid after_it rest

-- ---- the order of resources

abbrev pub listed : Resource → List Resource → Bool
listed r rs = list_any (same_resource r) rs

-- each comes before the next, and so before all later ones
abbrev pub Later : Resource → List Resource → Type 0
Later r rs = AllByRecursion (λ s. is_before r s ≡ true) rs

abbrev pub Ordered : List Resource → Type 0
Ordered [] = ⊤
Ordered (r ∷ rs) = Later r rs × Ordered rs

-- none is below this one
abbrev NotBelow : Resource → List Resource → Type 0
NotBelow r rs = AllByRecursion (λ s. is_before s r ≡ false) rs

abbrev Falls : List Resource → Type 0
Falls [] = ⊤
Falls (r ∷ rs) = NotBelow r rs × Falls rs

-- one is before another, or not above it
abbrev pub IsLower : Resource → Resource → Type 0
IsLower a b = (a.fid.0 < b.fid.0) ⊎ ((a.fid.0 ≡ b.fid.0) × (a.stripe < b.stripe))

abbrev NotHigher : Resource → Resource → Type 0
NotHigher a b = (a.fid.0 < b.fid.0) ⊎ ((a.fid.0 ≡ b.fid.0) × (a.stripe ≤ b.stripe))

is_lower : (a b : Resource) → is_before a b ≡ true → IsLower a b
is_lower a b h = by (nat_lt a.fid.0 b.fid.0) refl (a.fid.0 == b.fid.0) refl (nat_lt a.stripe b.stripe) refl h where
  by : (u : Bool) → nat_lt a.fid.0 b.fid.0 ≡ u → (e : Bool) → (a.fid.0 == b.fid.0) ≡ e → (w : Bool) → nat_lt a.stripe b.stripe ≡ w
      → (u || (e && w)) ≡ true → IsLower a b
  by true p e q w r g = inl (grind (arith, nat_tests, p))
  by false p true q true r g = inr (grind (arith, nat_tests, q), grind (arith, nat_tests, r))
  by false p true q false r g = absurd (cc)
  by false p false q w r g = absurd (cc)

not_higher : (a b : Resource) → is_before b a ≡ false → NotHigher a b
not_higher a b h = by (nat_lt b.fid.0 a.fid.0) refl (b.fid.0 == a.fid.0) refl (nat_lt b.stripe a.stripe) refl h where
  by : (u : Bool) → nat_lt b.fid.0 a.fid.0 ≡ u → (e : Bool) → (b.fid.0 == a.fid.0) ≡ e → (w : Bool) → nat_lt b.stripe a.stripe ≡ w
      → (u || (e && w)) ≡ false → NotHigher a b
  by true p e q w r g = absurd (cc)
  by false p true q true r g = absurd (cc)
  by false p true q false r g = inr (grind (arith, nat_tests, q), grind (arith, nat_tests, r))
  by false p false q w r g = inl (grind (arith, nat_tests, p, q))

pub before_from : (a b : Resource) → IsLower a b → is_before a b ≡ true
before_from a b (inl less) = let p : nat_lt a.fid.0 b.fid.0 ≡ true = grind (arith, nat_tests, less) in λ i. p i
    || (a.fid.0 == b.fid.0 && nat_lt a.stripe b.stripe)
before_from a b (inr both) =
    let same = both.0 in
    let less = both.1 in
    let q : (a.fid.0 == b.fid.0) ≡ true = grind (arith, nat_tests, same) in
    let r : nat_lt a.stripe b.stripe ≡ true = grind (arith, nat_tests, less) in
    or_right (nat_lt a.fid.0 b.fid.0) (a.fid.0 == b.fid.0 && nat_lt a.stripe b.stripe) (λ i. q i && r i)

not_before_from : (a b : Resource) → NotHigher a b → is_before b a ≡ false
not_before_from a b (inl less) =
    let p : nat_lt b.fid.0 a.fid.0 ≡ false = grind (arith, nat_tests, less) in
    let q : (b.fid.0 == a.fid.0) ≡ false = grind (arith, nat_tests, less) in
    λ i. p i || (q i && nat_lt b.stripe a.stripe)
not_before_from a b (inr both) =
    let same = both.0 in
    let low = both.1 in
    let p : nat_lt b.fid.0 a.fid.0 ≡ false = grind (arith, nat_tests, same) in
    let q : (b.fid.0 == a.fid.0) ≡ true = grind (arith, nat_tests, same) in
    let r : nat_lt b.stripe a.stripe ≡ false = grind (arith, nat_tests, low) in
    λ i. p i || (q i && r i)

pub before_trans : (a b c : Resource) → is_before a b ≡ true → is_before b c ≡ true → is_before a c ≡ true
before_trans a b c x y = before_from a c (by (is_lower a b x) (is_lower b c y)) where
  by : IsLower a b → IsLower b c → IsLower a c
  by (inl p) (inl q) = inl (omega (arith, p, q))
  by (inl p) (inr q) = let same = q.0 in inl (omega (arith, p, same))
  by (inr p) (inl q) = let same = p.0 in inl (omega (arith, same, q))
  by (inr p) (inr q) = let s = p.0 in let t = q.0 in let m = p.1 in let n = q.1 in inr (s ∙ t, omega (arith, m, n))

before_not_below : (a b c : Resource) → is_before a b ≡ true → is_before c b ≡ false → is_before a c ≡ true
before_not_below a b c x y = before_from a c (by (is_lower a b x) (not_higher b c y)) where
  by : IsLower a b → NotHigher b c → IsLower a c
  by (inl p) (inl q) = inl (omega (arith, p, q))
  by (inl p) (inr q) = let same = q.0 in inl (omega (arith, p, same))
  by (inr p) (inl q) = let same = p.0 in inl (omega (arith, same, q))
  by (inr p) (inr q) = let s = p.0 in let t = q.0 in let m = p.1 in let n = q.1 in inr (s ∙ t, omega (arith, m, n))

pub before_differs : (a b : Resource) → is_before a b ≡ true → same_resource a b ≡ false
before_differs a b x = by (is_lower a b x) where
  by : IsLower a b → same_resource a b ≡ false
  by (inl p) = let q : (a.fid.0 == b.fid.0) ≡ false = grind (arith, nat_tests, p) in λ i. q i && (a.stripe == b.stripe)
  by (inr p) =
      let same = p.0 in
      let less = p.1 in
      let q : (a.fid.0 == b.fid.0) ≡ true = grind (arith, nat_tests, same) in
      let r : (a.stripe == b.stripe) ≡ false = grind (arith, nat_tests, less) in
      λ i. q i && r i

pub neither_same : (a b : Resource) → is_before a b ≡ false → is_before b a ≡ false → same_resource a b ≡ true
neither_same a b x y = by (not_higher b a x) (not_higher a b y) where
  by : NotHigher b a → NotHigher a b → same_resource a b ≡ true
  by (inl p) (inl q) = absurd (omega (arith, p, q))
  by (inl p) (inr q) = let same = q.0 in absurd (omega (arith, p, same))
  by (inr p) (inl q) = let same = p.0 in absurd (omega (arith, same, q))
  by (inr p) (inr q) =
      let same = q.0 in
      let m = p.1 in
      let n = q.1 in
      let stripes : a.stripe ≡ b.stripe = omega (arith, m, n) in
      let e : (a.fid.0 == b.fid.0) ≡ true = grind (arith, nat_tests, same) in
      let f : (a.stripe == b.stripe) ≡ true = grind (arith, nat_tests, stripes) in
      λ i. e i && f i

not_below_from : (a b : Resource) → IsBefore a b → is_before b a ≡ false
not_below_from a b h = not_before_from a b (by (a.fid.0 == b.fid.0) refl) where
  by : (e : Bool) → (a.fid.0 == b.fid.0) ≡ e → NotHigher a b
  by true e = let same : a.fid.0 ≡ b.fid.0 = grind (arith, nat_tests, e) in inr (same, h.1 same)
  by false e = let low = h.0 in inl (grind (arith, nat_tests, e, low))

not_below_trans : (a b c : Resource) → is_before b a ≡ false → is_before c b ≡ false → is_before c a ≡ false
not_below_trans a b c x y = not_before_from a c (by (not_higher a b x) (not_higher b c y)) where
  by : NotHigher a b → NotHigher b c → NotHigher a c
  by (inl p) (inl q) = inl (omega (arith, p, q))
  by (inl p) (inr q) = let same = q.0 in inl (omega (arith, p, same))
  by (inr p) (inl q) = let same = p.0 in inl (omega (arith, same, q))
  by (inr p) (inr q) = let s = p.0 in let t = q.0 in let m = p.1 in let n = q.1 in inr (s ∙ t, omega (arith, m, n))

not_below_all : (a b : Resource) (rs : List Resource) → is_before b a ≡ false → NotBelow b rs → NotBelow a rs
not_below_all a b [] x all = tt
not_below_all a b (r ∷ rs) x all = (not_below_trans a b r x all.0, not_below_all a b rs x all.1)

falls_from : (rs : List Resource) → ((place : ℕ) (d : Resource) → place + 1 < length rs
    → IsBefore (get_or rs place d) (get_or rs (place + 1) d)) → Falls rs
falls_from [] rising = tt
falls_from (r ∷ rs) rising = by rs (falls_from rs tail) rising where
  tail : (place : ℕ) (d : Resource) → place + 1 < length rs → IsBefore (get_or rs place d) (get_or rs (place + 1) d)
  tail place d within =
      let next : suc place + 1 ≡ suc (place + 1) = omega arith in
      subst (λ n. IsBefore (get_or (r ∷ rs) (suc place) d) (get_or (r ∷ rs) n d)) next (rising (suc place) d (omega arith))

  by : (more : List Resource) → Falls more → ((place : ℕ) (d : Resource) → place + 1 < length (r ∷ more)
      → IsBefore (get_or (r ∷ more) place d) (get_or (r ∷ more) (place + 1) d)) → Falls (r ∷ more)
  by [] falls whole = (tt, tt)
  by (s ∷ more) falls whole =
      let low = not_below_from r s (whole 0 r (omega arith)) in
      ((low, not_below_all r s more low falls.0), falls)

pub later_all : (a b : Resource) (rs : List Resource) → is_before a b ≡ true → Later b rs → Later a rs
later_all a b [] x all = tt
later_all a b (r ∷ rs) x all = (before_trans a b r x all.0, later_all a b rs x all.1)

with_later : (a r : Resource) (rs : List Resource) → is_before a r ≡ true → Later a rs → Later a (with_resource r rs)
with_later a r [] x all = (x, tt)
with_later a r (s ∷ rs) x all = by (same_resource r s) (is_before r s) (with_later a r rs x all.1) where
  by : (same less : Bool) → Later a (with_resource r rs) → Later a
      (if same then s ∷ rs else (if less then r ∷ s ∷ rs else s ∷ with_resource r rs))
  by true less rest = all
  by false true rest = (x, all)
  by false false rest = (all.0, rest)

with_ordered : (r : Resource) (rs : List Resource) → Ordered rs → Ordered (with_resource r rs)
with_ordered r [] up = (tt, tt)
with_ordered r (s ∷ rs) up = by (same_resource r s) refl (is_before r s) refl (with_ordered r rs up.1) where
  by : (same : Bool) → same_resource r s ≡ same → (less : Bool) → is_before r s ≡ less → Ordered (with_resource r rs) →
      Ordered (if same then s ∷ rs else (if less then r ∷ s ∷ rs else s ∷ with_resource r rs))
  by true e less f rest = up
  by false e true f rest = ((f, later_all r s rs f up.0), up)
  by false e false f rest =
      let behind : is_before s r ≡ true = other_way s r f e in
      (with_later s r rs behind up.0, rest)
    where
      other_way : (a b : Resource) → is_before b a ≡ false → same_resource b a ≡ false → is_before a b ≡ true
      other_way a b x y = by_one (is_before a b) refl where
        by_one : (v : Bool) → is_before a b ≡ v → v ≡ true
        by_one true g = refl
        by_one false g = absurd (no_way (sym (neither_same b a x g) ∙ y)) where
          no_way : true ≡ false → ⊥
          no_way p = cc

pub resources_ordered : (locks : List Lock) → Ordered (resources_of locks)
resources_ordered [] = tt
resources_ordered (l ∷ locks) = with_ordered l.resource (resources_of locks) (resources_ordered locks)

-- a resource that isn't there has no lock
pub listed_with : (r s : Resource) (rs : List Resource) → listed r (with_resource s rs) ≡ false → (same_resource r s ≡ false)
    × (listed r rs ≡ false)
listed_with r s [] h = or_false (same_resource r s) false h
listed_with r s (x ∷ rs) h = by (same_resource s x) refl (is_before s x) h (listed_with r s rs) where
  by : (same : Bool) → same_resource s x ≡ same → (less : Bool)
      → listed r (if same then x ∷ rs else (if less then s ∷ x ∷ rs else x ∷ with_resource s rs)) ≡ false →
      (listed r (with_resource s rs) ≡ false → (same_resource r s ≡ false) × (listed r rs ≡ false)) → (same_resource r s ≡ false)
      × (listed r (x ∷ rs) ≡ false)
  by true e less g rest =
      let parts = or_false (same_resource r x) (listed r rs) g in
      (subst (λ k. same_resource r k ≡ false) (sym (same_is s x e)) parts.0, g)
  by false e true g rest = or_false (same_resource r s) (listed r (x ∷ rs)) g
  by false e false g rest =
      let parts = or_false (same_resource r x) (listed r (with_resource s rs)) g in
      let more = rest parts.1 in
      (more.0, rw parts.0 more.1)

pub none_waits : (r : Resource) (locks : List Lock) → listed r (resources_of locks) ≡ false → locks_on r locks ≡ []
none_waits r [] h = refl
none_waits r (l ∷ locks) h =
    let parts = listed_with r l.resource (resources_of locks) h in
    let differ : same_resource l.resource r ≡ false = same_turned l.resource r ∙ parts.0 in
    ap (λ b. cond b (l ∷ locks_on r locks) (locks_on r locks)) differ ∙ none_waits r locks parts.1

-- what comes before all of them isn't one of them
pub not_listed_later : (r : Resource) (rs : List Resource) → Later r rs → listed r rs ≡ false
not_listed_later r [] all = refl
not_listed_later r (s ∷ rs) all = rw (before_differs r s all.0) (not_listed_later r rs all.1)

not_listed_below : (r s : Resource) (rs : List Resource) → is_before r s ≡ true → NotBelow s rs → listed r rs ≡ false
not_listed_below r s [] x all = refl
not_listed_below r s (t ∷ rs) x all =
    rw (before_differs r t (before_not_below r s t x all.0)) (not_listed_below r s rs x all.1)

-- ---- the lockspace and the rows go through their resources

-- A resource that the lockspace doesn't come to any more has no lock of the lives, and what waits there has to.
abbrev pub Settled : List Who → SpaceState → List Resource → Type 0
Settled lives space rs =
    (r : Resource) → listed r rs ≡ false →
    (without_lives lives (queue_of r space) ≡ queue_of r space) × AllWait (queue_of r space).granted (queue_of r space).waiting

-- Where the rows don't come any more nothing is to be granted.
abbrev pub Quiet : List Who → SpaceState → List Resource → Type 0
Quiet lives space rs =
    (r : Resource) → listed r rs ≡ false →
    AllWait (without_lives lives (queue_of r space)).granted (without_lives lives (queue_of r space)).waiting

abbrev pub Left : List Who → SpaceState → Queues
Left lives space r = without_lives lives (queue_of r space)

-- after one resource of the lockspace
pub left_here : (lives : List Who) (r : Resource) (space next : SpaceState) (grants : List Granted)
    → AreGranted (Left lives space r) grants (queue_of r next) → Left lives next r ≡ queue_of r next
left_here lives r space next grants steps = settled_same lives grants (queue_of r space) (queue_of r next) steps

pub left_keeps : (lives : List Who) (r : Resource) (space next : SpaceState) → KeepsOthers r space next
    → KeepsQueues r (Left lives space) (Left lives next)
left_keeps lives r space next keeps = λ s differ. ap (without_lives lives) (keeps s differ)

pub settled_next : (lives : List Who) (r : Resource) (rs : List Resource) (space next : SpaceState) (grants : List Granted)
    → Settled lives space (r ∷ rs) →
    AreGranted (Left lives space r) grants (queue_of r next) → KeepsOthers r space next → Settled lives next rs
settled_next lives r rs space next grants settled steps keeps = λ s apart. by s apart (same_resource r s) refl where
  by : (s : Resource) → listed s rs ≡ false → (b : Bool) → same_resource r s ≡ b →
      (without_lives lives (queue_of s next) ≡ queue_of s next) × AllWait (queue_of s next).granted (queue_of s next).waiting
  by s apart true e =
      subst (λ k. (without_lives lives (queue_of k next) ≡ queue_of k next) × AllWait (queue_of k next).granted (queue_of k next).waiting)
      (same_is r s e)
      (left_here lives r space next grants steps, settled_stuck grants (Left lives space r) (queue_of r next) steps)
  by s apart false e =
      let none : listed s (r ∷ rs) ≡ false = rw (same_turned s r ∙ e) apart in
      subst (λ q. (without_lives lives q ≡ q) × AllWait q.granted q.waiting) (sym (keeps s e)) (settled s none)

quiet_next : (lives : List Who) (r : Resource) (ws : List Resource) (space next : SpaceState) (grants : List Granted) → Quiet lives space ws
    →
    AreGranted (Left lives space r) grants (queue_of r next) → KeepsOthers r space next → Quiet lives next ws
quiet_next lives r ws space next grants quiet steps keeps = λ s apart. by s apart (same_resource r s) refl where
  by : (s : Resource) → listed s ws ≡ false → (b : Bool) → same_resource r s ≡ b
      → AllWait (Left lives next s).granted (Left lives next s).waiting
  by s apart true e =
      subst (λ k. AllWait (Left lives next k).granted (Left lives next k).waiting) (same_is r s e)
      (subst (λ q. AllWait q.granted q.waiting) (sym (left_here lives r space next grants steps))
      (settled_stuck grants (Left lives space r) (queue_of r next) steps))
  by s apart false e = subst (λ q. AllWait q.granted q.waiting) (sym (left_keeps lives r space next keeps s e)) (quiet s apart)

-- the same where that resource was one of the rows' too, and they have gone through it
quiet_both : (lives : List Who) (r w : Resource) (ws : List Resource) (space next : SpaceState) (grants : List Granted) → same_resource r w
    ≡ true → Quiet lives space (w ∷ ws) →
    AreGranted (Left lives space r) grants (queue_of r next) → KeepsOthers r space next → Quiet lives next ws
quiet_both lives r w ws space next grants same quiet steps keeps = λ s apart. by s apart (same_resource r s) refl where
  by : (s : Resource) → listed s ws ≡ false → (b : Bool) → same_resource r s ≡ b
      → AllWait (Left lives next s).granted (Left lives next s).waiting
  by s apart true e =
      subst (λ k. AllWait (Left lives next k).granted (Left lives next k).waiting) (same_is r s e)
      (subst (λ q. AllWait q.granted q.waiting) (sym (left_here lives r space next grants steps))
      (settled_stuck grants (Left lives space r) (queue_of r next) steps))
  by s apart false e =
      let other : same_resource s w ≡ false = subst (λ k. same_resource s k ≡ false) (same_is r w same) (same_turned s r ∙ e) in
      let none : listed s (w ∷ ws) ≡ false = rw other apart in
      subst (λ q. AllWait q.granted q.waiting) (sym (left_keeps lives r space next keeps s e)) (quiet s none)

-- what both come to
abbrev Come : List Who → SpaceState → SpaceState → List Resource → Target → List Granted → Type 0
Come lives space after_it ws u grants = (granted_in (queues_go ws u) ≡ grants) × Shows (queues_of after_it) (turn u (queues_go ws u))

abbrev Merged : List Who → List Resource → Type 0
Merged lives rs =
    (ws : List Resource) (space after_it : SpaceState) (u : Target) (grants : List Granted) → Falls rs → Ordered ws
    → Shows (Left lives space) u →
    Settled lives space rs → Quiet lives space ws → AllSettled lives rs space grants after_it → Come lives space after_it ws u grants

-- one resource of the rows, and then the others
go_on : (w : Resource) (ws : List Resource) (u : Target) (first rest : List Granted) (after_it : SpaceState) → granted_in (queue_goes w u)
    ≡ first →
    (granted_in (queues_go ws (turn u (queue_goes w u))) ≡ rest)
    × Shows (queues_of after_it) (turn (turn u (queue_goes w u)) (queues_go ws (turn u (queue_goes w u)))) →
    (granted_in (queues_go (w ∷ ws) u) ≡ first ++ rest) × Shows (queues_of after_it) (turn u (queues_go (w ∷ ws) u))
go_on w ws u first rest after_it said more =
    let es = queue_goes w u in
    let x = turn u es in (
      granted_in-append es (queues_go ws x) ∙ (λ i. said i ++ more.0 i),
      subst (Shows (queues_of after_it)) (sym (turn-append u es (queues_go ws x))) more.1,
    )

-- a resource on which nothing is to be granted
go_quiet : (lives : List Who) (w : Resource) (space : SpaceState) (u : Target) → Shows (Left lives space) u →
    AllWait (Left lives space w).granted (Left lives space w).waiting → (granted_in (queue_goes w u) ≡ [])
    × Shows (Left lives space) (turn u (queue_goes w u))
go_quiet lives w space u shows stuck = queue_step w (Left lives space) (Left lives space) u [] shows (refl, stuck) (λ s differ. refl)

-- the lockspace is through
merged_end : (lives : List Who) (ws : List Resource) (space after_it : SpaceState) (u : Target) (grants : List Granted)
    → Shows (Left lives space) u → Settled lives space [] →
    (grants ≡ []) × (after_it ≡ space) → Come lives space after_it ws u grants
merged_end lives [] space after_it u grants shows settled (none, same) = (
  sym none,
  subst (λ s. Shows (queues_of s) u) (sym same) (shows_queues (Left lives space) (queues_of space) u
      (λ r. sym (settled r refl).0) shows),
)
merged_end lives (w ∷ ws) space after_it u grants shows settled done =
    let stuck : AllWait (Left lives space w).granted (Left lives space w).waiting =
    subst (λ q. AllWait q.granted q.waiting) (sym (settled w refl).0) (settled w refl).1 in
    let here = go_quiet lives w space u shows stuck in
    go_on w ws u [] grants after_it here.0 (merged_end lives ws space after_it (turn u (queue_goes w u)) grants here.1 settled done)

-- the rows don't come to its next one: nothing is granted there
skip_one : (lives : List Who) (r : Resource) (rs : List Resource) → Merged lives rs →
    (ws : List Resource) (space after_it : SpaceState) (u : Target) (grants : List Granted) → Falls (r ∷ rs) → Ordered ws
    → Shows (Left lives space) u →
    Settled lives space (r ∷ rs) → Quiet lives space ws → AllSettled lives (r ∷ rs) space grants after_it → listed r ws ≡ false
    → Come lives space after_it ws u grants
skip_one lives r rs merged ws space after_it u grants falls up shows settled quiet (first, rest, next, all, steps, keeps, more) apart =
    let none = nothing_granted (Left lives space r) (queue_of r next) first (quiet r apart) steps in
    let here : Left lives next r ≡ Left lives space r = left_here lives r space next first steps ∙ none.1 in
    let shows2 : Shows (Left lives next) u = shows_queues (Left lives space) (Left lives next) u (same here) shows in
    let come = merged ws next after_it u rest falls.1 up shows2
    (settled_next lives r rs space next first settled steps keeps) (quiet_next lives r ws space next first quiet steps keeps) more in
    (come.0 ∙ sym (all ∙ ap (λ gs. gs ++ rest) none.0), come.1)
  where
    same : Left lives next r ≡ Left lives space r → (s : Resource) → Left lives next s ≡ Left lives space s
    same here s = by (same_resource r s) refl where
      by : (b : Bool) → same_resource r s ≡ b → Left lives next s ≡ Left lives space s
      by true e = subst (λ k. Left lives next k ≡ Left lives space k) (same_is r s e) here
      by false e = left_keeps lives r space next keeps s e

-- both come to it
both_go : (lives : List Who) (r : Resource) (rs : List Resource) → Merged lives rs →
    (w : Resource) (ws : List Resource) (space after_it : SpaceState) (u : Target) (grants : List Granted) → Falls (r ∷ rs)
    → Ordered (w ∷ ws) → Shows (Left lives space) u →
    Settled lives space (r ∷ rs) → Quiet lives space (w ∷ ws) → AllSettled lives (r ∷ rs) space grants after_it → same_resource r w ≡ true
    → Come lives space after_it (w ∷ ws) u grants
both_go lives r rs merged w ws space after_it u grants falls up shows settled quiet (first, rest, next, all, steps, keeps, more) same =
    let is : r ≡ w = same_is r w same in
    let here : Left lives next r ≡ queue_of r next = left_here lives r space next first steps in
    let steps2 : AreGranted (Left lives space r) first (Left lives next r) = subst (AreGranted (Left lives space r) first) (sym here) steps
    in
    let one = queue_step r (Left lives space) (Left lives next) u first shows steps2 (left_keeps lives r space next keeps) in
    let two : (granted_in (queue_goes w u) ≡ first) × Shows (Left lives next) (turn u (queue_goes w u)) =
    subst (λ k. (granted_in (queue_goes k u) ≡ first) × Shows (Left lives next) (turn u (queue_goes k u))) is one in
    let come = merged ws next after_it (turn u (queue_goes w u)) rest falls.1 up.1 two.1
    (settled_next lives r rs space next first settled steps keeps) (quiet_both lives r w ws space next first same quiet steps keeps) more in
    let whole = go_on w ws u first rest after_it two.0 come in
    (whole.0 ∙ sym all, whole.1)

merge_one : (lives : List Who) (r : Resource) (rs : List Resource) → Merged lives rs → Merged lives (r ∷ rs)
merge_one lives r rs merged [] space after_it u grants falls up shows settled quiet steps =
    skip_one lives r rs merged [] space after_it u grants falls up shows settled quiet steps refl
merge_one lives r rs merged (w ∷ ws) space after_it u grants falls up shows settled quiet steps =
    by (is_before r w) refl (is_before w r) refl (λ x a b c. merge_one lives r rs merged ws space after_it x grants falls up.1 a b c
    steps) where
      by : (low : Bool) → is_before r w ≡ low → (high : Bool) → is_before w r ≡ high →
          ((x : Target) → Shows (Left lives space) x → Settled lives space (r ∷ rs) → Quiet lives space ws
          → Come lives space after_it ws x grants) →
          Come lives space after_it (w ∷ ws) u grants
      by true e high f rest =
          let apart : listed r (w ∷ ws) ≡ false = not_listed_later r (w ∷ ws) (e, later_all r w ws e up.0) in
          skip_one lives r rs merged (w ∷ ws) space after_it u grants falls up shows settled quiet steps apart
      by false e true f rest =
          let apart : listed w (r ∷ rs) ≡ false = rw (before_differs w r f) (not_listed_below w r rs f falls.0) in
          let there = settled w apart in
          let stuck : AllWait (Left lives space w).granted (Left lives space w).waiting =
          subst (λ q. AllWait q.granted q.waiting) (sym there.0) there.1 in
          let here = go_quiet lives w space u shows stuck in
          go_on w ws u [] grants after_it here.0 (rest (turn u (queue_goes w u)) here.1 settled
          (λ s none. quiet_left s none (same_resource s w) refl stuck))
        where
          quiet_left : (s : Resource) → listed s ws ≡ false → (b : Bool) → same_resource s w ≡ b
              → AllWait (Left lives space w).granted (Left lives space w).waiting →
              AllWait (Left lives space s).granted (Left lives space s).waiting
          quiet_left s none true same stuck = subst (λ k. AllWait (Left lives space k).granted (Left lives space k).waiting)
              (sym (same_is s w same)) stuck
          quiet_left s none false same stuck = quiet s (rw same none)
      by false e false f rest = both_go lives r rs merged w ws space after_it u grants falls up shows settled quiet steps
          (neither_same r w e f)

merge_all : (lives : List Who) (rs : List Resource) → Merged lives rs
merge_all lives [] = λ ws space after_it u grants falls up shows settled quiet steps. merged_end lives ws space after_it u grants shows
    settled steps
merge_all lives (r ∷ rs) = merge_one lives r rs (merge_all lives rs)

-- ---- once the locks of the lives are away from the rows' state, all queues go on there as in the lockspace

all_wait_nothing : (granted : List Granted) → AllWait granted []
all_wait_nothing granted = λ place d within. absurd (omega arith)

pub queues_gone : (lives : List Who) (space after_it : SpaceState) (u : Target) (grants : List Granted) → IsSpace space → IsSpace after_it →
    Shows (λ r. without_lives lives (queue_of r space)) u → AreCancelled lives space grants after_it →
    (granted_in (all_queues_go u) ≡ grants) × ShowsLocks after_it (turn u (all_queues_go u))
queues_gone lives space after_it u grants lawful lawful2 shows cancelled =
    let come = merge_all lives cancelled.resources (resources_of u.waiting) space after_it u grants
    (falls_from cancelled.resources cancelled.rising)
    (resources_ordered u.waiting) shows settled quiet cancelled.settled in
    (come.0, space_shows after_it (turn u (all_queues_go u)) lawful2 come.1)
  where
    settled : Settled lives space cancelled.resources
    settled = λ r apart. (cancelled.every r apart, (lawful.queues r).stuck)

    quiet : Quiet lives space (resources_of u.waiting)
    quiet = λ r apart.
        let nothing : (Left lives space r).waiting ≡ [] = (shows.each r).waiting ∙ ap grants_of (none_waits r u.waiting apart) in
        subst (AllWait (Left lives space r).granted) (sym nothing) (all_wait_nothing (Left lives space r).granted)

-- ---- the commit that takes their slots, and the lines of the evictions

-- a lock of a life that left is nowhere
pub gone_cookies : (lives : List Who) (v : Target) → ((c : ℕ) → times c v.granted ≤ 1) →
    All (λ l. is_life l.ask.who lives ≡ true → has l.cookie.0 (locks_without lives v.granted) ≡ false) v.granted
gone_cookies lives v once = gone v.granted once where
  gone : (locks : List Lock) → ((c : ℕ) → times c locks ≤ 1) → All
      (λ l. is_life l.ask.who lives ≡ true → has l.cookie.0 (locks_without lives locks) ≡ false) locks
  gone locks once = λ k d within left. one locks k d within left (once (get_or locks k d).cookie.0) where
    one : (locks : List Lock) (k : ℕ) (d : Lock) → k < length locks → is_life (get_or locks k d).ask.who lives ≡ true
        → times (get_or locks k d).cookie.0 locks ≤ 1 →
        has (get_or locks k d).cookie.0 (locks_without lives locks) ≡ false
    one [] k d within left few = absurd (omega arith)
    one (l ∷ locks) zero d within left few =
        let own = times_itself l in
        let all = times_more l.cookie.0 l locks in
        let less = times_filter l.cookie.0 (λ k. not (is_life k.ask.who lives)) locks in
        let away : locks_without lives (l ∷ locks) ≡ locks_without lives locks =
        ap (λ b. cond (not b) (l ∷ locks_without lives locks) (locks_without lives locks)) left in
        subst (λ ls. has l.cookie.0 ls ≡ false) (sym away) (none_has l.cookie.0 (locks_without lives locks)
        (omega (arith, own, all, less, few)))
    one (l ∷ locks) (suc k) d within left few =
        let c = (get_or locks k d).cookie.0 in
        let all = times_more c l locks in
        let rest = one locks k d (omega arith) left (omega (arith, all, few)) in
        by (is_life l.ask.who lives) (l.cookie.0 == c) refl rest where
          some : 1 ≤ times (get_or locks k d).cookie.0 locks
          some = present locks k d (omega arith) where
            present : (ls : List Lock) (n : ℕ) (d : Lock) → n < length ls → 1 ≤ times (get_or ls n d).cookie.0 ls
            present [] n d within = absurd (omega arith)
            present (x ∷ ls) zero d within = let own = times_itself x in let all = times_more x.cookie.0 x ls in omega (arith, own, all)
            present (x ∷ ls) (suc n) d within =
                let more = present ls n d (omega arith) in
                let all = times_more (get_or ls n d).cookie.0 x ls in
                omega (arith, more, all)

          by : (v : Bool) (here : Bool) → (l.cookie.0 == (get_or locks k d).cookie.0) ≡ here
              → has (get_or locks k d).cookie.0 (locks_without lives locks) ≡ false →
              has (get_or locks k d).cookie.0 (cond (not v) (l ∷ locks_without lives locks) (locks_without lives locks)) ≡ false
          by true here e rest = rest
          by false false e rest = rw e rest
          by false true e rest =
              let one : times (get_or locks k d).cookie.0 (l ∷ []) ≡ 1 = rw e refl in
              let all = times_more (get_or locks k d).cookie.0 l locks in
              absurd (omega (arith, one, all, some, few))

-- the locks of one of the lives, which are away
away_of : (lives : List Who) (who : Who) (locks left : List Lock)
    → ((l : Lock) → same_life l.ask.who who ≡ true → is_life l.ask.who lives ≡ true) →
    All (λ l. is_life l.ask.who lives ≡ true → has l.cookie.0 left ≡ false) locks
    → All (λ l. has l.cookie.0 left ≡ false) (locks_of who locks)
away_of lives who [] left own away = λ k d within. absurd (omega arith)
away_of lives who (l ∷ locks) left own away =
    by (same_life l.ask.who who) refl (away_of lives who locks left own
    (rest_all (λ k. is_life k.ask.who lives ≡ true → has k.cookie.0 left ≡ false) l locks away))
  where
    by : (v : Bool) → same_life l.ask.who who ≡ v → All (λ k. has k.cookie.0 left ≡ false) (locks_of who locks) →
        All (λ k. has k.cookie.0 left ≡ false) (cond v (l ∷ locks_of who locks) (locks_of who locks))
    by true e rest = All-cons (λ k. has k.cookie.0 left ≡ false) l (locks_of who locks) (away 0 l (omega arith) (own l e)) rest
    by false e rest = rest

-- one of these lives
abbrev pub AreOf : List Who → List Who → Type 0
AreOf lives gone = AllByRecursion (λ who. is_life who lives ≡ true) gone

same_lives : (a b : Who) → same_life a b ≡ true → a ≡ b
same_lives a b h =
    let client : a.client ≡ b.client = grind (arith, nat_tests, h) in
    let life : a.life ≡ b.life = grind (arith, nat_tests, h) in
    λ i. record { client = client i; life = life i }

-- granted: the locks before the lives left
pub leaves_evictions : (at : At) (cause : Cause) (lives : List Who) (granted : List Lock) (gone : List Who) (u : Target) → AreOf lives gone
    →
    All (λ l. is_life l.ask.who lives ≡ true → has l.cookie.0 u.granted ≡ false) granted
    → LeavesLocks u (turn u (evictions at cause granted gone u))
leaves_evictions at cause lives granted [] u of away = (refl, refl, refl)
leaves_evictions at cause lives granted (who ∷ gone) u of away =
    let start = after (after u (Evict who cause)) (evicted u who) in
    let es = Evict who cause ∷ evicted u who ∷ all_released at (locks_of who granted) u in
    let x = turn u es in
    let own : (l : Lock) → same_life l.ask.who who ≡ true → is_life l.ask.who lives ≡ true =
    λ l same. subst (λ k. is_life k lives ≡ true) (sym (same_lives l.ask.who who same)) of.0 in
    let here : LeavesLocks u x = released_from u start (locks_of who granted) (refl, refl, refl)
    (away_of lives who granted u.granted own away) in
    let others : All (λ l. is_life l.ask.who lives ≡ true → has l.cookie.0 x.granted ≡ false) granted =
    subst (λ ls. All (λ l. is_life l.ask.who lives ≡ true → has l.cookie.0 ls ≡ false) granted) (sym here.0) away in
    subst (LeavesLocks u) (sym (turn-append u es (evictions at cause granted gone x)))
    (left_twice u x (turn x (evictions at cause granted gone x)) here (leaves_evictions at cause lives granted gone x of.1 others))
  where
    -- the releases are told of the state before the line of the eviction
    released_from : (v w : Target) (locks : List Lock) → LeavesLocks v w → All (λ l. has l.cookie.0 v.granted ≡ false) locks
        → LeavesLocks v (turn w (all_released at locks v))
    released_from v w [] same none = same
    released_from v w (l ∷ locks) same none =
        let es = releases at l v in
        let x = turn v es in
        let y = turn w es in
        let gone_v : without_lock l v.granted ≡ v.granted = nothing_taken l.cookie.0 v.granted (none 0 l (omega arith)) in
        let first_v : LeavesLocks v (after v (Release l)) = (gone_v, refl, refl) in
        let first_w : LeavesLocks v (after w (Release l)) = (ap (without_lock l) same.0 ∙ gone_v, same.1, same.2) in
        let here_v : LeavesLocks v x = left_twice v (after v (Release l)) x first_v
        (leaves_glimpses at v (after v (Release l)) (glimpses_of l v.glimpses)) in
        let here_w : LeavesLocks v y = left_twice v (after w (Release l)) y first_w
        (leaves_glimpses at v (after w (Release l)) (glimpses_of l v.glimpses)) in
        let both : LeavesLocks x y = (here_w.0 ∙ sym here_v.0, here_w.1 ∙ sym here_v.1, here_w.2 ∙ sym here_v.2) in
        let later : All (λ k. has k.cookie.0 x.granted ≡ false) locks =
        subst (λ ls. All (λ k. has k.cookie.0 ls ≡ false) locks) (sym here_v.0)
        (rest_all (λ k. has k.cookie.0 v.granted ≡ false) l locks none) in
        subst (LeavesLocks v) (sym (turn-append w es (all_released at locks x)))
        (left_twice v x (turn y (all_released at locks x)) here_v (released_from x y locks both later))

pub lives_own : (lives : List Who) → AreOf lives lives
lives_own lives = within lives lives (λ who there. there) where
  itself : (who : Who) → same_life who who ≡ true
  itself who = grind (arith, nat_tests)

  within : (some all : List Who) → ((who : Who) → is_life who some ≡ true → is_life who all ≡ true) → AreOf all some
  within [] all there = tt
  within (who ∷ some) all there = (
    there who (ap (λ b. b || is_life who some) (itself who)),
    within some all (λ w h. there w (or_right (same_life w who) (is_life w some) h)),
  )

-- All together: a commit that takes the slots of these lives, the lines of their evictions, and then all queues of an object
-- target. w: the state after the commit; u: after the evictions.
pub leave : (space after_it : SpaceState) (v w u : Target) (to : ℕ) (batch : Batch) (at : At) (cause : Cause) (grants : List Granted)
    → ShowsLocks space v →
    w ≡ after v (Commit to batch) → u ≡ turn w (evictions at cause v.granted batch.removed w)
    → AreCancelled batch.removed space grants after_it → IsSpace after_it →
    (granted_in (all_queues_go u) ≡ grants) × ShowsLocks after_it (turn u (all_queues_go u))
leave space after_it v w u to batch at cause grants shows is is2 cancelled lawful =
    queues_gone batch.removed space after_it u grants shows.lawful lawful here cancelled
  where
    few : (c : ℕ) → times c v.granted ≤ 1
    few c = let most = once_in space v shows c in omega (arith, most)

    gone : Shows (λ r. without_lives batch.removed (queue_of r space)) (after v (Commit to batch))
    gone = shows_gone (queues_of space) v to batch (shows_of space v shows)

    left : LeavesLocks (after v (Commit to batch)) (turn (after v (Commit to batch))
        (evictions at cause v.granted batch.removed (after v (Commit to batch))))
    left = leaves_evictions at cause batch.removed v.granted batch.removed (after v (Commit to batch)) (lives_own batch.removed)
        (gone_cookies batch.removed v few)

    same : turn (after v (Commit to batch)) (evictions at cause v.granted batch.removed (after v (Commit to batch))) ≡ u
    same = sym (is2 ∙ ap (λ x. turn x (evictions at cause v.granted batch.removed x)) is)

    here : Shows (λ r. without_lives batch.removed (queue_of r space)) u
    here = subst (Shows (λ r. without_lives batch.removed (queue_of r space))) same
        (shows_same (λ r. without_lives batch.removed (queue_of r space)) (after v (Commit to batch))
        (turn (after v (Commit to batch)) (evictions at cause v.granted batch.removed (after v (Commit to batch)))) left.0 left.1 left.2
        gone)

-- where nothing waits, as at the metadata target, nothing is granted
pub leave_alone : (space after_it : SpaceState) (v w u : Target) (to : ℕ) (batch : Batch) (at : At) (cause : Cause) (grants : List Granted)
    → ShowsLocks space v →
    w ≡ after v (Commit to batch) → u ≡ turn w (evictions at cause v.granted batch.removed w)
    → AreCancelled batch.removed space grants after_it → IsSpace after_it →
    v.waiting ≡ [] → (grants ≡ []) × ShowsLocks after_it u
leave_alone space after_it v w u to batch at cause grants shows is is2 cancelled lawful none =
    (sym whole.0 ∙ ap granted_in nothing, subst (λ es. ShowsLocks after_it (turn u es)) nothing whole.1)
  where
    whole : (granted_in (all_queues_go u) ≡ grants) × ShowsLocks after_it (turn u (all_queues_go u))
    whole = leave space after_it v w u to batch at cause grants shows is is2 cancelled lawful

    few : (c : ℕ) → times c v.granted ≤ 1
    few c = let most = once_in space v shows c in omega (arith, most)

    left : LeavesLocks (after v (Commit to batch)) (turn (after v (Commit to batch))
        (evictions at cause v.granted batch.removed (after v (Commit to batch))))
    left = leaves_evictions at cause batch.removed v.granted batch.removed (after v (Commit to batch)) (lives_own batch.removed)
        (gone_cookies batch.removed v few)

    quiet : u.waiting ≡ []
    quiet =
        ap (λ x. x.waiting) (is2 ∙ ap (λ x. turn x (evictions at cause v.granted batch.removed x)) is) ∙ left.1
        ∙ ap (locks_without batch.removed) none

    nothing : all_queues_go u ≡ []
    nothing = ap (λ locks. queues_go (resources_of locks) u) quiet
