-- What always holds still holds where the queue of one resource becomes another.
use Rattle.std.proofs.Common.{◌≡◌, ℕ, zero, suc, ◌+◌, ◌<◌, ◌≤◌, length, map, get_or, IsPermutation, ◌==◌, ◌||◌, ◌&&◌, Bool, true, false}
use Rattle.std.proofs.Common.{not, cond, Option, Some, None, is_some, List, [], ◌∷◌, ◌++◌, filter, refl, sym, ◌∙◌, ap, subst, arith}
use Rattle.std.specs.Option.{unwrap_or, option_map}
use Rattle.std.specs.Ordering.{nat_cmp, is_eq}
use Rattle.std.specs.Map.{keys_of, lookup, set_value}
use Rattle.std.specs.List.Sorted.{IsStrictlySortedBy}
use Rattle.std.proofs.lemmas.Bool.Decides.{nat_tests}
use Rattle.std.proofs.lemmas.Grind.{common_steps}
use Rattle.std.proofs.lemmas.Option.{same_Some, slice_get-map}
use Rattle.std.proofs.lemmas.List.Sorted.{IsPermutation-refl, IsPermutation-map}
use Rattle.std.proofs.lemmas.List.Folds.{list_any-append}
use Rattle.lu_base.specs.declared.ids.Cookie.{Cookie}
use Rattle.lu_base.specs.declared.locks.Lock.{Lock}
use Rattle.lu_base.specs.declared.locks.Resource.{Resource}
use Rattle.lu_queue.specs.declared.locks.Grant.{Grant}
use Rattle.lu_queue.specs.Queues as queue
use Rattle.lu_queue.specs.Queues.{QueueState, has_to_wait, as_granted, with_lock, may_restore, restored, without, IsGranted, AreGranted}
use Rattle.lu_queue.specs.Queues.{IsQueue}
use Rattle.lu_queue.proofs.Keyed.{none_from_false}
use Rattle.lu_lockspace.specs.Spaces.{SpaceState, IsCancelled, same_resource, grant_of, grants_on, lock_on, queue_of, KeepsOthers, IsSpace}
use Rattle.lu_lockspace.specs.Spaces.{IsAt, is_in}
use Rattle.lu_lockspace.specs.Entries.{Entries, entry_of, at, all_of, AreRising, Keeps, Places, place_of, is_place, IsPlaced, IsIndexed}
use Rattle.lu_lockspace.proofs.Resources.{same_itself, same_is, same_turned, part_on, queue_at}
use Rattle.lu_lockspace.proofs.Places.{once_at, in_at, is_found, lock_at}

pub placed_at : (es : Entries) (ps : Places) → IsIndexed es ps → (c : ℕ) → IsPlaced c (all_of es) (place_of c ps)
placed_at es ps indexed c = λ s. ap (queue.is_in c) (queue_at s es indexed.rising) ∙ indexed.placed c s

-- a new cookie has no place
pub no_place : (es : Entries) (ps : Places) → IsIndexed es ps → (c : ℕ) → is_in c (all_of es) ≡ false → place_of c ps ≡ None
no_place es ps indexed c none = none_from_false (place_of c ps)
    (sym (in_at c (all_of es) (place_of c ps) (placed_at es ps indexed c)) ∙ none)

pub lawful : (es : Entries) (ps : Places) → IsIndexed es ps → IsSpace (all_of es)
lawful es ps indexed = record {
  queues = here;
  once = λ c. once_at c (all_of es) (place_of c ps) (placed_at es ps indexed c) (here _);
}
  where
    here : (s : Resource) → IsQueue (queue_of s (all_of es))
    here s = subst IsQueue (sym (queue_at s es indexed.rising)) (indexed.queues s)

pub keeps_others : (r : Resource) (before after : Entries) → AreRising before → AreRising after → Keeps r before after
    → KeepsOthers r (all_of before) (all_of after)
keeps_others r before after up up2 keeps = λ other differ.
    queue_at other after up2 ∙ ap (λ found. unwrap_or found queue.empty) (keeps other differ) ∙ sym (queue_at other before up)

pub eq_at : (a b : ℕ) → is_eq (nat_cmp a b) ≡ (a == b)
eq_at a b = grind (arith, nat_tests, common_steps)

pub indexed_changed : (r : Resource) (before after : Entries) (ps new : Places) → IsIndexed before ps → AreRising after
    → Keeps r before after → IsQueue (at r after) →
    IsStrictlySortedBy (λ a b. nat_cmp a.0 b.0) (keys_of new) →
    ((c : ℕ) → queue.is_in c (at r after) ≡ is_place r (place_of c new)) →
    ((c : ℕ) (s : Resource) → same_resource r s ≡ false → is_place s (place_of c new) ≡ is_place s (place_of c ps)) → IsIndexed after new
indexed_changed r before after ps new indexed up keeps here cookies placed others = record {
  rising = up;
  queues = λ s. queues s (same_resource r s) refl;
  placed = λ c s. placed_in c s (same_resource r s) refl;
  cookies = cookies;
}
  where
    still : (s : Resource) → same_resource r s ≡ false → at s after ≡ at s before
    still s differ = ap (λ found. unwrap_or found queue.empty) (keeps s differ)

    queues : (s : Resource) (b : Bool) → same_resource r s ≡ b → IsQueue (at s after)
    queues s true same = subst (λ k. IsQueue (at k after)) (same_is r s same) here
    queues s false differ = subst IsQueue (sym (still s differ)) (indexed.queues s)

    placed_in : (c : ℕ) (s : Resource) (b : Bool) → same_resource r s ≡ b → queue.is_in c (at s after) ≡ is_place s (place_of c new)
    placed_in c s true same = subst (λ k. queue.is_in c (at k after) ≡ is_place k (place_of c new)) (same_is r s same) (placed c)
    placed_in c s false differ = ap (queue.is_in c) (still s differ) ∙ indexed.placed c s ∙ sym (others c s differ)

-- one lock more
pub indexed_with : (cookie : ℕ) (r : Resource) (before after : Entries) (ps new : Places) → IsIndexed before ps → AreRising after
    → Keeps r before after → IsQueue (at r after) →
    IsStrictlySortedBy (λ a b. nat_cmp a.0 b.0) (keys_of new) → place_of cookie ps ≡ None →
    ((c : ℕ) → queue.is_in c (at r after) ≡ ((cookie == c) || queue.is_in c (at r before))) →
    ((q : Cookie) → place_of q.0 new ≡ cond (is_eq (nat_cmp cookie q.0)) (Some r) (place_of q.0 ps)) → IsIndexed after new
indexed_with cookie r before after ps new indexed up keeps here cookies none more put =
    indexed_changed r before after ps new indexed up keeps here cookies placed others where
      now : (c : ℕ) → place_of c new ≡ cond (cookie == c) (Some r) (place_of c ps)
      now c = put (record { 0 = c }) ∙ ap (λ b. cond b (Some r) (place_of c ps)) (eq_at cookie c)

      placed : (c : ℕ) → queue.is_in c (at r after) ≡ is_place r (place_of c new)
      placed c = more c ∙ by (cookie == c) (indexed.placed c r) ∙ ap (is_place r) (sym (now c)) where
        by : (b : Bool) → queue.is_in c (at r before) ≡ is_place r (place_of c ps) → (b || queue.is_in c (at r before))
            ≡ is_place r (cond b (Some r) (place_of c ps))
        by true h = sym (same_itself r)
        by false h = h

      others : (c : ℕ) (s : Resource) → same_resource r s ≡ false → is_place s (place_of c new) ≡ is_place s (place_of c ps)
      others c s differ = ap (is_place s) (now c) ∙ by (cookie == c) refl where
        by : (b : Bool) → (cookie == c) ≡ b → is_place s (cond b (Some r) (place_of c ps)) ≡ is_place s (place_of c ps)
        by true e =
            let same : cookie ≡ c = grind (arith, nat_tests, e) in
            same_turned s r ∙ differ ∙ sym (ap (is_place s) (subst (λ k. place_of k ps ≡ None) same none))
        by false e = refl

-- one lock less
pub indexed_without : (cookie : ℕ) (r : Resource) (before after : Entries) (ps new : Places) → IsIndexed before ps → AreRising after
    → Keeps r before after → IsQueue (at r after) →
    IsStrictlySortedBy (λ a b. nat_cmp a.0 b.0) (keys_of new) → place_of cookie ps ≡ Some r →
    ((c : ℕ) → queue.is_in c (at r after) ≡ (not (cookie == c) && queue.is_in c (at r before))) →
    ((q : Cookie) → place_of q.0 new ≡ cond (is_eq (nat_cmp cookie q.0)) None (place_of q.0 ps)) → IsIndexed after new
indexed_without cookie r before after ps new indexed up keeps here cookies found less gone =
    indexed_changed r before after ps new indexed up keeps here cookies placed others where
      now : (c : ℕ) → place_of c new ≡ cond (cookie == c) None (place_of c ps)
      now c = gone (record { 0 = c }) ∙ ap (λ b. cond b None (place_of c ps)) (eq_at cookie c)

      placed : (c : ℕ) → queue.is_in c (at r after) ≡ is_place r (place_of c new)
      placed c = less c ∙ by (cookie == c) (indexed.placed c r) ∙ ap (is_place r) (sym (now c)) where
        by : (b : Bool) → queue.is_in c (at r before) ≡ is_place r (place_of c ps) → (not b && queue.is_in c (at r before))
            ≡ is_place r (cond b None (place_of c ps))
        by true h = refl
        by false h = h

      others : (c : ℕ) (s : Resource) → same_resource r s ≡ false → is_place s (place_of c new) ≡ is_place s (place_of c ps)
      others c s differ = ap (is_place s) (now c) ∙ by (cookie == c) refl where
        by : (b : Bool) → (cookie == c) ≡ b → is_place s (cond b None (place_of c ps)) ≡ is_place s (place_of c ps)
        by true e =
            let same : cookie ≡ c = grind (arith, nat_tests, e) in
            sym (ap (is_place s) (subst (λ k. place_of k ps ≡ Some r) same found) ∙ same_turned s r ∙ differ)
        by false e = refl

-- the same places
pub indexed_same : (es : Entries) (ps new : Places) → IsIndexed es ps → IsStrictlySortedBy (λ a b. nat_cmp a.0 b.0) (keys_of new)
    → ((c : ℕ) → place_of c new ≡ place_of c ps) → IsIndexed es new
indexed_same es ps new indexed cookies same = record {
  rising = indexed.rising;
  queues = indexed.queues;
  placed = λ c s. indexed.placed c s ∙ ap (is_place s) (sym (same c));
  cookies = cookies;
}

-- put in and taken out again
pub put_back : (cookie : ℕ) (r : Resource) (ps more new : Places) → place_of cookie ps ≡ None →
    ((q : Cookie) → place_of q.0 more ≡ cond (is_eq (nat_cmp cookie q.0)) (Some r) (place_of q.0 ps)) →
    ((q : Cookie) → place_of q.0 new ≡ cond (is_eq (nat_cmp cookie q.0)) None (place_of q.0 more)) → (c : ℕ) → place_of c new
    ≡ place_of c ps
put_back cookie r ps more new none put gone c =
    gone (record { 0 = c }) ∙ ap (λ b. cond b None (place_of c more)) (eq_at cookie c)
    ∙ ap (cond (cookie == c) None) (put (record { 0 = c }) ∙ ap (λ b. cond b (Some r) (place_of c ps)) (eq_at cookie c))
    ∙ by (cookie == c) refl where
      by : (b : Bool) → (cookie == c) ≡ b → cond b None (cond b (Some r) (place_of c ps)) ≡ place_of c ps
      by true e = let same : cookie ≡ c = grind (arith, nat_tests, e) in sym (subst (λ k. place_of k ps ≡ None) same none)
      by false e = refl

-- ---- which cookies are in a queue

has-append : (c : ℕ) (xs ys : List Grant) → queue.has c (xs ++ ys) ≡ (queue.has c xs || queue.has c ys)
has-append c xs ys = list_any-append (λ (l : Grant). l.cookie.0 == c) xs ys

last_of : (a b t : Bool) → ((a || (t || false)) || b) ≡ (t || (a || b))
last_of true b true = refl
last_of true b false = refl
last_of false b true = refl
last_of false b false = refl

waits_last : (a b t : Bool) → (a || (b || (t || false))) ≡ (t || (a || b))
waits_last true b true = refl
waits_last true b false = refl
waits_last false true true = refl
waits_last false true false = refl
waits_last false false true = refl
waits_last false false false = refl

pub in_granted : (c : ℕ) (lock : Grant) (all : QueueState) → queue.is_in c (record all { granted = all.granted ++ lock ∷ [] })
    ≡ ((lock.cookie.0 == c) || queue.is_in c all)
in_granted c lock all = ap (λ v. v || queue.has c all.waiting) (has-append c all.granted (lock ∷ []))
    ∙ last_of (queue.has c all.granted) (queue.has c all.waiting) (lock.cookie.0 == c)

pub in_with : (c : ℕ) (lock : Grant) (all : QueueState) → queue.is_in c (with_lock lock all) ≡ ((lock.cookie.0 == c) || queue.is_in c all)
in_with c lock all = by (has_to_wait lock.ask all.granted all.waiting) where
  by : (v : Bool) → queue.is_in c (cond v (record all { waiting = all.waiting ++ lock ∷ [] })
      (record all { granted = all.granted ++ as_granted lock all.granted all.waiting ∷ [] })) ≡ ((lock.cookie.0 == c) || queue.is_in c all)
  by true = ap (λ v. queue.has c all.granted || v) (has-append c all.waiting (lock ∷ []))
      ∙ waits_last (queue.has c all.granted) (queue.has c all.waiting) (lock.cookie.0 == c)
  by false = in_granted c (as_granted lock all.granted all.waiting) all

moved : (a t u v : Bool) → ((a || (t || false)) || (u || v)) ≡ (a || (u || (t || v)))
moved true t u v = refl
moved false true true v = refl
moved false true false v = refl
moved false false true v = refl
moved false false false v = refl

-- to grant moves locks, and makes none
granted_once : (c : ℕ) (before : QueueState) (grant : Grant) (after : QueueState) → IsGranted before grant after → queue.is_in c after
    ≡ queue.is_in c before
granted_once c before grant after step =
    ap (queue.is_in c) step.left
    ∙ (λ i. has-append c before.granted (grant ∷ []) i || has-append c step.ahead step.behind i)
    ∙ ap (λ g. ((queue.has c before.granted || ((g.cookie.0 == c) || false)) || (queue.has c step.ahead || queue.has c step.behind)))
    step.grown
    ∙ moved (queue.has c before.granted) (step.lock.cookie.0 == c) (queue.has c step.ahead) (queue.has c step.behind)
    ∙ ap (λ v. queue.has c before.granted || v) (sym (ap (queue.has c) step.waiting ∙ has-append c step.ahead (step.lock ∷ step.behind)))

pub granted_in : (c : ℕ) (before : QueueState) (grants : List Grant) (after : QueueState) → AreGranted before grants after
    → queue.is_in c after ≡ queue.is_in c before
granted_in c before [] after (same, stuck) = ap (queue.is_in c) same
granted_in c before (grant ∷ grants) after (next, step, rest) = granted_in c next grants after rest ∙ granted_once c before grant next step

has_other : (c cookie : ℕ) (xs : List Grant) → queue.has c (queue.other_than cookie xs) ≡ (not (cookie == c) && queue.has c xs)
has_other c cookie [] = by (cookie == c) where
  by : (b : Bool) → false ≡ (not b && false)
  by true = refl
  by false = refl
has_other c cookie (x ∷ xs) = by (x.cookie.0 == cookie) refl (cookie == c) refl (x.cookie.0 == c) refl (has_other c cookie xs) where
  others : List Grant
  others = queue.other_than cookie xs

  by : (b : Bool) → (x.cookie.0 == cookie) ≡ b → (d : Bool) → (cookie == c) ≡ d → (t : Bool) → (x.cookie.0 == c) ≡ t → queue.has c others
      ≡ (not (cookie == c) && queue.has c xs) →
      queue.has c (cond (not b) (x ∷ others) others) ≡ (not (cookie == c) && ((x.cookie.0 == c) || queue.has c xs))
  by true e true f t g rest = rest ∙ rw f refl
  by true e false f true g rest = absurd (differs g f) where
    differs : (x.cookie.0 == c) ≡ true → (cookie == c) ≡ false → ⊥
    differs p q = grind (arith, nat_tests, e)
  by true e false f false g rest = rest ∙ rw (f, g) refl
  by false e true f true g rest = absurd (differs g f) where
    differs : (x.cookie.0 == c) ≡ true → (cookie == c) ≡ true → ⊥
    differs p q = grind (arith, nat_tests, e)
  by false e true f false g rest = rw g (rest ∙ rw f refl)
  by false e false f t g rest = ap (λ v. (x.cookie.0 == c) || v) rest ∙ rw f refl

pub in_without : (c cookie : ℕ) (all : QueueState) → queue.is_in c (without cookie all) ≡ (not (cookie == c) && queue.is_in c all)
in_without c cookie all = (λ i. has_other c cookie all.granted i || has_other c cookie all.waiting i) ∙ by (not (cookie == c)) where
  by : (b : Bool) → ((b && queue.has c all.granted) || (b && queue.has c all.waiting))
      ≡ (b && (queue.has c all.granted || queue.has c all.waiting))
  by true = refl
  by false = refl

-- ---- the queue of a resource, where it has one

pub at_some : (r : Resource) (es : Entries) (all : QueueState) → entry_of r es ≡ Some all → at r es ≡ all
at_some r es all found = ap (λ o. unwrap_or o queue.empty) found

pub at_none : (r : Resource) (es : Entries) → entry_of r es ≡ None → at r es ≡ queue.empty
at_none r es none = ap (λ o. unwrap_or o queue.empty) none

-- a queue that is there has the cookie's place
pub not_there : (es : Entries) (ps : Places) → IsIndexed es ps → (c : ℕ) (r : Resource) → place_of c ps ≡ Some r → entry_of r es ≡ None → ⊥
not_there es ps indexed c r place none =
    differs (sym (ap (is_place r) place ∙ same_itself r) ∙ sym (indexed.placed c r) ∙ ap (queue.is_in c) (at_none r es none)) where
      differs : true ≡ false → ⊥
      differs p = cc

-- the same value put in its place
pub set_same : (test : Resource → Bool) (es : Entries) (all : QueueState) → lookup test es ≡ Some all → set_value test es all ≡ es
set_same test [] all found = refl
set_same test (e ∷ es) all found = by (test e.0) found (set_same test es all) where
  by : (b : Bool) → cond b (Some e.1) (lookup test es) ≡ Some all → (lookup test es ≡ Some all → set_value test es all ≡ es)
      → cond b ((e.0, all) ∷ es) (e ∷ set_value test es all) ≡ e ∷ es
  by true found rest = let same : e.1 ≡ all = same_Some e.1 all found in ap (λ v. (e.0, v) ∷ es) (sym same)
  by false found rest = ap (λ xs. e ∷ xs) (rest found)

-- ---- the granted locks of a resource in rising cookie

locks_on : (r : Resource) (xs : List Lock) → filter (λ lock. same_resource lock.resource r) xs ≡ map (lock_on r) (grants_on r xs)
locks_on r [] = refl
locks_on r (x ∷ xs) = by (same_resource x.resource r) refl (locks_on r xs) where
  on : List Lock
  on = filter (λ lock. same_resource lock.resource r) xs

  by : (b : Bool) → same_resource x.resource r ≡ b → on ≡ map (lock_on r) (map grant_of on) → cond b (x ∷ on) on
      ≡ map (lock_on r) (map grant_of (cond b (x ∷ on) on))
  by true same rest =
      let here : x ≡ lock_on r (grant_of x) = ap (λ k. lock_on k (grant_of x)) (same_is x.resource r same) in
      λ i. here i ∷ rest i
  by false differ rest = rest

rising_on : (r : Resource) (order : List Grant) → ((place : ℕ) (d : Grant) → place + 1 < length order
    → (get_or order place d).cookie.0 ≤ (get_or order (place + 1) d).cookie.0) →
    (place : ℕ) (d : Lock) → place + 1 < length (map (lock_on r) order)
    → (get_or (map (lock_on r) order) place d).cookie.0 ≤ (get_or (map (lock_on r) order) (place + 1) d).cookie.0
rising_on r order rising place d within =
    let count : length (map (lock_on r) order) ≡ length order = count order in
    let first : get_or (map (lock_on r) order) place d ≡ lock_on r (get_or order place (grant_of d)) = mapped order place (omega arith) in
    let last : get_or (map (lock_on r) order) (place + 1) d ≡ lock_on r (get_or order (place + 1) (grant_of d)) =
    mapped order (place + 1) (omega arith) in
    let low = rising place (grant_of d) (omega arith) in
    rw (first, last) low
  where
    count : (xs : List Grant) → length (map (lock_on r) xs) ≡ length xs
    count [] = refl
    count (x ∷ xs) = ap suc (count xs)

    mapped : (xs : List Grant) (k : ℕ) → k < length xs → get_or (map (lock_on r) xs) k d ≡ lock_on r (get_or xs k (grant_of d))
    mapped [] k below = absurd (omega arith)
    mapped (x ∷ xs) zero below = refl
    mapped (x ∷ xs) (suc k) below = mapped xs k (omega arith)

pub granted_on : (r : Resource) (es : Entries) (n : ℕ) (found : Option Grant) → AreRising es → queue.IsAt n (at r es).granted found
    → IsAt r n (all_of es).granted (option_map (lock_on r) found)
granted_on r es n found up there = record {
  order = map (lock_on r) there.order;
  rising = record {
    same = subst (λ xs. IsPermutation xs (map (lock_on r) there.order)) (sym whole)
        (IsPermutation-map (lock_on r) (at r es).granted there.order there.rising.same);
    rising = rising_on r there.order there.rising.rising;
  };
  is = ap (option_map (lock_on r)) there.is ∙ sym (slice_get-map (lock_on r) there.order n);
}
  where
    whole : filter (λ lock. same_resource lock.resource r) (all_of es).granted ≡ map (lock_on r) (at r es).granted
    whole = locks_on r (all_of es).granted ∙ ap (map (lock_on r)) (part_on (λ all. all.granted) refl r es up)

pub none_at : (n : ℕ) → queue.IsAt n [] None
none_at n = record {
  order = [];
  rising = record { same = IsPermutation-refl []; rising = λ place d within. absurd (omega arith) };
  is =
      refl;
}

-- ---- a restored lock

pub in_restored : (c : ℕ) (lock : Grant) (all : QueueState) → true ≡ may_restore lock all → queue.is_in c (restored lock all)
    ≡ ((lock.cookie.0 == c) || queue.is_in c all)
in_restored c lock all may =
    ap (λ b. queue.is_in c (cond b (record all { granted = all.granted ++ lock ∷ [] }) all)) (sym may) ∙ in_granted c lock all

pub not_restored : (lock : Grant) (all : QueueState) → false ≡ may_restore lock all → restored lock all ≡ all
not_restored lock all may = ap (λ b. cond b (record all { granted = all.granted ++ lock ∷ [] }) all) (sym may)

-- ---- a lock taken away

-- the place of a cookie
pub place_is : (es : Entries) (ps : Places) → IsIndexed es ps → (c : ℕ) (r : Resource) → IsPlaced c (all_of es) (Some r) → place_of c ps
    ≡ Some r
place_is es ps indexed c r placed = by (place_of c ps) (sym (placed_at es ps indexed c r) ∙ placed r ∙ same_itself r) where
  by : (p : Option Resource) → is_place r p ≡ true → p ≡ Some r
  by None h = absurd (cc)
  by (Some s) h = ap Some (sym (same_is r s h))

pub cancelled_one : (c : ℕ) (r : Resource) (before : SpaceState) (grants : List Grant) (after : SpaceState) → IsPlaced c before (Some r) →
    AreGranted (without c (queue_of r before)) grants (queue_of r after) → KeepsOthers r before after → IsCancelled c before grants after
cancelled_one c r before grants after placed steps others = by (queue.lock_of c (queue_of r before)) refl where
  by : (found : Option Grant) → queue.lock_of c (queue_of r before) ≡ found → IsCancelled c before grants after
  by None e = absurd (differs (sym (in_at c before (Some r) placed) ∙ sym (is_found c before)
      ∙ ap is_some (lock_at c before (Some r) placed ∙ ap (option_map (lock_on r)) e))) where
        differs : true ≡ false → ⊥
        differs p = cc
  by (Some g) e = record {
    lock = lock_on r g;
    found = lock_at c before (Some r) placed ∙ ap (option_map (lock_on r)) e;
    granted = steps;
    others = others;
  }
