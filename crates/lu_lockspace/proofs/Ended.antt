-- All locks of some lives are taken away, resource by resource.
use Rattle.std.proofs.Common.{◌≡◌, ℕ, zero, suc, ◌+◌, ◌<◌, ◌≤◌, ◌==◌, ◌||◌, Bool, true, false, not, cond, Option, Some, None, List, [], ◌∷◌}
use Rattle.std.proofs.Common.{◌++◌, length, take, drop, map, filter, get_or, refl, sym, ◌∙◌, ap, subst, arith}
use Rattle.std.specs.Prelude.{IsSome, ⊤}
use Rattle.std.specs.Option.{unwrap_or}
use Rattle.std.specs.Ordering.{nat_cmp, is_eq}
use Rattle.std.specs.List.{list_any, AllByRecursion}
use Rattle.std.specs.Map.{keys_of}
use Rattle.std.specs.BTreeMap.{is_at}
use Rattle.std.specs.List.Sorted.{IsStrictlySortedBy}
use Rattle.std.specs.declared.cmp.Ordering.TheVariants.{Less}
use Rattle.std.proofs.lemmas.Bool.Decides.{nat_tests}
use Rattle.std.proofs.lemmas.Grind.{common_steps}
use Rattle.std.proofs.lemmas.List.{append-nil, append_assoc, map-append, take_more}
use Rattle.std.proofs.lemmas.Map.Keys.{sorted_head, sorted_tail}
use Rattle.std.proofs.lemmas.List.Folds.{list_any-append}
use Rattle.lu_base.specs.declared.ids.Cookie.{Cookie}
use Rattle.lu_base.specs.declared.ids.Who.{Who}
use Rattle.lu_base.specs.declared.locks.Resource.{Resource}
use Rattle.lu_queue.specs.declared.locks.Grant.{Grant}
use Rattle.lu_queue.specs.Queues as queue
use Rattle.lu_queue.specs.Queues.{QueueState, is_of, has_of, without_lives, AllWait, AreGranted, IsQueue}
use Rattle.lu_queue.proofs.Lists as lists
use Rattle.lu_lockspace.specs.Spaces.{SpaceState, same_resource, queue_of, IsBefore, AllSettled, AreCancelled, IsSpace}
use Rattle.lu_lockspace.specs.Entries.{Entries, order, entry_of, at, all_of, changed, AreRising, Keeps, Places, place_of, is_place}
use Rattle.lu_lockspace.specs.Entries.{IsIndexed}
use Rattle.lu_lockspace.specs.Ending.{AllEnded, AllThere, AllReplaced, AreGone, cookies_of, taken, taken_on_all, is_among}
use Rattle.lu_lockspace.specs.Notes.{IsFewer, AllFewer}
use Rattle.lu_lockspace.proofs.Notes.{fewer_ended}
use Rattle.lu_lockspace.proofs.Resources.{same_itself, same_is, same_turned, is_at_same, at_here, at_next, queue_at}
use Rattle.lu_lockspace.proofs.Lists.{rest_at}
use Rattle.lu_lockspace.proofs.Laws.{keeps_others, granted_in, eq_at}

-- ---- one resource after another

abbrev Apart : Resource → List Resource → Type 0
Apart r rs = AllByRecursion (λ s. same_resource r s ≡ false) rs

-- what the queues of these resources were
abbrev pub Unchanged : (before now : Entries) → List Resource → Type 0
Unchanged before now rs = AllByRecursion (λ s. at s now ≡ at s before) rs

pub unchanged_at_first : (es : Entries) (rs : List Resource) → Unchanged es es rs
unchanged_at_first es [] = tt
unchanged_at_first es (r ∷ rs) = (refl, unchanged_at_first es rs)

still : (r s : Resource) (now next : Entries) → Keeps r now next → same_resource r s ≡ false → at s next ≡ at s now
still r s now next keeps differ = ap (λ found. unwrap_or found queue.empty) (keeps s differ)

unchanged_more : (r : Resource) (before now next : Entries) (rs : List Resource) → Keeps r now next → Apart r rs → Unchanged before now rs
    → Unchanged before next rs
unchanged_more r before now next [] keeps apart same = tt
unchanged_more r before now next (s ∷ rs) keeps apart same = (
  still r s now next keeps apart.0 ∙ same.0,
  unchanged_more r before now next rs keeps apart.1 same.1,
)

pub settled : (lives : List Who) (before now after ended : Entries) (grants : List Grant) → AreRising now → AllThere before (keys_of ended)
    → Unchanged before now (keys_of ended) →
    AllEnded lives before ended grants → AllReplaced ended now after → AllSettled lives (keys_of ended) (all_of now) grants (all_of after)
settled lives before now after [] grants up there same none is = (none, ap all_of is)
settled lives before now after (e ∷ ended) grants up (found, apart, there) same (first, rest, all, steps, whole, more)
    (next, up2, here, keeps, replaced) =
    let start : at e.0 before ≡ queue_of e.0 (all_of now) = sym (queue_at e.0 now up ∙ same.0) in
    let end : e.1 ≡ queue_of e.0 (all_of next) = sym (queue_at e.0 next up2 ∙ here) in
    let one : AreGranted (without_lives lives (queue_of e.0 (all_of now))) first e.1 =
    subst (λ q. AreGranted (without_lives lives q) first e.1) start steps in
    let two : AreGranted (without_lives lives (queue_of e.0 (all_of now))) first (queue_of e.0 (all_of next)) =
    subst (AreGranted (without_lives lives (queue_of e.0 (all_of now))) first) end one in (
      first,
      rest,
      all_of next,
      all,
      two,
      keeps_others e.0 now next up up2 keeps,
      settled lives before next after ended rest up2 there (unchanged_more e.0 before now next (keys_of ended) keeps apart same.1) more
          replaced,
    )

-- each queue is one still
pub queues_after : (lives : List Who) (before now after ended : Entries) (grants : List Grant) → ((r : Resource) → IsQueue (at r now)) →
    AllEnded lives before ended grants → AllReplaced ended now after → (r : Resource) → IsQueue (at r after)
queues_after lives before now after [] grants whole none is r = subst (λ es. IsQueue (at r es)) (sym is) (whole r)
queues_after lives before now after (e ∷ ended) grants whole (first, rest, all, steps, one, more) (next, up2, here, keeps, replaced) r =
    queues_after lives before next after ended rest (λ s. by s (same_resource e.0 s) refl) more replaced r where
      by : (s : Resource) (b : Bool) → same_resource e.0 s ≡ b → IsQueue (at s next)
      by s true same = subst (λ k. IsQueue (at k next)) (same_is e.0 s same) (subst IsQueue (sym here) one)
      by s false differ = subst IsQueue (sym (still e.0 s now next keeps differ)) (whole s)

or_true : (a b : Bool) → b ≡ true → (a || b) ≡ true
or_true true b h = refl
or_true false b h = h

has_filter : (c : ℕ) (test : Grant → Bool) (xs : List Grant) → queue.has c xs ≡ false → queue.has c (filter test xs) ≡ false
has_filter c test xs none =
    let few = lists.times_of_filter c test xs in
    let zero_times = lists.times_of_none c xs none in
    lists.none_of_times c (filter test xs) (omega arith)

in_lives : (c : ℕ) (lives : List Who) (all : QueueState) → queue.is_in c (without_lives lives all) ≡ true → queue.is_in c all ≡ true
in_lives c lives all h = by (queue.is_in c all) refl where
  others : Grant → Bool
  others lock = not (is_of lives lock)

  by : (b : Bool) → queue.is_in c all ≡ b → b ≡ true
  by true e = refl
  by false e =
      let parts = lists.or_false (queue.has c all.granted) (queue.has c all.waiting) e in
      let none : queue.is_in c (without_lives lives all) ≡ false = λ i. has_filter c others all.granted parts.0 i
      || has_filter c others all.waiting parts.1 i in
      sym none ∙ h

-- ---- one more of the new queues

pub ended_more : (lives : List Who) (before ended : Entries) (grants first : List Grant) (r : Resource) (q : QueueState)
    → AllEnded lives before ended grants →
    AreGranted (without_lives lives (at r before)) first q → IsQueue q → AllEnded lives before (ended ++ (r, q) ∷ []) (grants ++ first)
ended_more lives before [] grants first r q none steps one =
    (first, [], ap (λ gs. gs ++ first) none ∙ sym (append-nil first), steps, one, refl)
ended_more lives before (e ∷ ended) grants first r q (a, rest, all, steps2, one2, more) steps one = (
  a,
  rest ++ first,
  ap (λ gs. gs ++ first) all ∙ append_assoc a rest first,
  steps2,
  one2,
  ended_more lives before ended rest first r q more steps one,
)

pub keys_more : (ended : Entries) (rs : List Resource) (i : ℕ) (d : Resource) (q : QueueState) → i < length rs → keys_of ended ≡ take i rs
    → keys_of (ended ++ (get_or rs i d, q) ∷ []) ≡ take (i + 1) rs
keys_more ended rs i d q within h = map-append (λ e. e.0) ended ((get_or rs i d, q) ∷ []) ∙ ap (λ ks. ks ++ get_or rs i d ∷ []) h
    ∙ sym (take_more rs i d within)

pub there_more : (r : Resource) (now next : Entries) (rs : List Resource) → Keeps r now next → Apart r rs → AllThere now rs
    → AllThere next rs
there_more r now next [] keeps apart there = tt
there_more r now next (s ∷ rs) keeps apart there = (
  subst IsSome (sym (keeps s apart.0)) there.0,
  there.1,
  there_more r now next rs keeps apart.1 there.2,
)

-- ---- the resources on which the lives have locks

some_more : (b : Bool) (all : QueueState) (found : Option QueueState) → IsSome found → IsSome (cond b (Some all) found)
some_more true all found h = refl
some_more false all found h = h

found_more : (e : Resource × QueueState) (full es : Entries) → AllByRecursion (λ f. IsSome (entry_of f.0 full)) es
    → AllByRecursion (λ f. IsSome (entry_of f.0 (e ∷ full))) es
found_more e full [] h = tt
found_more e full (f ∷ es) h = (some_more (is_at (order f.0) e.0) e.1 (entry_of f.0 full) h.0, found_more e full es h.1)

found_all : (es : Entries) → AllByRecursion (λ f. IsSome (entry_of f.0 es)) es
found_all [] = tt
found_all (e ∷ es) = (here (is_at (order e.0) e.0) (is_at_same e.0 e.0 ∙ same_itself e.0), found_more e es es (found_all es)) where
  here : (b : Bool) → b ≡ true → IsSome (cond b (Some e.1) (entry_of e.0 es))
  here true h = refl
  here false h = absurd (cc)

keys_passing : (test : Resource × QueueState → Bool) (P : Resource → Type 0) (es : Entries) → AllByRecursion P (keys_of es)
    → AllByRecursion P (map (λ e. e.0) (filter test es))
keys_passing test P [] h = tt
keys_passing test P (e ∷ es) h = by (test e) (keys_passing test P es h.1) where
  by : (b : Bool) → AllByRecursion P (map (λ e. e.0) (filter test es))
      → AllByRecursion P (map (λ e. e.0) (cond b (e ∷ filter test es) (filter test es)))
  by true rest = (h.0, rest)
  by false rest = rest

weaker : (P Q : Resource → Type 0) → ((r : Resource) → P r → Q r) → (rs : List Resource) → AllByRecursion P rs → AllByRecursion Q rs
weaker P Q f [] h = tt
weaker P Q f (r ∷ rs) h = (f r h.0, weaker P Q f rs h.1)

lower_differs : (r s : Resource) → order r s ≡ Less → same_resource r s ≡ false
lower_differs r s h = sym (is_at_same r s) ∙ ap is_eq h

pub there : (test : Resource × QueueState → Bool) (full es : Entries) → AllByRecursion (λ f. IsSome (entry_of f.0 full)) es → AreRising es
    → AllThere full (map (λ e. e.0) (filter test es))
there test full [] found up = tt
there test full (e ∷ es) found up = by (test e) (there test full es found.1 (sorted_tail order e.0 (keys_of es) up)) where
  apart : AllByRecursion (λ s. same_resource e.0 s ≡ false) (map (λ f. f.0) (filter test es))
  apart = keys_passing test (λ s. same_resource e.0 s ≡ false) es
      (weaker (λ s. order e.0 s ≡ Less) (λ s. same_resource e.0 s ≡ false) (lower_differs e.0) (keys_of es)
      (sorted_head order e.0 (keys_of es) up))

  by : (b : Bool) → AllThere full (map (λ f. f.0) (filter test es))
      → AllThere full (map (λ f. f.0) (cond b (e ∷ filter test es) (filter test es)))
  by true rest = (found.0, apart, rest)
  by false rest = rest

pub changed_there : (lives : List Who) (es : Entries) → AreRising es → AllThere es (changed lives es)
changed_there lives es up = there (λ e. has_of lives e.1) es es (found_all es) up

abbrev Rise : List Resource → Type 0
Rise [] = ⊤
Rise (r ∷ rs) = AllByRecursion (λ s. order r s ≡ Less) rs × Rise rs

rise_passing : (test : Resource × QueueState → Bool) (es : Entries) → AreRising es → Rise (map (λ e. e.0) (filter test es))
rise_passing test [] up = tt
rise_passing test (e ∷ es) up = by (test e) (rise_passing test es (sorted_tail order e.0 (keys_of es) up)) where
  by : (b : Bool) → Rise (map (λ f. f.0) (filter test es)) → Rise (map (λ f. f.0) (cond b (e ∷ filter test es) (filter test es)))
  by true rest = (keys_passing test (λ s. order e.0 s ≡ Less) es (sorted_head order e.0 (keys_of es) up), rest)
  by false rest = rest

before : (a b : Resource) → order a b ≡ Less → IsBefore a b
before a b h = grind (arith, nat_tests, common_steps, h)

next_before : (rs : List Resource) → Rise rs → (place : ℕ) (d : Resource) → place + 1 < length rs
    → IsBefore (get_or rs place d) (get_or rs (place + 1) d)
next_before [] rise place d within = absurd (omega arith)
next_before (r ∷ []) rise place d within = absurd (omega arith)
next_before (r ∷ s ∷ rs) rise zero d within = before r s rise.0.0
next_before (r ∷ s ∷ rs) rise (suc place) d within =
    let next : suc (place + 1) ≡ suc place + 1 = omega arith in
    subst (λ n. IsBefore (get_or (r ∷ s ∷ rs) (suc place) d) (get_or (r ∷ s ∷ rs) n d)) next
    (next_before (s ∷ rs) rise.1 place d (omega arith))

none_left : (lives : List Who) (xs : List Grant) → list_any (is_of lives) xs ≡ false → filter (λ lock. not (is_of lives lock)) xs ≡ xs
none_left lives [] h = refl
none_left lives (x ∷ xs) h =
    let parts = lists.or_false (is_of lives x) (list_any (is_of lives) xs) h in
    ap (λ b. cond (not b) (x ∷ filter (λ lock. not (is_of lives lock)) xs) (filter (λ lock. not (is_of lives lock)) xs)) parts.0
    ∙ ap (λ ys. x ∷ ys) (none_left lives xs parts.1)

without_none : (lives : List Who) (all : QueueState) → has_of lives all ≡ false → without_lives lives all ≡ all
without_none lives all h =
    let parts = lists.or_false (list_any (is_of lives) all.granted) (list_any (is_of lives) all.waiting) h in
    λ i. record { granted = none_left lives all.granted parts.0 i; waiting = none_left lives all.waiting parts.1 i }

not_changed : (lives : List Who) (es : Entries) (r : Resource) → list_any (same_resource r) (changed lives es) ≡ false
    → has_of lives (at r es) ≡ false
not_changed lives [] r h = refl
not_changed lives (e ∷ es) r h =
    by (same_resource e.0 r) refl (has_of lives e.1) refl h (not_changed lives es r) where
      by : (b : Bool) → same_resource e.0 r ≡ b → (v : Bool) → has_of lives e.1 ≡ v →
          list_any (same_resource r) (map (λ f. f.0) (cond v (e ∷ filter (λ f. has_of lives f.1) es) (filter (λ f. has_of lives f.1) es)))
          ≡ false →
          (list_any (same_resource r) (changed lives es) ≡ false → has_of lives (at r es) ≡ false) → has_of lives (at r (e ∷ es)) ≡ false
      by true same true has g rest =
          let clash : same_resource r e.0 ≡ false = (lists.or_false (same_resource r e.0) (list_any (same_resource r) (changed lives es))
          g).0 in
          absurd (differs (sym (same_turned r e.0 ∙ same) ∙ clash)) where
            differs : true ≡ false → ⊥
            differs p = cc
      by true same false has g rest = ap (has_of lives) (at_here r e es same) ∙ has
      by false differ true has g rest = ap (has_of lives) (at_next r e es differ)
          ∙ rest (lists.or_false (same_resource r e.0) (list_any (same_resource r) (changed lives es)) g).1
      by false differ false has g rest = ap (has_of lives) (at_next r e es differ) ∙ rest g

pub cancelled : (lives : List Who) (before after ended : Entries) (grants : List Grant) → AreRising before → keys_of ended
    ≡ changed lives before →
    AllEnded lives before ended grants → AllReplaced ended before after → AreCancelled lives (all_of before) grants (all_of after)
cancelled lives before after ended grants up same more replaced = record {
  resources = keys_of ended;
  rising = λ place d within. subst (λ rs. place + 1 < length rs → IsBefore (get_or rs place d) (get_or rs (place + 1) d)) (sym same)
      (next_before (changed lives before) (rise_passing (λ e. has_of lives e.1) before up) place d) within;
  every = λ r none.
      let h : has_of lives (at r before) ≡ false = not_changed lives before r
      (subst (λ rs. list_any (same_resource r) rs ≡ false) same none) in
      subst (λ q. without_lives lives q ≡ q) (sym (queue_at r before up)) (without_none lives (at r before) h);
  settled = settled lives before before after ended grants up (subst (AllThere before) (sym same) (changed_there lives before up))
      (unchanged_at_first before (keys_of ended)) more replaced;
}

-- ---- what is left in each queue

-- the queues of these resources are those without the locks of the lives, and the others as they were
left_in : (lives : List Who) (before now after ended : Entries) (grants : List Grant) → AllEnded lives before ended grants →
    AllReplaced ended now after → (c : ℕ) (r : Resource) →
    (list_any (same_resource r) (keys_of ended) ≡ true → queue.is_in c (at r after) ≡ queue.is_in c (without_lives lives (at r before)))
    × (list_any (same_resource r) (keys_of ended) ≡ false → at r after ≡ at r now)
left_in lives before now after [] grants none is c r = ((λ h. absurd (differs (sym h))), (λ h. ap (at r) is)) where
  differs : true ≡ false → ⊥
  differs p = cc
left_in lives before now after (e ∷ ended) grants (first, rest, all, steps, one, more) (next, up2, here, keeps, replaced) c r =
    by (same_resource r e.0) refl (list_any (same_resource r) (keys_of ended)) refl
    (left_in lives before next after ended rest more replaced c r) where
      among : Bool
      among = list_any (same_resource r) (keys_of ended)

      Left : Bool → Type 0
      Left v = (v ≡ true → queue.is_in c (at r after) ≡ queue.is_in c (without_lives lives (at r before)))
          × (v ≡ false → at r after ≡ at r now)

      differs : true ≡ false → ⊥
      differs p = cc

      new : same_resource r e.0 ≡ true → at r next ≡ e.1
      new same = subst (λ k. at k next ≡ e.1) (sym (same_is r e.0 same)) here

      gone : same_resource r e.0 ≡ true → queue.is_in c e.1 ≡ queue.is_in c (without_lives lives (at r before))
      gone same = subst (λ k. queue.is_in c e.1 ≡ queue.is_in c (without_lives lives (at k before))) (sym (same_is r e.0 same))
          (granted_in c (without_lives lives (at e.0 before)) first e.1 steps)

      by : (b : Bool) → same_resource r e.0 ≡ b → (v : Bool) → among ≡ v →
          (among ≡ true → queue.is_in c (at r after) ≡ queue.is_in c (without_lives lives (at r before)))
          × (among ≡ false → at r after ≡ at r next) → Left (same_resource r e.0 || among)
      by b same true last found = (λ h. found.0 last, λ h. absurd (differs (sym (or_true (same_resource r e.0) among last) ∙ h)))
      by true same false last found = (
        λ h. ap (queue.is_in c) (found.1 last ∙ new same) ∙ gone same,
        λ h. absurd (differs (sym (ap (λ w. w || among) same) ∙ h)),
      )
      by false same false last found = (
        λ h. absurd (differs (sym h ∙ ap (λ w. w || among) same ∙ last)),
        λ h. found.1 last ∙ still e.0 r now next keeps (same_turned e.0 r ∙ same),
      )

-- the places of the cookies that are taken away

has_cookies : (c : ℕ) (lives : List Who) (xs : List Grant) → is_among c (cookies_of lives xs) ≡ queue.has c (filter (λ x. is_of lives x) xs)
has_cookies c lives [] = refl
has_cookies c lives (x ∷ xs) = by (is_of lives x) (has_cookies c lives xs) where
  by : (b : Bool) → is_among c (cookies_of lives xs) ≡ queue.has c (filter (λ y. is_of lives y) xs) →
      is_among c (map (λ y. y.cookie) (cond b (x ∷ filter (λ y. is_of lives y) xs) (filter (λ y. is_of lives y) xs)))
      ≡ queue.has c (cond b (x ∷ filter (λ y. is_of lives y) xs) (filter (λ y. is_of lives y) xs))
  by true rest = ap (λ v. (x.cookie.0 == c) || v) rest
  by false rest = rest

-- each lock of a cookie is of the lives, or of another
times_parts : (c : ℕ) (lives : List Who) (xs : List Grant) → queue.times c (filter (λ x. is_of lives x) xs)
    + queue.times c (filter (λ x. not (is_of lives x)) xs) ≡ queue.times c xs
times_parts c lives [] = refl
times_parts c lives (x ∷ xs) = let rest = times_parts c lives xs in grind (arith, common_steps, rest)

has_parts : (c : ℕ) (lives : List Who) (xs : List Grant) → queue.has c (filter (λ x. is_of lives x) xs) ≡ false
    → queue.has c (filter (λ x. not (is_of lives x)) xs) ≡ queue.has c xs
has_parts c lives [] none = refl
has_parts c lives (x ∷ xs) none = by (is_of lives x) none (has_parts c lives xs) where
  by : (b : Bool) → queue.has c (cond b (x ∷ filter (λ y. is_of lives y) xs) (filter (λ y. is_of lives y) xs)) ≡ false →
      (queue.has c (filter (λ y. is_of lives y) xs) ≡ false → queue.has c (filter (λ y. not (is_of lives y)) xs) ≡ queue.has c xs) →
      queue.has c (cond (not b) (x ∷ filter (λ y. not (is_of lives y)) xs) (filter (λ y. not (is_of lives y)) xs))
      ≡ ((x.cookie.0 == c) || queue.has c xs)
  by true none rest =
      let parts = lists.or_false (x.cookie.0 == c) (queue.has c (filter (λ y. is_of lives y) xs)) none in
      rest parts.1 ∙ sym (ap (λ v. v || queue.has c xs) parts.0)
  by false none rest = ap (λ v. (x.cookie.0 == c) || v) (rest none)

among_taken : (c : ℕ) (lives : List Who) (q : QueueState) → is_among c (taken lives q)
    ≡ (queue.has c (filter (λ x. is_of lives x) q.granted) || queue.has c (filter (λ x. is_of lives x) q.waiting))
among_taken c lives q = list_any-append (λ other. other.0 == c) (cookies_of lives q.granted) (cookies_of lives q.waiting)
    ∙ (λ i. has_cookies c lives q.granted i || has_cookies c lives q.waiting i)

-- what isn't taken is left
not_taken : (c : ℕ) (lives : List Who) (q : QueueState) → is_among c (taken lives q) ≡ false → queue.is_in c (without_lives lives q)
    ≡ queue.is_in c q
not_taken c lives q none =
    let parts = lists.or_false (queue.has c (filter (λ x. is_of lives x) q.granted)) (queue.has c (filter (λ x. is_of lives x) q.waiting))
    (sym (among_taken c lives q) ∙ none) in
    λ i. has_parts c lives q.granted parts.0 i || has_parts c lives q.waiting parts.1 i

-- what is taken isn't, since it was there once
is_taken : (c : ℕ) (lives : List Who) (q : QueueState) → IsQueue q → is_among c (taken lives q) ≡ true
    → (queue.is_in c q ≡ true) × (queue.is_in c (without_lives lives q) ≡ false)
is_taken c lives q whole h = (in_all, left) where
  mine : List Grant → List Grant
  mine xs = filter (λ x. is_of lives x) xs

  others : List Grant → List Grant
  others xs = filter (λ x. not (is_of lives x)) xs

  found : (queue.has c (mine q.granted) || queue.has c (mine q.waiting)) ≡ true
  found = sym (among_taken c lives q) ∙ h

  once : queue.times c q.granted + queue.times c q.waiting ≤ 1
  once = let most = whole.coherent.once c in let d = lists.times-append c q.granted q.waiting in omega arith

  some_times : (xs ys : List Grant) → (queue.has c xs || queue.has c ys) ≡ true → 1 ≤ queue.times c xs + queue.times c ys
  some_times xs ys e = by (queue.times c xs + queue.times c ys) refl where
    by : (n : ℕ) → queue.times c xs + queue.times c ys ≡ n → 1 ≤ queue.times c xs + queue.times c ys
    by zero z =
        let a : queue.has c xs ≡ false = lists.none_of_times c xs (omega (arith, z)) in
        let b : queue.has c ys ≡ false = lists.none_of_times c ys (omega (arith, z)) in
        absurd (differs (sym e ∙ (λ i. a i || b i))) where
          differs : true ≡ false → ⊥
          differs p = cc
    by (suc n) z = omega (arith, z)

  in_all : queue.is_in c q ≡ true
  in_all = by (queue.is_in c q) refl where
    by : (b : Bool) → queue.is_in c q ≡ b → b ≡ true
    by true e = refl
    by false e =
        let parts = lists.or_false (queue.has c q.granted) (queue.has c q.waiting) e in
        sym (λ i. has_filter c (λ x. is_of lives x) q.granted parts.0 i || has_filter c (λ x. is_of lives x) q.waiting parts.1 i) ∙ found

  left : queue.is_in c (without_lives lives q) ≡ false
  left =
      let a = times_parts c lives q.granted in
      let b = times_parts c lives q.waiting in
      let most = once in
      let least = some_times (mine q.granted) (mine q.waiting) found in
      let none : queue.has c (others q.granted) ≡ false = lists.none_of_times c (others q.granted) (omega arith) in
      let none2 : queue.has c (others q.waiting) ≡ false = lists.none_of_times c (others q.waiting) (omega arith) in
      λ i. none i || none2 i

-- a cookie that is taken on some resource, and one that is taken on none
where_taken : (c : ℕ) (lives : List Who) (rs : List Resource) (es : Entries) → is_among c (taken_on_all lives rs es) ≡ true
    → (r : Resource) × (is_among c (taken lives (at r es)) ≡ true)
where_taken c lives [] es h = absurd (cc)
where_taken c lives (s ∷ rs) es h = by (is_among c (taken lives (at s es))) refl (where_taken c lives rs es) where
  whole : (is_among c (taken lives (at s es)) || is_among c (taken_on_all lives rs es)) ≡ true
  whole = sym (list_any-append (λ other. other.0 == c) (taken lives (at s es)) (taken_on_all lives rs es)) ∙ h

  by : (b : Bool) → is_among c (taken lives (at s es)) ≡ b →
      (is_among c (taken_on_all lives rs es) ≡ true → (r : Resource) × (is_among c (taken lives (at r es)) ≡ true))
      → (r : Resource) × (is_among c (taken lives (at r es)) ≡ true)
  by true e rest = (s, e)
  by false e rest = rest (sym (ap (λ v. v || is_among c (taken_on_all lives rs es)) e) ∙ whole)

taken_nowhere : (c : ℕ) (lives : List Who) (rs : List Resource) (es : Entries) → is_among c (taken_on_all lives rs es) ≡ false →
    (r : Resource) → list_any (same_resource r) rs ≡ true → is_among c (taken lives (at r es)) ≡ false
taken_nowhere c lives [] es none r h = absurd (cc)
taken_nowhere c lives (s ∷ rs) es none r h =
    let parts = lists.or_false (is_among c (taken lives (at s es))) (is_among c (taken_on_all lives rs es))
    (sym (list_any-append (λ other. other.0 == c) (taken lives (at s es)) (taken_on_all lives rs es)) ∙ none) in
    by (same_resource r s) refl h parts.0 (taken_nowhere c lives rs es parts.1 r) where
      by : (b : Bool) → same_resource r s ≡ b → (b || list_any (same_resource r) rs) ≡ true → is_among c (taken lives (at s es)) ≡ false →
          (list_any (same_resource r) rs ≡ true → is_among c (taken lives (at r es)) ≡ false) → is_among c (taken lives (at r es)) ≡ false
      by true same h here rest = subst (λ k. is_among c (taken lives (at k es)) ≡ false) (sym (same_is r s same)) here
      by false same h here rest = rest h

pub taken_more : (lives : List Who) (rs : List Resource) (es : Entries) (i : ℕ) (d : Resource) (cookies some : List Cookie) → i < length rs →
    some ≡ taken lives (at (get_or rs i d) es) → cookies ++ taken_on_all lives (drop i rs) es ≡ taken_on_all lives rs es →
    (cookies ++ some) ++ taken_on_all lives (drop (i + 1) rs) es ≡ taken_on_all lives rs es
taken_more lives rs es i d cookies some within here before =
    append_assoc cookies some (taken_on_all lives (drop (i + 1) rs) es)
    ∙ ap (λ xs. cookies ++ (xs ++ taken_on_all lives (drop (i + 1) rs) es)) here
    ∙ ap (λ rest. cookies ++ taken_on_all lives rest es) (sym (rest_at rs i d within))
    ∙ before

pub gone_more : (cookies : List Cookie) (i : ℕ) (d : Cookie) (ps now next : Places) → i < length cookies → AreGone (take i cookies) ps now →
    ((q : Cookie) → place_of q.0 next ≡ cond (is_eq (nat_cmp (get_or cookies i d).0 q.0)) None (place_of q.0 now))
    → AreGone (take (i + 1) cookies) ps next
gone_more cookies i d ps now next within before gone c =
    let k = (get_or cookies i d).0 in
    let among : is_among c (take (i + 1) cookies) ≡ (is_among c (take i cookies) || ((k == c) || false)) =
    ap (is_among c) (take_more cookies i d within) ∙ list_any-append (λ other. other.0 == c) (take i cookies) (get_or cookies i d ∷ []) in
    gone (record { 0 = c }) ∙ ap (λ b. cond b None (place_of c now)) (eq_at k c)
    ∙ ap (cond (k == c) None) (before c)
    ∙ by (is_among c (take i cookies)) (k == c) ∙ sym (ap (λ b. cond b None (place_of c ps)) among) where
      by : (a b : Bool) → cond b None (cond a None (place_of c ps)) ≡ cond (a || (b || false)) None (place_of c ps)
      by true true = refl
      by true false = refl
      by false true = refl
      by false false = refl

-- ---- the places that are left

pub indexed_ended : (lives : List Who) (before after ended : Entries) (grants : List Grant) (ps new : Places) → IsIndexed before ps
    → AreRising after → keys_of ended ≡ changed lives before →
    AllEnded lives before ended grants → AllReplaced ended before after → IsStrictlySortedBy (λ a b. nat_cmp a.0 b.0) (keys_of new) →
    AreGone (taken_on_all lives (changed lives before) before) ps new → IsIndexed after new
indexed_ended lives before after ended grants ps new indexed up same more replaced cookies gone = record {
  rising = up;
  queues = queues_after lives before before after ended grants indexed.queues more replaced;
  placed = placed;
  cookies = cookies;
}
  where
    differs : true ≡ false → ⊥
    differs p = cc

    -- what is left of a queue
    left : (c : ℕ) (r : Resource) → queue.is_in c (at r after) ≡ queue.is_in c (without_lives lives (at r before))
    left c r = by (list_any (same_resource r) (keys_of ended)) refl where
      by : (b : Bool) → list_any (same_resource r) (keys_of ended) ≡ b
          → queue.is_in c (at r after) ≡ queue.is_in c (without_lives lives (at r before))
      by true h = (left_in lives before before after ended grants more replaced c r).0 h
      by false h =
          let none : has_of lives (at r before) ≡ false = not_changed lives before r
          (subst (λ rs. list_any (same_resource r) rs ≡ false) same h) in
          ap (queue.is_in c) ((left_in lives before before after ended grants more replaced c r).1 h
          ∙ sym (without_none lives (at r before) none))

    placed : (c : ℕ) (r : Resource) → queue.is_in c (at r after) ≡ is_place r (place_of c new)
    placed c r = left c r ∙ by (is_among c all) refl ∙ sym (ap (is_place r) (gone c)) where
      all : List Cookie
      all = taken_on_all lives (changed lives before) before

      -- the place of a cookie that is taken
      elsewhere : (s : Resource) → queue.is_in c (at s before) ≡ true → same_resource r s ≡ false → queue.is_in c (at r before) ≡ false
      elsewhere s there apart = place (place_of c ps) (indexed.placed c r) (indexed.placed c s) where
        place : (p : Option Resource) → queue.is_in c (at r before) ≡ is_place r p → queue.is_in c (at s before) ≡ is_place s p
            → queue.is_in c (at r before) ≡ false
        place None h k = h
        place (Some t) h k =
            let is : s ≡ t = same_is s t (sym k ∙ there) in
            h ∙ subst (λ u. same_resource r u ≡ false) is apart

      none_left : (s : Resource) (b : Bool) → same_resource r s ≡ b → is_among c (taken lives (at s before)) ≡ true
          → queue.is_in c (without_lives lives (at r before)) ≡ false
      none_left s true here h = subst (λ k. queue.is_in c (without_lives lives (at k before)) ≡ false) (sym (same_is r s here))
          (is_taken c lives (at s before) (indexed.queues s) h).1
      none_left s false apart h =
          let there = (is_taken c lives (at s before) (indexed.queues s) h).0 in
          let none : queue.is_in c (at r before) ≡ false = elsewhere s there apart in
          by (queue.is_in c (without_lives lives (at r before))) refl none where
            by : (b : Bool) → queue.is_in c (without_lives lives (at r before)) ≡ b → queue.is_in c (at r before) ≡ false → b ≡ false
            by true e none = sym (in_lives c lives (at r before) e) ∙ none
            by false e none = refl

      still_there : is_among c all ≡ false → (b : Bool) → list_any (same_resource r) (changed lives before) ≡ b
          → queue.is_in c (without_lives lives (at r before)) ≡ queue.is_in c (at r before)
      still_there none true h = not_taken c lives (at r before) (taken_nowhere c lives (changed lives before) before none r h)
      still_there none false h = ap (queue.is_in c) (without_none lives (at r before) (not_changed lives before r h))

      by : (b : Bool) → is_among c all ≡ b → queue.is_in c (without_lives lives (at r before)) ≡ is_place r (cond b None (place_of c ps))
      by true h = let found = where_taken c lives (changed lives before) before h in none_left found.0 (same_resource r found.0) refl found.1
      by false h = still_there h (list_any (same_resource r) (changed lives before)) refl ∙ indexed.placed c r

-- no queue has locks that it hadn't
pub all_fewer : (lives : List Who) (before ended : Entries) (grants : List Grant) → AllEnded lives before ended grants → AllFewer ended before
all_fewer lives before [] grants none = tt
all_fewer lives before (e ∷ ended) grants (first, rest, all, steps, one, more) =
    (fewer_ended lives (at e.0 before) first e.1 steps, all_fewer lives before ended rest more)

pub fewer_more : (r : Resource) (now next ended : Entries) → Keeps r now next → Apart r (keys_of ended) → AllFewer ended now
    → AllFewer ended next
fewer_more r now next [] keeps apart fewer = tt
fewer_more r now next (e ∷ ended) keeps apart fewer = (
  subst (IsFewer e.1) (sym (still r e.0 now next keeps apart.0)) fewer.0,
  fewer_more r now next ended keeps apart.1 fewer.1,
)

-- ---- the resources that aren't listed

settled_keeps : (lives : List Who) (rs : List Resource) (before after : SpaceState) (grants : List Grant) (r : Resource)
    → list_any (same_resource r) rs ≡ false →
    AllSettled lives rs before grants after → queue_of r after ≡ queue_of r before
settled_keeps lives [] before after grants r apart (none, is) = ap (queue_of r) is
settled_keeps lives (s ∷ rs) before after grants r apart (first, rest, next, all, steps, keeps, more) =
    let parts = lists.or_false (same_resource r s) (list_any (same_resource r) rs) apart in
    settled_keeps lives rs next after rest r parts.1 more ∙ keeps r (same_turned s r ∙ parts.0)

-- there the locks of the lives are away too, and nothing is to be granted
pub unlisted : (lives : List Who) (before after : SpaceState) (grants : List Grant) → IsSpace before
    → (all : AreCancelled lives before grants after) → (r : Resource) →
    list_any (same_resource r) all.resources ≡ false → AreGranted (without_lives lives (queue_of r before)) [] (queue_of r after)
unlisted lives before after grants whole all r apart =
    let same = all.every r apart in (
      settled_keeps lives all.resources before after grants r apart all.settled ∙ sym same,
      subst (λ q. AllWait q.granted q.waiting) (sym same) ((whole.queues r).stuck),
    )
