-- What the table of waiting locks shows after one came, after some were ended, and after the first of a cookie was granted.
use Rattle.std.proofs.Common.{◌≡◌, ℕ, ◌+◌, ◌<◌, ◌≤◌, Bool, true, false, not, ◌&&◌, ◌==◌, Some, None, List, [], ◌∷◌, ◌++◌, length, drop}
use Rattle.std.proofs.Common.{refl, ap, sym, subst, ◌∙◌, arith}
use Rattle.std.specs.Prelude.{filter, map, if◌then◌else◌, slice_get, IfSome}
use Rattle.std.specs.Option.{option_map}
use Rattle.std.proofs.lemmas.Bool.{and_parts, eqb-true, eq-eqb}
use Rattle.std.proofs.lemmas.List.{append-nil, drop-append-le, drop-map, length-map, length_push}
use Rattle.std.proofs.lemmas.List.Elements.{filter-append}
use Rattle.std.proofs.lemmas.Option.{slice_get_within}
use Rattle.lu_base.specs.declared.locks.Resource.{Resource}
use Rattle.lu_judge_locks.specs.declared.lists.Placed.{Placed}
use Rattle.lu_judge_locks.specs.declared.waiting.Waiting.{Waiting}
use Rattle.lu_judge_locks.specs.Lists.{Arrival, arrival_of, lasts, AreBefore, Ends, Swept, ShowsLists}
use Rattle.lu_judge_locks.specs.Arrivals.{has_its_cookie, first_of, without_that}
use Rattle.lu_judge_locks.specs.Queues.{queue_in, passed_in, Came, Gone, ShowsWaiting}
use Rattle.lu_judge_locks.proofs.Filters.{filter_two, filter_same, filter_swap, filter_early, before_later, before_with, map_filter}
use Rattle.lu_judge_locks.proofs.Lasting.{adds_shown, ends_shown, quiet_shown, swept_shown, lasts_now}
use Rattle.lu_judge_locks.proofs.Heads.{head, find_head, head_at, drop_at, drop_nil, before_drop, before_get}
use Rattle.lu_judge_locks.proofs.Notions.{none_first}

-- ---- one queue

abbrev is_queue : ℕ → ℕ → ℕ → ℕ → Bool
is_queue target cookie t other = target == t && cookie == other

-- a statement of each queue, from that queue and the others
at_queue : (P : ℕ → ℕ → Type 0) (target cookie : ℕ) → P target cookie → ((t other : ℕ) → is_queue target cookie t other ≡ false → P t other)
    → (t other : ℕ) → P t other
at_queue P target cookie here others t other = by (is_queue target cookie t other) refl where
  by : (same : Bool) → is_queue target cookie t other ≡ same → P t other
  by true same =
      let both = and_parts (target == t) (cookie == other) same in
      let first : target ≡ t = eqb-true target t both.0 in
      let second : cookie ≡ other = eqb-true cookie other both.1 in
      subst (λ (n : ℕ). P n other) first (subst (λ (n : ℕ). P target n) second here)
  by false same = others t other same

its_own : (target cookie : ℕ) → is_queue target cookie target cookie ≡ true
its_own target cookie = rw (eq-eqb target target refl, eq-eqb cookie cookie refl) refl

-- ---- nothing comes and nothing is ended

pub quiet_waiting : (w : Waiting) (place : ℕ) (all more : ℕ → List Arrival) → ShowsWaiting w place all → ((t : ℕ) → more t ≡ all t)
    → ShowsWaiting w (place + 1) more
quiet_waiting w place all more shown same = record {
  lists = quiet_shown w.lists place all more shown.lists same;
  past = λ t cookie. before_later place (place + 1) (queue_in w t cookie) (omega arith) (shown.past t cookie);
  within = shown.within;
  queues = λ t cookie. shown.queues t cookie ∙ ap (filter (has_its_cookie cookie)) (sym (same t));
}

-- ---- one comes

pub came_shown : (old new : Waiting) (target : ℕ) (a : Arrival) (all more : ℕ → List Arrival) → Came old new target a
    → ShowsWaiting old a.place all → ((t : ℕ) → more t ≡ (if target == t then all t ++ a ∷ [] else all t))
    → ShowsWaiting new (a.place + 1) more
came_shown old new target a all more came shown is = record {
  lists = adds_shown old.lists new.lists target a all more came.lists shown.lists is;
  past = at_queue (λ t other. AreBefore (a.place + 1) (queue_in new t other)) target a.lock.cookie.0
      (subst (AreBefore (a.place + 1)) (sym here) (before_with (a.place + 1) (queue_in old target a.lock.cookie.0) a (omega arith)
      (before_later a.place (a.place + 1) (queue_in old target a.lock.cookie.0) (omega arith) (shown.past target a.lock.cookie.0))))
      (λ t other apart. subst (AreBefore (a.place + 1)) (sym (there t other apart))
      (before_later a.place (a.place + 1) (queue_in old t other) (omega arith) (shown.past t other)));
  within = at_queue (λ t other. passed_in new t other ≤ length (queue_in new t other)) target a.lock.cookie.0
      (let count : length (queue_in new target a.lock.cookie.0) ≡ length (queue_in old target a.lock.cookie.0) + 1 = ap length here
      ∙ length_push (queue_in old target a.lock.cookie.0) a in
      let passed : passed_in new target a.lock.cookie.0 ≡ passed_in old target a.lock.cookie.0 = came.passed target a.lock.cookie.0 in
      let before : passed_in old target a.lock.cookie.0 ≤ length (queue_in old target a.lock.cookie.0) = shown.within target a.lock.cookie.0
      in omega arith)
      (λ t other apart. rw (came.passed t other, there t other apart) (shown.within t other));
  queues = at_queue (λ t other. filter (lasts new.lists t) (drop (passed_in new t other) (queue_in new t other))
      ≡ filter (has_its_cookie other) (more t)) target a.lock.cookie.0
      (let n = passed_in old target a.lock.cookie.0 in let queue = queue_in old target a.lock.cookie.0 in
      both target (came.passed target a.lock.cookie.0) here
      ∙ ap (filter (lasts new.lists target)) (drop-append-le n queue (a ∷ []) (shown.within target a.lock.cookie.0))
      ∙ filter_same (lasts new.lists target) (lasts old.lists target) (drop n queue ++ a ∷ []) (came.lists.ends.lasts target)
      ∙ filter-append (lasts old.lists target) (drop n queue) (a ∷ [])
      ∙ two (filter (lasts old.lists target) (drop n queue)) (filter (lasts old.lists target) (a ∷ []))
      (filter (has_its_cookie a.lock.cookie.0) (all target)) (filter (has_its_cookie a.lock.cookie.0) (a ∷ []))
      (shown.queues target a.lock.cookie.0)
      (rw (lasts_now old.lists target a shown.lists.bounded, eq-eqb a.lock.cookie.0 a.lock.cookie.0 refl) refl)
      ∙ sym (filter-append (has_its_cookie a.lock.cookie.0) (all target) (a ∷ []))
      ∙ ap (filter (has_its_cookie a.lock.cookie.0)) (sym (is target ∙ rw (eq-eqb target target refl) refl)))
      (λ t other apart.
      both t (came.passed t other) (there t other apart)
      ∙ filter_same (lasts new.lists t) (lasts old.lists t) (drop (passed_in old t other) (queue_in old t other)) (came.lists.ends.lasts t)
      ∙ shown.queues t other
      ∙ elsewhere t other apart ∙ ap (filter (has_its_cookie other)) (sym (is t)));
} where
  here : queue_in new target a.lock.cookie.0 ≡ queue_in old target a.lock.cookie.0 ++ a ∷ []
  here = came.queues target a.lock.cookie.0 ∙ rw (its_own target a.lock.cookie.0) refl

  there : (t other : ℕ) → is_queue target a.lock.cookie.0 t other ≡ false → queue_in new t other ≡ queue_in old t other
  there t other apart = came.queues t other ∙ rw apart refl

  both : (t : ℕ) {m n : ℕ} {queue next : List Arrival} → m ≡ n → next ≡ queue → filter (lasts new.lists t) (drop m next)
      ≡ filter (lasts new.lists t) (drop n queue)
  both t first second = rw (first, second) refl

  two : (x y z w : List Arrival) → x ≡ z → y ≡ w → x ++ y ≡ z ++ w
  two x y z w first second = rw (first, second) refl

  elsewhere : (t other : ℕ) → is_queue target a.lock.cookie.0 t other ≡ false → filter (has_its_cookie other) (all t)
      ≡ filter (has_its_cookie other) (if target == t then all t ++ a ∷ [] else all t)
  elsewhere t other apart = by (target == t) (has_its_cookie other a) refl apart where
    by : (same on : Bool) → has_its_cookie other a ≡ on → (same && on) ≡ false → filter (has_its_cookie other) (all t)
        ≡ filter (has_its_cookie other) (if same then all t ++ a ∷ [] else all t)
    by true true on apart = absurd (cc)
    by true false on apart = sym (filter-append (has_its_cookie other) (all t) (a ∷ [])
        ∙ rw on (append-nil (filter (has_its_cookie other) (all t))))
    by false b on apart = refl

-- ---- some are ended

-- of a queue what lasts
ended_queue : (old new : Waiting) (place : ℕ) (gone : ℕ → Arrival → Bool) → Ends old.lists new.lists place gone
    → (t n : ℕ) (queue : List Arrival) → AreBefore place queue → filter (lasts new.lists t) (drop n queue)
    ≡ filter (λ a. not (gone t a)) (filter (lasts old.lists t) (drop n queue))
ended_queue old new place gone ends t n queue early =
    filter_early (lasts new.lists t) (λ a. lasts old.lists t a && not (gone t a)) place (drop n queue) (before_drop place n queue early)
    (ends.lasts t)
    ∙ sym (filter_two (λ a. not (gone t a)) (lasts old.lists t) (drop n queue))

pub gone_shown : (old new : Waiting) (place : ℕ) (gone : ℕ → Arrival → Bool) (all more : ℕ → List Arrival) → Gone old new place gone
    → ShowsWaiting old place all → ((t : ℕ) → more t ≡ filter (λ a. not (gone t a)) (all t)) → ShowsWaiting new (place + 1) more
gone_shown old new place gone all more are shown is = record {
  lists = ends_shown old.lists new.lists place gone all more are.lists shown.lists is;
  past = λ t cookie. before_later place (place + 1) (queue_in new t cookie) (omega arith)
      (subst (AreBefore place) (sym (are.queues t cookie)) (shown.past t cookie));
  within = λ t cookie. rw (are.passed t cookie, are.queues t cookie) (shown.within t cookie);
  queues = λ t cookie.
      both t (are.passed t cookie) (are.queues t cookie)
      ∙ ended_queue old new place gone are.lists t (passed_in old t cookie) (queue_in old t cookie) (shown.past t cookie)
      ∙ ap (filter (λ a. not (gone t a))) (shown.queues t cookie) ∙ filter_swap (λ a. not (gone t a)) (has_its_cookie cookie) (all t)
      ∙ ap (filter (has_its_cookie cookie)) (sym (is t));
} where
  both : (t : ℕ) {m n : ℕ} {queue next : List Arrival} → m ≡ n → next ≡ queue → filter (lasts new.lists t) (drop m next)
      ≡ filter (lasts new.lists t) (drop n queue)
  both t first second = rw (first, second) refl

-- ---- the first of a cookie

-- the code's own form of a queue
abbrev pub lasting : Waiting → ℕ → ℕ → List Placed → List Placed
lasting w t n queue = filter (λ p. lasts w.lists t (arrival_of p)) (drop n queue)

as_arrivals : (w : Waiting) (t n : ℕ) (queue : List Placed) → filter (lasts w.lists t) (drop n (map arrival_of queue))
    ≡ map arrival_of (lasting w t n queue)
as_arrivals w t n queue = ap (filter (lasts w.lists t)) (drop-map arrival_of n queue)
    ∙ sym (map_filter arrival_of (lasts w.lists t) (drop n queue))

-- those of the cookie, from the place of the first one on
of_cookie : (w : Waiting) (t cookie at : ℕ) (queue : List Placed) (place : ℕ) (all : ℕ → List Arrival) → ShowsWaiting w place all
    → queue_in w t cookie ≡ map arrival_of queue → lasting w t at queue ≡ lasting w t (passed_in w t cookie) queue
    → map arrival_of (lasting w t at queue) ≡ filter (has_its_cookie cookie) (all t)
of_cookie w t cookie at queue place all shown is over =
    ap (map arrival_of) over ∙ sym (as_arrivals w t (passed_in w t cookie) queue)
    ∙ ap (λ q. filter (lasts w.lists t) (drop (passed_in w t cookie) q)) (sym is) ∙ shown.queues t cookie

pub first_is : (w : Waiting) (t cookie at : ℕ) (queue : List Placed) (place : ℕ) (all : ℕ → List Arrival) → ShowsWaiting w place all
    → queue_in w t cookie ≡ map arrival_of queue → lasting w t at queue ≡ lasting w t (passed_in w t cookie) queue
    → IfSome (slice_get queue at) (λ p. lasts w.lists t (arrival_of p) ≡ true) → option_map arrival_of (slice_get queue at)
    ≡ first_of cookie (all t)
first_is w t cookie at queue place all shown is over waits =
    head_at arrival_of (λ p. lasts w.lists t (arrival_of p)) queue at waits
    ∙ ap head (of_cookie w t cookie at queue place all shown is over)
    ∙ sym (find_head (has_its_cookie cookie) (all t))

pub no_first : (w : Waiting) (t cookie place : ℕ) (all : ℕ → List Arrival) → ShowsWaiting w place all → queue_in w t cookie ≡ []
    → first_of cookie (all t) ≡ None
no_first w t cookie place all shown is =
    find_head (has_its_cookie cookie) (all t) ∙ ap head (sym (shown.queues t cookie))
    ∙ ap (λ q. head (filter (lasts w.lists t) (drop (passed_in w t cookie) q))) is
    ∙ ap (λ q. head (filter (lasts w.lists t) q)) (drop_nil (passed_in w t cookie))

-- where none waits nothing changes
pub passes_none : (w : Waiting) (target cookie place : ℕ) (all more : ℕ → List Arrival) → ShowsWaiting w place all
    → ((t : ℕ) → more t ≡ (if target == t then without_that (first_of cookie (all t)) (all t) else all t)) → first_of cookie (all target)
    ≡ None → ShowsWaiting w (place + 1) more
passes_none w target cookie place all more shown is none = quiet_waiting w place all more shown (λ t. is t ∙ by t (target == t) refl) where
  by : (t : ℕ) (same : Bool) → (target == t) ≡ same → (if same then without_that (first_of cookie (all t)) (all t) else all t) ≡ all t
  by t true same = let e : target ≡ t = eqb-true target t same in subst (λ (n : ℕ). without_that (first_of cookie (all n)) (all n) ≡ all n)
      e (rw none (none_first (all target)))
  by t false same = refl

-- the first one is passed
pub record Passes (old new : Waiting) (t cookie at : ℕ) (first : Placed) : Type 0 where
  pub lists : (place : ℕ) → first.place < place → Ends old.lists new.lists place (λ n a. t == n && first.place == a.place)
  pub passed : (n other : ℕ) → passed_in new n other ≡ (if t == n && cookie == other then at + 1 else passed_in old n other)
  pub queues : (n other : ℕ) → queue_in new n other ≡ queue_in old n other

every : (xs : List Arrival) → filter (λ a. true) xs ≡ xs
every [] = refl
every (x ∷ xs) = ap (λ rest. x ∷ rest) (every xs)

-- a first one that isn't kept
skip_first : (keep : Arrival → Bool) (test : Placed → Bool) (p : Placed) (rest : List Placed) → test p ≡ true → keep (arrival_of p) ≡ false
    → filter keep (map arrival_of (filter test (p ∷ rest))) ≡ filter keep (map arrival_of (filter test rest))
skip_first keep test p rest passes goes = rw (passes, goes) refl

-- it is the lock that came to the target in that line
abbrev is_it : ℕ → Placed → ℕ → Arrival → Bool
is_it target first n a = target == n && first.place == a.place

pub passes_one : (old new : Waiting) (target cookie at : ℕ) (first : Placed) (queue : List Placed) → Passes old new target cookie at first
    → queue_in old target cookie ≡ map arrival_of queue → slice_get queue at ≡ Some first
    → lasting old target at queue ≡ lasting old target (passed_in old target cookie) queue → lasts old.lists target (arrival_of first)
    ≡ true
    → (place : ℕ) (all more : ℕ → List Arrival) → ShowsWaiting old place all
    → ((t : ℕ) → more t ≡ (if target == t then without_that (first_of cookie (all t)) (all t) else all t))
    → ShowsWaiting new (place + 1) more
passes_one old new target cookie at first queue passes its there over waits place all more shown is = let ends = passes.lists place early
    in record {
      lists = ends_shown old.lists new.lists place (is_it target first) all more ends shown.lists left;
      past = λ t other. before_later place (place + 1) (queue_in new t other) (omega arith)
          (subst (AreBefore place) (sym (passes.queues t other)) (shown.past t other));
      within = at_queue (λ t other. passed_in new t other ≤ length (queue_in new t other)) target cookie
          (let p : passed_in new target cookie ≡ at + 1 = passes.passed target cookie ∙ rw (its_own target cookie) refl in
          let q : length (queue_in new target cookie) ≡ length queue = ap length (passes.queues target cookie ∙ its)
          ∙ length-map queue arrival_of in
          let within : at < length queue = slice_get_within queue at first there in omega arith)
          (λ t other apart. rw (passes.passed t other, apart, passes.queues t other) (shown.within t other));
      queues = at_queue (λ t other. filter (lasts new.lists t) (drop (passed_in new t other) (queue_in new t other))
          ≡ filter (has_its_cookie other) (more t)) target cookie
          (both target (passes.passed target cookie ∙ rw (its_own target cookie) refl) (passes.queues target cookie)
          ∙ ended_queue old new place (is_it target first) ends target (at + 1) (queue_in old target cookie) (shown.past target cookie)
          ∙ ap (filter (λ a. not (is_it target first target a))) (ap (λ q. filter (lasts old.lists target) (drop (at + 1) q)) its
          ∙ as_arrivals old target (at + 1) queue)
          ∙ sym passed_first
          ∙ ap (filter (λ a. not (is_it target first target a))) (of_cookie old target cookie at queue place all shown its over)
          ∙ filter_swap (λ a. not (is_it target first target a)) (has_its_cookie cookie) (all target)
          ∙ ap (filter (has_its_cookie cookie)) (sym (left target)))
          (λ t other apart.
          both t (passes.passed t other ∙ rw apart refl) (passes.queues t other)
          ∙ ended_queue old new place (is_it target first) ends t (passed_in old t other) (queue_in old t other) (shown.past t other)
          ∙ ap (filter (λ a. not (is_it target first t a))) (shown.queues t other)
          ∙ filter_swap (λ a. not (is_it target first t a)) (has_its_cookie other) (all t)
          ∙ ap (filter (has_its_cookie other)) (sym (left t)));
    } where
      early : first.place < place
      early = before_get arrival_of place queue at first (subst (AreBefore place) its (shown.past target cookie)) there

      its_first : first_of cookie (all target) ≡ Some (arrival_of first)
      its_first = sym (first_is old target cookie at queue place all shown its over (rw there waits)) ∙ ap (option_map arrival_of) there

      left : (t : ℕ) → more t ≡ filter (λ a. not (is_it target first t a)) (all t)
      left t = is t ∙ by (target == t) refl where
        by : (same : Bool) → (target == t) ≡ same → (if same then without_that (first_of cookie (all t)) (all t) else all t)
            ≡ filter (λ a. not (same && first.place == a.place)) (all t)
        by true same = let e : target ≡ t = eqb-true target t same in subst
            (λ (n : ℕ). without_that (first_of cookie (all n)) (all n) ≡ filter (λ a. not (first.place == a.place)) (all n)) e
            (ap (λ one. without_that one (all target)) its_first)
        by false same = sym (every (all t))

      both : (t : ℕ) {m n : ℕ} {queue next : List Arrival} → m ≡ n → next ≡ queue → filter (lasts new.lists t) (drop m next)
          ≡ filter (lasts new.lists t) (drop n queue)
      both t first second = rw (first, second) refl

      passed_first : filter (λ a. not (is_it target first target a)) (map arrival_of (lasting old target at queue))
          ≡ filter (λ a. not (is_it target first target a)) (map arrival_of (lasting old target (at + 1) queue))
      passed_first =
          ap (λ q. filter (λ a. not (is_it target first target a)) (map arrival_of (filter (λ p. lasts old.lists target (arrival_of p)) q)))
          (drop_at queue at first there)
          ∙ skip_first (λ a. not (is_it target first target a)) (λ p. lasts old.lists target (arrival_of p)) first (drop (at + 1) queue) waits
          (rw (eq-eqb target target refl, eq-eqb first.place first.place refl) refl)

-- ---- a queue of which nothing waits is let go

pub record Cleared (old new : Waiting) (t cookie : ℕ) : Type 0 where
  pub lists : (place : ℕ) (all : ℕ → List Arrival) → ShowsLists old.lists place all → ShowsLists new.lists place all
  pub lasts : (n : ℕ) (a : Arrival) → lasts new.lists n a ≡ lasts old.lists n a
  pub queues : (n other : ℕ) → queue_in new n other ≡ (if t == n && cookie == other then [] else queue_in old n other)
  pub passed : (n other : ℕ) → passed_in new n other ≡ (if t == n && cookie == other then 0 else passed_in old n other)

no_head : (all : List Arrival) → head all ≡ None → all ≡ []
no_head [] none = refl
no_head (a ∷ all) none = absurd (cc)

pub cleared_shown : (old new : Waiting) (target cookie : ℕ) → Cleared old new target cookie → (place : ℕ) (all : ℕ → List Arrival)
    → first_of cookie (all target) ≡ None → ShowsWaiting old place all → ShowsWaiting new place all
cleared_shown old new target cookie cleared place all none shown = record {
  lists = cleared.lists place all shown.lists;
  past = at_queue (λ t other. AreBefore place (queue_in new t other)) target cookie (subst (AreBefore place) (sym queue_here) tt)
      (λ t other apart. subst (AreBefore place) (sym (queue_there t other apart)) (shown.past t other));
  within = at_queue (λ t other. passed_in new t other ≤ length (queue_in new t other)) target cookie
      (rw (passed_here, queue_here) (omega arith)) (λ t other apart. rw (passed_there t other apart, queue_there t other apart)
      (shown.within t other));
  queues = at_queue (λ t other. filter (lasts new.lists t) (drop (passed_in new t other) (queue_in new t other))
      ≡ filter (has_its_cookie other) (all t)) target cookie
      (rw (passed_here, queue_here) (sym (no_head (filter (has_its_cookie cookie) (all target))
      (sym (find_head (has_its_cookie cookie) (all target)) ∙ none))))
      (λ t other apart.
      rw (passed_there t other apart, queue_there t other apart)
      (filter_same (lasts new.lists t) (lasts old.lists t) (drop (passed_in old t other) (queue_in old t other)) (cleared.lasts t)
      ∙ shown.queues t other));
} where
  queue_here : queue_in new target cookie ≡ []
  queue_here = cleared.queues target cookie ∙ rw (its_own target cookie) refl

  passed_here : passed_in new target cookie ≡ 0
  passed_here = cleared.passed target cookie ∙ rw (its_own target cookie) refl

  queue_there : (t other : ℕ) → is_queue target cookie t other ≡ false → queue_in new t other ≡ queue_in old t other
  queue_there t other apart = cleared.queues t other ∙ rw apart refl

  passed_there : (t other : ℕ) → is_queue target cookie t other ≡ false → passed_in new t other ≡ passed_in old t other
  passed_there t other apart = cleared.passed t other ∙ rw apart refl

-- ---- a list is swept

pub swept_waiting : (old new : Waiting) (target : ℕ) (resource : Resource) → Swept old.lists new.lists target resource
    → ((t cookie : ℕ) → passed_in new t cookie ≡ passed_in old t cookie) → ((t cookie : ℕ) → queue_in new t cookie ≡ queue_in old t cookie)
    → (place : ℕ) (all : ℕ → List Arrival) → ShowsWaiting old place all → ShowsWaiting new place all
swept_waiting old new target resource swept passed queues place all shown = record {
  lists = swept_shown old.lists new.lists target resource place all swept shown.lists;
  past = λ t cookie. subst (AreBefore place) (sym (queues t cookie)) (shown.past t cookie);
  within = λ t cookie. rw (passed t cookie, queues t cookie) (shown.within t cookie);
  queues = λ t cookie.
      rw (passed t cookie, queues t cookie)
      (filter_same (lasts new.lists t) (lasts old.lists t) (drop (passed_in old t cookie) (queue_in old t cookie)) (swept.ends.lasts t)
      ∙ shown.queues t cookie);
}
