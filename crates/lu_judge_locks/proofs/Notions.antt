-- Without their places, what is granted and what waits is as the laws say.
use Rattle.std.proofs.Common.{◌≡◌, ℕ, ◌+◌, ◌<◌, ◌≤◌, Bool, true, false, not, ◌==◌, cond, Option, Some, None, List, [], ◌∷◌, ◌++◌, length}
use Rattle.std.proofs.Common.{refl, ap, sym, subst, ◌∙◌, arith}
use Rattle.std.specs.Prelude.{if◌then◌else◌, filter, find, map, reverse}
use Rattle.std.specs.Option.{option_map}
use Rattle.std.proofs.lemmas.Bool.{eq-eqb, ne_eqb}
use Rattle.std.proofs.lemmas.List.{reverse-append, map-append, append-nil}
use Rattle.std.proofs.lemmas.List.Elements.{filter-append}
use Rattle.lu_base.specs.declared.locks.Lock.{Lock}
use Rattle.lu_base.specs.declared.locks.Resource.{Resource}
use Rattle.lu_trace.specs.declared.entries.Entry.{Entry}
use Rattle.lu_trace.specs.declared.entries.Entry.TheVariants.{Grant, Wait, Release, Crash, Restore, Evict}
use Rattle.lu_spec_machine.specs.Tree.{same_life}
use Rattle.lu_spec_laws.specs.Words.Pasts.{Past, is_target}
use Rattle.lu_spec_laws.specs.Words.Queues.{has_cookie, is_on, on, without, of_others, without_first, granted, waiting}
use Rattle.lu_judge_locks.specs.Lists.{Arrival, AreBefore, is_arrived_on}
use Rattle.lu_judge_locks.specs.Arrivals.{has_its_cookie, is_other_than, is_of_other, first_of, is_that, without_that, granted_with}
use Rattle.lu_judge_locks.specs.Arrivals.{waiting_with, grants, arrivals}
use Rattle.lu_judge_locks.proofs.Filters.{map_filter, before_kept, before_later, before_with}

abbrev pub lock_of : Arrival → Lock
lock_of a = a.lock

abbrev pub locks : List Arrival → List Lock
locks all = map lock_of all

reverse_filter : (p : Lock → Bool) (all : List Lock) → reverse (filter p all) ≡ filter p (reverse all)
reverse_filter p [] = refl
reverse_filter p (x ∷ xs) = by (p x) refl (reverse_filter p xs)
    ∙ sym (ap (filter p) (reverse-append (x ∷ []) xs) ∙ filter-append p (reverse xs) (x ∷ [])) where
      by : (b : Bool) → p x ≡ b → reverse (filter p xs) ≡ filter p (reverse xs) → reverse (cond b (x ∷ filter p xs) (filter p xs))
          ≡ filter p (reverse xs) ++ filter p (x ∷ [])
      by true is rest = reverse-append (x ∷ []) (filter p xs) ∙ rw is (ap (λ r. r ++ x ∷ []) rest)
      by false is rest = rw is (rest ∙ sym (append-nil (filter p (reverse xs))))

-- ---- granted

abbrev granted_row : Bool → Entry → List Lock → List Lock
granted_row here e old =
    elim e [
      | Grant lock ↦ if here then lock ∷ old else old
      | Restore lock ↦ if here then lock ∷ old else old
      | Release cookie ↦ if here then without cookie.0 old else old
      | Crash ↦ if here then [] else old
      | _ ↦ old
    ]

newest : (all : List Arrival) (a : Arrival) → a.lock ∷ reverse (locks all) ≡ reverse (locks (all ++ a ∷ []))
newest all a = sym (ap reverse (map-append lock_of all (a ∷ [])) ∙ reverse-append (locks all) (a.lock ∷ []))

kept : (cookie : ℕ) (all : List Arrival) → without cookie (reverse (locks all)) ≡ reverse (locks (filter (is_other_than cookie) all))
kept cookie all = sym (ap reverse (map_filter lock_of (λ lock. not (has_cookie cookie lock)) all)
    ∙ reverse_filter (λ lock. not (has_cookie cookie lock)) (locks all))

granted_rows : (here : Bool) (place : ℕ) (e : Entry) (old : List Arrival) → granted_row here e (reverse (locks old))
    ≡ reverse (locks (granted_with here place e old))
granted_rows true place (Grant lock) old = newest old (record { place = place; lock = lock })
granted_rows true place (Restore lock) old = newest old (record { place = place; lock = lock })
granted_rows true place (Release cookie) old = kept cookie.0 old
granted_rows true place Crash old = refl
granted_rows true place _ old = refl
granted_rows false place (Grant lock) old = refl
granted_rows false place (Restore lock) old = refl
granted_rows false place (Release cookie) old = refl
granted_rows false place Crash old = refl
granted_rows false place _ old = refl

pub granted_is : (t : ℕ) (past : Past) → granted t past ≡ reverse (locks (grants t past))
granted_is t [] = refl
granted_is t (l ∷ past) = ap (granted_row (is_target t l.at.node) l.entry) (granted_is t past)
    ∙ granted_rows (is_target t l.at.node) (length past) l.entry (grants t past)

pub granted_on : (t : ℕ) (resource : Resource) (past : Past) → on resource (granted t past)
    ≡ reverse (locks (filter (is_arrived_on resource) (grants t past)))
granted_on t resource past =
    ap (on resource) (granted_is t past) ∙ sym (reverse_filter (is_on resource) (locks (grants t past)))
    ∙ ap reverse (sym (map_filter lock_of (is_on resource) (grants t past)))

-- ---- waiting

-- their lines stand in order, all after this place
abbrev Rise : ℕ → List Arrival → Type 0
Rise from [] = Unit {0}
Rise from (a ∷ all) = (from ≤ a.place) × Rise (a.place + 1) all

rise_lower : (low from : ℕ) (all : List Arrival) → low ≤ from → Rise from all → Rise low all
rise_lower low from [] below rise = tt
rise_lower low from (a ∷ all) below rise = let first : from ≤ a.place = rise.0 in (omega arith, rise.1)

rise_kept : (p : Arrival → Bool) (from : ℕ) (all : List Arrival) → Rise from all → Rise from (filter p all)
rise_kept p from [] rise = tt
rise_kept p from (a ∷ all) rise = by (p a) (rise_kept p (a.place + 1) all rise.1) where
  by : (b : Bool) → Rise (a.place + 1) (filter p all) → Rise from (cond b (a ∷ filter p all) (filter p all))
  by true rest = (rise.0, rest)
  by false rest = let first : from ≤ a.place = rise.0 in rise_lower from (a.place + 1) (filter p all) (omega arith) rest

rise_with : (from : ℕ) (all : List Arrival) (a : Arrival) → from ≤ a.place → AreBefore a.place all → Rise from all
    → Rise from (all ++ a ∷ [])
rise_with from [] a within early rise = (within, tt)
rise_with from (b ∷ all) a within early rise = let first : b.place < a.place = early.0
    in (rise.0, rise_with (b.place + 1) all a (omega arith) early.1 rise.1)

-- none of those later is the one at this place
none_that : (one : Arrival) (all : List Arrival) → Rise (one.place + 1) all → without_that (Some one) all ≡ all
none_that one [] rise = refl
none_that one (a ∷ all) rise =
    let first : one.place + 1 ≤ a.place = rise.0 in
    let other : (one.place == a.place) ≡ false = ne_eqb one.place a.place (λ same. absurd (omega arith)) in
    rw other (ap (λ rest. a ∷ rest) (none_that one all (rise_lower (one.place + 1) (a.place + 1) all (omega arith) rise.1)))

-- the first of a cookie comes later than what stands ahead of it
first_later : (cookie from : ℕ) (all : List Arrival) (one : Arrival) → Rise from all → first_of cookie all ≡ Some one → from ≤ one.place
first_later cookie from [] one rise is = absurd (cc)
first_later cookie from (a ∷ all) one rise is = by (has_its_cookie cookie a) is
    (λ found. first_later cookie (a.place + 1) all one rise.1 found) where
      by : (b : Bool) → cond b (Some a) (first_of cookie all) ≡ Some one → (first_of cookie all ≡ Some one → a.place + 1 ≤ one.place)
          → from ≤ one.place
      by true is rest = let same : a ≡ one = cc in subst (λ (x : Arrival). from ≤ x.place) same rise.0
      by false is rest = let later = rest is in let first : from ≤ a.place = rise.0 in omega arith

pub none_first : (all : List Arrival) → without_that None all ≡ all
none_first [] = refl
none_first (a ∷ all) = ap (λ rest. a ∷ rest) (none_first all)

first_gone : (cookie from : ℕ) (all : List Arrival) → Rise from all → without_first cookie (locks all)
    ≡ locks (without_that (first_of cookie all) all)
first_gone cookie from [] rise = refl
first_gone cookie from (a ∷ all) rise = by (has_its_cookie cookie a) (first_gone cookie (a.place + 1) all rise.1) where
  behind : (one : Option Arrival) → first_of cookie all ≡ one → a.lock ∷ locks (without_that one all) ≡ locks (without_that one (a ∷ all))
  behind None is = refl
  behind (Some one) is =
      let after = first_later cookie (a.place + 1) all one rise.1 is in
      let other : (one.place == a.place) ≡ false = ne_eqb one.place a.place (λ same. absurd (omega arith)) in
      rw other refl

  by : (b : Bool) → without_first cookie (locks all) ≡ locks (without_that (first_of cookie all) all)
      → (if b then locks all else a.lock ∷ without_first cookie (locks all))
      ≡ locks (without_that (cond b (Some a) (first_of cookie all)) (a ∷ all))
  by true rest = rw (eq-eqb a.place a.place refl) (ap locks (sym (none_that a all rise.1)))
  by false rest = ap (λ more. a.lock ∷ more) rest ∙ behind (first_of cookie all) refl

abbrev waiting_row : Bool → Entry → List Lock → List Lock
waiting_row here e old =
    elim e [
      | Wait lock ↦ if here then old ++ lock ∷ [] else old
      | Grant lock ↦ if here then without_first lock.cookie.0 old else old
      | Evict who cause ↦ if here then of_others who old else old
      | Crash ↦ if here then [] else old
      | _ ↦ old
    ]

waiting_rows : (here : Bool) (place : ℕ) (e : Entry) (old : List Arrival) → Rise 0 old → waiting_row here e (locks old)
    ≡ locks (waiting_with here place e old)
waiting_rows true place (Wait lock) old rise = sym (map-append lock_of old (record { place = place; lock = lock } ∷ []))
waiting_rows true place (Grant lock) old rise = first_gone lock.cookie.0 0 old rise
waiting_rows true place (Evict who cause) old rise = sym (map_filter lock_of (λ lock. not (same_life lock.ask.who who)) old)
waiting_rows true place Crash old rise = refl
waiting_rows true place _ old rise = refl
waiting_rows false place (Wait lock) old rise = refl
waiting_rows false place (Grant lock) old rise = refl
waiting_rows false place (Evict who cause) old rise = refl
waiting_rows false place Crash old rise = refl
waiting_rows false place _ old rise = refl

-- they rise, and come before the next line
pub record InOrder (place : ℕ) (all : List Arrival) : Type 0 where
  pub rise : Rise 0 all
  pub early : AreBefore place all

in_order : (here : Bool) (place : ℕ) (e : Entry) (old : List Arrival) → InOrder place old
    → InOrder (place + 1) (waiting_with here place e old)
in_order here place e old order = by here e where
  same : InOrder (place + 1) old
  same = record { rise = order.rise; early = before_later place (place + 1) old (omega arith) order.early }

  filtered : (p : Arrival → Bool) → InOrder (place + 1) (filter p old)
  filtered p = record {
    rise = rise_kept p 0 old order.rise;
    early =
        before_later place (place + 1) (filter p old) (omega arith) (before_kept p place old order.early);
  }

  by : (here : Bool) (e : Entry) → InOrder (place + 1) (waiting_with here place e old)
  by true (Wait lock) =
      let a : Arrival = record { place = place; lock = lock } in
      record {
        rise = rise_with 0 old a (omega arith) order.early order.rise;
        early =
            before_with (place + 1) old a (omega arith) same.early;
      }
  by true (Grant lock) = filtered (λ a. not (is_that (first_of lock.cookie.0 old) a))
  by true (Evict who cause) = filtered (is_of_other who)
  by true Crash = record { rise = tt; early = tt }
  by true _ = same
  by false (Wait lock) = same
  by false (Grant lock) = same
  by false (Evict who cause) = same
  by false Crash = same
  by false _ = same

arrivals_order : (t : ℕ) (past : Past) → InOrder (length past) (arrivals t past)
arrivals_order t [] = record { rise = tt; early = tt }
arrivals_order t (l ∷ past) = subst (λ (n : ℕ). InOrder n (arrivals t (l ∷ past))) (next past)
    (in_order (is_target t l.at.node) (length past) l.entry (arrivals t past) (arrivals_order t past)) where
      next : (past : Past) → length past + 1 ≡ length (l ∷ past)
      next past = omega arith

pub waiting_is : (t : ℕ) (past : Past) → waiting t past ≡ locks (arrivals t past)
waiting_is t [] = refl
waiting_is t (l ∷ past) =
    let order = arrivals_order t past in
    ap (waiting_row (is_target t l.at.node) l.entry) (waiting_is t past)
    ∙ waiting_rows (is_target t l.at.node) (length past) l.entry (arrivals t past) order.rise

pub waiting_on : (t : ℕ) (resource : Resource) (past : Past) → on resource (waiting t past)
    ≡ locks (filter (is_arrived_on resource) (arrivals t past))
waiting_on t resource past = ap (on resource) (waiting_is t past) ∙ sym (map_filter lock_of (is_on resource) (arrivals t past))

find_lock : (cookie : ℕ) (all : List Arrival) → option_map lock_of (first_of cookie all) ≡ find (has_cookie cookie) (locks all)
find_lock cookie [] = refl
find_lock cookie (a ∷ all) = by (has_its_cookie cookie a) (find_lock cookie all) where
  by : (b : Bool) → option_map lock_of (first_of cookie all) ≡ find (has_cookie cookie) (locks all)
      → option_map lock_of (cond b (Some a) (first_of cookie all)) ≡ cond b (Some a.lock) (find (has_cookie cookie) (locks all))
  by true rest = refl
  by false rest = rest

pub waits_is : (t cookie : ℕ) (past : Past) → option_map lock_of (first_of cookie (arrivals t past))
    ≡ find (has_cookie cookie) (waiting t past)
waits_is t cookie past = find_lock cookie (arrivals t past) ∙ ap (find (has_cookie cookie)) (sym (waiting_is t past))
