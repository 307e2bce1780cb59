-- What the lists of locks show after some were ended, after a list was swept, and after one more came.
use Rattle.std.proofs.Common.{◌≡◌, ℕ, ◌+◌, ◌<◌, ◌≤◌, Bool, true, false, not, ◌&&◌, ◌==◌, List, [], ◌∷◌, ◌++◌, refl, ap, sym, subst, ◌∙◌}
use Rattle.std.proofs.Common.{arith}
use Rattle.std.specs.Prelude.{filter, if◌then◌else◌, nat_le}
use Rattle.std.proofs.lemmas.Bool.{and_parts, eqb-true, eq-eqb, le-leb}
use Rattle.std.proofs.lemmas.List.{append-nil}
use Rattle.std.proofs.lemmas.List.Elements.{filter-append}
use Rattle.lu_base.specs.declared.ids.Fid.{Fid}
use Rattle.lu_base.specs.declared.locks.Resource.{Resource}
use Rattle.lu_judge_locks.specs.declared.lists.LockLists.{LockLists}
use Rattle.lu_judge_locks.specs.Lists.{Arrival, lasts, is_single, ended_at_target, ended_at_cookie, ended_at_life, IsBounded, list_on}
use Rattle.lu_judge_locks.specs.Lists.{lasting_on, is_list, Swept, Adds, Ends, AreBefore, is_arrived_on, IsEmpty, ShowsLists}
use Rattle.lu_judge_locks.proofs.Filters.{filter_two, filter_same, filter_swap, filter_twice, filter_early, before_kept, before_later}
use Rattle.lu_judge_locks.proofs.Filters.{before_with}

pub bounded_later : (s : LockLists) (place later : ℕ) → place ≤ later → IsBounded s place → IsBounded s later
bounded_later s place later within bounded = record {
  targets = λ t. let b = bounded.targets t in omega arith;
  cookies = λ t cookie. let b = bounded.cookies t cookie in omega arith;
  lives = λ t who. let b = bounded.lives t who in omega arith;
  single = λ t one is. let b = bounded.single t one is in omega arith;
}

pub empty_shown : (s : LockLists) → IsEmpty s → ShowsLists s 0 (λ t. [])
empty_shown s empty = record {
  bounded = empty.bounded;
  past = λ t resource. rw (empty.lists t resource) tt;
  lists = λ t resource. rw (empty.lists t resource) refl;
}

-- nothing comes, and nothing is ended
pub quiet_shown : (s : LockLists) (place : ℕ) (all more : ℕ → List Arrival) → ShowsLists s place all → ((t : ℕ) → more t ≡ all t)
    → ShowsLists s (place + 1) more
quiet_shown s place all more shown same = record {
  bounded = bounded_later s place (place + 1) (omega arith) shown.bounded;
  past = λ t resource. before_later place (place + 1) (list_on s t resource) (omega arith) (shown.past t resource);
  lists = λ t resource. shown.lists t resource ∙ ap (filter (is_arrived_on resource)) (sym (same t));
}

-- ---- some are ended

pub ends_shown : (old new : LockLists) (place : ℕ) (gone : ℕ → Arrival → Bool) (all more : ℕ → List Arrival) → Ends old new place gone
    → ShowsLists old place all → ((t : ℕ) → more t ≡ filter (λ a. not (gone t a)) (all t)) → ShowsLists new (place + 1) more
ends_shown old new place gone all more ends shown is = record {
  bounded = bounded_later new place (place + 1) (omega arith) (ends.bounded shown.bounded);
  past = λ t resource. before_later place (place + 1) (list_on new t resource) (omega arith)
      (subst (AreBefore place) (sym (ends.lists t resource)) (shown.past t resource));
  lists = λ t resource.
      let list = list_on old t resource in
      ap (filter (lasts new t)) (ends.lists t resource)
      ∙ filter_early (lasts new t) (λ a. lasts old t a && not (gone t a)) place list (shown.past t resource) (ends.lasts t)
      ∙ sym (filter_two (λ a. not (gone t a)) (lasts old t) list)
      ∙ ap (filter (λ a. not (gone t a))) (shown.lists t resource)
      ∙ filter_swap (λ a. not (gone t a)) (is_arrived_on resource) (all t)
      ∙ ap (filter (is_arrived_on resource)) (sym (is t));
}

-- ---- one list

pub record OneList (a : ℕ) (r : Resource) (b : ℕ) (q : Resource) : Type 0 where
  pub target : a ≡ b
  pub resource : r ≡ q

resource_is : (a b : Resource) → (a.fid.0 == b.fid.0 && a.stripe == b.stripe) ≡ true → a ≡ b
resource_is a b same =
    let both = and_parts (a.fid.0 == b.fid.0) (a.stripe == b.stripe) same in
    let fid : a.fid.0 ≡ b.fid.0 = eqb-true a.fid.0 b.fid.0 both.0 in
    let stripe : a.stripe ≡ b.stripe = eqb-true a.stripe b.stripe both.1 in
    let of_fid = λ (n : ℕ). let f : Fid = record { 0 = n } in let r : Resource = record { fid = f; stripe = a.stripe } in r in
    let of_stripe = λ (n : ℕ). let r : Resource = record { fid = b.fid; stripe = n } in r in
    ap of_fid fid ∙ ap of_stripe stripe

one_list : (target : ℕ) (resource : Resource) (t : ℕ) (other : Resource) → is_list target resource t other ≡ true
    → OneList target resource t other
one_list target resource t other same =
    let both = and_parts (target == t) (resource.fid.0 == other.fid.0 && resource.stripe == other.stripe) same in
    record { target = eqb-true target t both.0; resource = resource_is resource other both.1 }

its_own : (target : ℕ) (resource : Resource) → is_list target resource target resource ≡ true
its_own target resource = rw (
  eq-eqb target target refl,
  eq-eqb resource.fid.0 resource.fid.0 refl,
  eq-eqb resource.stripe resource.stripe refl,
) refl

on_its_own : (a : Arrival) → is_arrived_on a.lock.resource a ≡ true
on_its_own a = rw (eq-eqb a.lock.resource.fid.0 a.lock.resource.fid.0 refl, eq-eqb a.lock.resource.stripe a.lock.resource.stripe refl) refl

-- a statement of each list, from that list and the others
at_list : (P : ℕ → Resource → Type 0) (target : ℕ) (resource : Resource) → P target resource
    → ((t : ℕ) (other : Resource) → is_list target resource t other ≡ false → P t other) → (t : ℕ) (other : Resource) → P t other
at_list P target resource here others t other = by (is_list target resource t other) refl where
  by : (same : Bool) → is_list target resource t other ≡ same → P t other
  by true same =
      let one = one_list target resource t other same in
      subst (λ (n : ℕ). P n other) one.target (subst (λ (r : Resource). P target r) one.resource here)
  by false same = others t other same

-- ---- a list is swept

pub swept_shown : (old new : LockLists) (target : ℕ) (resource : Resource) (place : ℕ) (all : ℕ → List Arrival)
    → Swept old new target resource → ShowsLists old place all → ShowsLists new place all
swept_shown old new target resource place all swept shown = record {
  bounded = swept.ends.bounded place shown.bounded;
  past = at_list (λ t other. AreBefore place (list_on new t other)) target resource
      (subst (AreBefore place) (sym here) (before_kept (lasts old target) place (list_on old target resource) (shown.past target resource)))
      (λ t other apart. subst (AreBefore place) (sym (there t other apart)) (shown.past t other));
  lists = at_list (λ t other. lasting_on new t other ≡ filter (is_arrived_on other) (all t)) target resource
      (ap (filter (lasts new target)) here ∙ filter_same (lasts new target) (lasts old target) (lasting_on old target resource)
      (swept.ends.lasts target)
      ∙ filter_twice (lasts old target) (list_on old target resource) ∙ shown.lists target resource)
      (λ t other apart. ap (filter (lasts new t)) (there t other apart)
      ∙ filter_same (lasts new t) (lasts old t) (list_on old t other) (swept.ends.lasts t) ∙ shown.lists t other);
} where
  here : list_on new target resource ≡ lasting_on old target resource
  here = swept.lists target resource ∙ rw (its_own target resource) refl

  there : (t : ℕ) (other : Resource) → is_list target resource t other ≡ false → list_on new t other ≡ list_on old t other
  there t other apart = swept.lists t other ∙ rw apart refl

-- ---- one more comes

pub lasts_now : (s : LockLists) (t : ℕ) (a : Arrival) → IsBounded s a.place → lasts s t a ≡ true
lasts_now s t a bounded =
    rw (
      within_is (ended_at_target s t) a.place (bounded.targets t),
      within_is (ended_at_cookie s t a.lock.cookie.0) a.place (bounded.cookies t a.lock.cookie.0),
      within_is (ended_at_life s t a.lock.ask.who) a.place (bounded.lives t a.lock.ask.who),
    )
    (by (is_single s t a.place) refl)
  where
    within_is : (x y : ℕ) → x ≤ y → nat_le x y ≡ true
    within_is x y within = le-leb x y within

    by : (b : Bool) → is_single s t a.place ≡ b → not b ≡ true
    by true is = let early : a.place < a.place = bounded.single t a.place is in absurd (omega arith)
    by false is = refl

pub adds_shown : (old new : LockLists) (target : ℕ) (a : Arrival) (all more : ℕ → List Arrival) → Adds old new target a
    → ShowsLists old a.place all → ((t : ℕ) → more t ≡ (if target == t then all t ++ a ∷ [] else all t)) → ShowsLists new (a.place + 1) more
adds_shown old new target a all more adds shown is = record {
  bounded = bounded_later new a.place (a.place + 1) (omega arith) (adds.ends.bounded a.place shown.bounded);
  past = at_list (λ t other. AreBefore (a.place + 1) (list_on new t other)) target a.lock.resource
      (subst (AreBefore (a.place + 1)) (sym here)
      (before_with (a.place + 1) (lasting_on old target a.lock.resource) a (omega arith)
      (before_later a.place (a.place + 1) (lasting_on old target a.lock.resource) (omega arith)
      (before_kept (lasts old target) a.place (list_on old target a.lock.resource) (shown.past target a.lock.resource)))))
      (λ t other apart. subst (AreBefore (a.place + 1)) (sym (there t other apart))
      (before_later a.place (a.place + 1) (list_on old t other) (omega arith) (shown.past t other)));
  lists = at_list (λ t other. lasting_on new t other ≡ filter (is_arrived_on other) (more t)) target a.lock.resource
      (ap (filter (lasts new target)) here ∙ filter_same (lasts new target) (lasts old target)
      (lasting_on old target a.lock.resource ++ a ∷ []) (adds.ends.lasts target)
      ∙ filter-append (lasts old target) (lasting_on old target a.lock.resource) (a ∷ [])
      ∙ two (filter (lasts old target) (lasting_on old target a.lock.resource)) (filter (lasts old target) (a ∷ []))
      (filter (is_arrived_on a.lock.resource) (all target)) (filter (is_arrived_on a.lock.resource) (a ∷ []))
      (filter_twice (lasts old target) (list_on old target a.lock.resource) ∙ shown.lists target a.lock.resource)
      (rw (lasts_now old target a shown.bounded, on_its_own a) refl)
      ∙ sym (filter-append (is_arrived_on a.lock.resource) (all target) (a ∷ []))
      ∙ ap (filter (is_arrived_on a.lock.resource)) (sym (is target ∙ rw (eq-eqb target target refl) refl)))
      (λ t other apart. ap (filter (lasts new t)) (there t other apart)
      ∙ filter_same (lasts new t) (lasts old t) (list_on old t other) (adds.ends.lasts t) ∙ shown.lists t other
      ∙ elsewhere t other apart ∙ ap (filter (is_arrived_on other)) (sym (is t)));
} where
  here : list_on new target a.lock.resource ≡ lasting_on old target a.lock.resource ++ a ∷ []
  here = adds.lists target a.lock.resource ∙ rw (its_own target a.lock.resource) refl

  there : (t : ℕ) (other : Resource) → is_list target a.lock.resource t other ≡ false → list_on new t other ≡ list_on old t other
  there t other apart = adds.lists t other ∙ rw apart refl

  two : (x y z w : List Arrival) → x ≡ z → y ≡ w → x ++ y ≡ z ++ w
  two x y z w first second = rw (first, second) refl

  elsewhere : (t : ℕ) (other : Resource) → is_list target a.lock.resource t other ≡ false → filter (is_arrived_on other) (all t)
      ≡ filter (is_arrived_on other) (if target == t then all t ++ a ∷ [] else all t)
  elsewhere t other apart = by (target == t) (is_arrived_on other a) refl apart where
    by : (same on : Bool) → is_arrived_on other a ≡ on → (same && on) ≡ false → filter (is_arrived_on other) (all t)
        ≡ filter (is_arrived_on other) (if same then all t ++ a ∷ [] else all t)
    by true true on apart = absurd (cc)
    by true false on apart = sym (filter-append (is_arrived_on other) (all t) (a ∷ [])
        ∙ rw on (append-nil (filter (is_arrived_on other) (all t))))
    by false b on apart = refl
