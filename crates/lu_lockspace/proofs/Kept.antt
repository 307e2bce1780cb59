-- The resources whose queues pass a test, in their order: those of a sorted list of resources among which all of them are.
use Rattle.std.proofs.Common.{◌≡◌, Bool, true, false, cond, ◌||◌, List, [], ◌∷◌, map, filter, refl, sym, ◌∙◌, ap, subst, arith}
use Rattle.std.specs.List.{list_any, AllByRecursion}
use Rattle.std.specs.List.Sorted.{IsStrictlySortedBy}
use Rattle.std.specs.Map.{keys_of}
use Rattle.std.specs.Ordering.{is_eq}
use Rattle.std.specs.declared.cmp.Ordering.{Ordering}
use Rattle.std.specs.declared.cmp.Ordering.TheVariants.{Less, Equal, Greater}
use Rattle.std.proofs.lemmas.Bool.Decides.{nat_tests}
use Rattle.std.proofs.lemmas.Grind.{common_steps}
use Rattle.std.proofs.lemmas.List.Kept.{IsStrictlySortedBy-filter}
use Rattle.std.proofs.lemmas.Map.Keys.{sorted_head, sorted_tail}
use Rattle.std.proofs.lemmas.Map.Views.{any-filter_same}
use Rattle.lu_base.specs.declared.locks.Resource.{Resource}
use Rattle.lu_queue.specs.Queues as queue
use Rattle.lu_queue.specs.Queues.{QueueState}
use Rattle.lu_lockspace.specs.Spaces.{same_resource}
use Rattle.lu_lockspace.specs.Entries.{Entries, order, at, AreRising}
use Rattle.lu_lockspace.specs.Notes.{is_waited}
use Rattle.lu_lockspace.proofs.Resources.{same_itself, same_is, same_turned, is_at_same, at_here, at_next}

pub lower_differs : (r s : Resource) → order r s ≡ Less → same_resource r s ≡ false
lower_differs r s h = sym (is_at_same r s) ∙ ap is_eq h

-- ---- two sorted lists of the same resources are one

not_among : (r : Resource) (rs : List Resource) → AllByRecursion (λ s. order r s ≡ Less) rs → list_any (same_resource r) rs ≡ false
not_among r [] h = refl
not_among r (s ∷ rs) h = ap (λ b. b || list_any (same_resource r) rs) (lower_differs r s h.0) ∙ not_among r rs h.1

lower_than : (r s t : Resource) → order r s ≡ Less → order s t ≡ Less → order r t ≡ Less
lower_than r s t h k = grind (arith, nat_tests, common_steps, h, k)

lower_turned : (r s : Resource) → order r s ≡ Greater → order s r ≡ Less
lower_turned r s h = grind (arith, nat_tests, common_steps, h)

lower_than_all : (r s : Resource) → order r s ≡ Less → (rs : List Resource) → AllByRecursion (λ t. order s t ≡ Less) rs
    → AllByRecursion (λ t. order r t ≡ Less) rs
lower_than_all r s less [] h = tt
lower_than_all r s less (t ∷ rs) h = (lower_than r s t less h.0, lower_than_all r s less rs h.1)

first_among : (r : Resource) (rs : List Resource) → list_any (same_resource r) (r ∷ rs) ≡ true
first_among r rs = ap (λ b. b || list_any (same_resource r) rs) (same_itself r)

differ : true ≡ false → ⊥
differ p = cc

-- the first of one list is above none of the other
not_below : (r s : Resource) (rs ss : List Resource) → order r s ≡ Less → AllByRecursion (λ t. order s t ≡ Less) ss
    → list_any (same_resource r) (r ∷ rs) ≡ list_any (same_resource r) (s ∷ ss) → ⊥
not_below r s rs ss less above same =
    differ (sym (first_among r rs) ∙ same ∙ not_among r (s ∷ ss) (less, lower_than_all r s less ss above))

rest_same : (r s : Resource) (rs ss : List Resource) → r ≡ s → AllByRecursion (λ t. order r t ≡ Less) rs
    → AllByRecursion (λ t. order s t ≡ Less) ss →
    ((t : Resource) → list_any (same_resource t) (r ∷ rs) ≡ list_any (same_resource t) (s ∷ ss)) →
    (t : Resource) → list_any (same_resource t) rs ≡ list_any (same_resource t) ss
rest_same r s rs ss is above above2 same t = by (same_resource t r) refl where
  by : (b : Bool) → same_resource t r ≡ b → list_any (same_resource t) rs ≡ list_any (same_resource t) ss
  by true e =
      let here : r ≡ t = sym (same_is t r e) in
      subst (λ k. list_any (same_resource k) rs ≡ false) here (not_among r rs above)
      ∙ sym (subst (λ k. list_any (same_resource k) ss ≡ false) (sym is ∙ here) (not_among s ss above2))
  by false e =
      let apart : same_resource t s ≡ false = subst (λ k. same_resource t k ≡ false) is e in
      sym (ap (λ b. b || list_any (same_resource t) rs) e) ∙ same t ∙ ap (λ b. b || list_any (same_resource t) ss) apart

sorted_same : (rs ss : List Resource) → IsStrictlySortedBy order rs → IsStrictlySortedBy order ss →
    ((t : Resource) → list_any (same_resource t) rs ≡ list_any (same_resource t) ss) → rs ≡ ss
sorted_same [] [] up up2 same = refl
sorted_same [] (s ∷ ss) up up2 same = absurd (differ (sym (first_among s ss) ∙ sym (same s)))
sorted_same (r ∷ rs) [] up up2 same = absurd (differ (sym (first_among r rs) ∙ same r))
sorted_same (r ∷ rs) (s ∷ ss) up up2 same =
    by (order r s) refl (sorted_same rs ss (sorted_tail order r rs up) (sorted_tail order s ss up2)) where
      above : AllByRecursion (λ t. order r t ≡ Less) rs
      above = sorted_head order r rs up

      above2 : AllByRecursion (λ t. order s t ≡ Less) ss
      above2 = sorted_head order s ss up2

      by : (o : Ordering) → order r s ≡ o → (((t : Resource) → list_any (same_resource t) rs ≡ list_any (same_resource t) ss) → rs ≡ ss)
          → r ∷ rs ≡ s ∷ ss
      by Less e rest = absurd (not_below r s rs ss e above2 (same r))
      by Greater e rest = absurd (not_below s r ss rs (lower_turned r s e) above (sym (same s)))
      by Equal e rest =
          let is : r ≡ s = same_is r s (sym (is_at_same r s) ∙ ap is_eq e) in
          λ i. is i ∷ rest (rest_same r s rs ss is above above2 same) i

waited_same : (r : Resource) (rs : List Resource) → is_waited r rs ≡ list_any (same_resource r) rs
waited_same r [] = refl
waited_same r (s ∷ rs) = λ i. is_at_same r s i || waited_same r rs i

-- ---- those whose queues pass a test

module _ (test : QueueState → Bool) where
  abbrev pub passing : Entries → List Resource
  passing es = map (λ e. e.0) (filter (λ e. test e.1) es)

  passing_all : (P : Resource → Type 0) (es : Entries) → AllByRecursion P (keys_of es) → AllByRecursion P (passing es)
  passing_all P [] h = tt
  passing_all P (e ∷ es) h = by (test e.1) (passing_all P es h.1) where
    by : (b : Bool) → AllByRecursion P (passing es)
        → AllByRecursion P (map (λ f. f.0) (cond b (e ∷ filter (λ f. test f.1) es) (filter (λ f. test f.1) es)))
    by true rest = (h.0, rest)
    by false rest = rest

  passing_sorted : (es : Entries) → AreRising es → IsStrictlySortedBy order (passing es)
  unfolding IsStrictlySortedBy
  passing_sorted [] up = tt
  passing_sorted (e ∷ es) up = by (test e.1) (passing_sorted es (sorted_tail order e.0 (keys_of es) up)) where
    by : (b : Bool) → IsStrictlySortedBy order (passing es)
        → IsStrictlySortedBy order (map (λ f. f.0) (cond b (e ∷ filter (λ f. test f.1) es) (filter (λ f. test f.1) es)))
    by true rest = (passing_all (λ s. order e.0 s ≡ Less) es (sorted_head order e.0 (keys_of es) up), rest)
    by false rest = rest

  -- what isn't there is not among them
  absent : (r : Resource) (es : Entries) → AllByRecursion (λ s. order r s ≡ Less) (keys_of es) → list_any (same_resource r) (passing es)
      ≡ false
  absent r es h = not_among r (passing es) (passing_all (λ s. order r s ≡ Less) es h)

  pub listed : test queue.empty ≡ false → (r : Resource) (es : Entries) → AreRising es → list_any (same_resource r) (passing es)
      ≡ test (at r es)
  listed none r [] up = sym none
  listed none r (e ∷ es) up =
      by (same_resource e.0 r) refl (test e.1) refl (listed none r es (sorted_tail order e.0 (keys_of es) up)) where
        here : same_resource e.0 r ≡ true → list_any (same_resource r) (passing es) ≡ false
        here same = subst (λ k. list_any (same_resource k) (passing es) ≡ false) (same_is e.0 r same)
            (absent e.0 es (sorted_head order e.0 (keys_of es) up))

        by : (b : Bool) → same_resource e.0 r ≡ b → (v : Bool) → test e.1 ≡ v → list_any (same_resource r) (passing es) ≡ test (at r es) →
            list_any (same_resource r) (map (λ f. f.0) (cond v (e ∷ filter (λ f. test f.1) es) (filter (λ f. test f.1) es)))
            ≡ test (at r (e ∷ es))
        by true same true does rest =
            ap (λ b. b || list_any (same_resource r) (passing es)) (same_turned r e.0 ∙ same)
            ∙ sym (ap test (at_here r e es same) ∙ does)
        by true same false does rest = here same ∙ sym (ap test (at_here r e es same) ∙ does)
        by false apart true does rest =
            ap (λ b. b || list_any (same_resource r) (passing es)) (same_turned r e.0 ∙ apart)
            ∙ rest ∙ ap test (sym (at_next r e es apart))
        by false apart false does rest = rest ∙ ap test (sym (at_next r e es apart))

  -- the same list is what is kept of sorted resources, where all of them are among these
  pub kept_is : test queue.empty ≡ false → (es : Entries) (rs : List Resource) → AreRising es → IsStrictlySortedBy order rs →
      ((r : Resource) → test (at r es) ≡ true → is_waited r rs ≡ true) → filter (λ r. test (at r es)) rs ≡ passing es
  kept_is none es rs up up2 all =
      sorted_same (filter (λ r. test (at r es)) rs) (passing es) (IsStrictlySortedBy-filter order (λ r. test (at r es)) rs up2)
      (passing_sorted es up) (λ r. kept r (test (at r es)) refl ∙ sym (listed none r es up))
    where
      kept : (r : Resource) (b : Bool) → test (at r es) ≡ b → list_any (same_resource r) (filter (λ s. test (at s es)) rs) ≡ test (at r es)
      kept r true e =
          any-filter_same (same_resource r) (λ s. test (at s es)) true
          (λ s same. subst (λ k. test (at k es) ≡ true) (same_is r s same) e) rs
          ∙ sym (waited_same r rs) ∙ all r e ∙ sym e
      kept r false e =
          any-filter_same (same_resource r) (λ s. test (at s es)) false
          (λ s same. subst (λ k. test (at k es) ≡ false) (same_is r s same) e) rs
          ∙ sym e
