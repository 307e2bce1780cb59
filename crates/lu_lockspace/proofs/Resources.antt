-- The locks on one resource, and the queue of a resource among all.
use Rattle.std.proofs.Common.{◌≡◌, Bool, true, false, cond, Some, None, List, [], ◌∷◌, ◌++◌, map, refl, sym, ◌∙◌, ap, subst, arith}
use Rattle.std.specs.List.{AllByRecursion}
use Rattle.std.specs.Option.{unwrap_or}
use Rattle.std.specs.Map.{keys_of}
use Rattle.std.specs.BTreeMap.{is_at}
use Rattle.std.specs.Ordering.{is_eq}
use Rattle.std.specs.declared.cmp.Ordering.TheVariants.{Less}
use Rattle.std.proofs.lemmas.Bool.Decides.{nat_tests}
use Rattle.std.proofs.lemmas.Grind.{common_steps}
use Rattle.std.proofs.lemmas.Map.Keys.{sorted_head, sorted_tail}
use Rattle.std.proofs.lemmas.List.{map-append, append-nil}
use Rattle.std.proofs.lemmas.List.Elements.{filter-append}
use Rattle.lu_base.specs.declared.locks.Lock.{Lock}
use Rattle.lu_base.specs.declared.locks.Resource.{Resource}
use Rattle.lu_queue.specs.declared.locks.Grant.{Grant}
use Rattle.lu_queue.specs.Queues as queue
use Rattle.lu_queue.specs.Queues.{QueueState}
use Rattle.lu_lockspace.specs.Spaces.{same_resource, grants_on, lock_on, queue_of}
use Rattle.lu_lockspace.specs.Entries.{Entries, order, entry_of, at, locks_of, all_of, AreRising}

pub same_itself : (r : Resource) → same_resource r r ≡ true
same_itself r = grind (arith, nat_tests)

pub same_turned : (a b : Resource) → same_resource a b ≡ same_resource b a
same_turned a b = grind (arith, nat_tests)

-- the test of resources is equality
pub same_is : (a b : Resource) → same_resource a b ≡ true → a ≡ b
same_is a b h =
    let fid : a.fid.0 ≡ b.fid.0 = grind (arith, nat_tests) in
    let stripe : a.stripe ≡ b.stripe = grind (arith, nat_tests) in
    λ i. record { fid = record { 0 = fid i }; stripe = stripe i }

-- so is the search for a key
pub is_at_same : (a b : Resource) → is_at (order a) b ≡ same_resource a b
is_at_same a b = grind (arith, nat_tests, common_steps)

pub grants_on-append : (r : Resource) (xs ys : List Lock) → grants_on r (xs ++ ys) ≡ grants_on r xs ++ grants_on r ys
grants_on-append r xs ys = simp (filter-append, map-append) refl

all_on : (r : Resource) (grants : List Grant) → grants_on r (map (lock_on r) grants) ≡ grants
all_on r [] = refl
all_on r (grant ∷ grants) = rw (same_itself r) (ap (λ gs. grant ∷ gs) (all_on r grants))

others_none : (r other : Resource) → same_resource r other ≡ false → (grants : List Grant) → grants_on other (map (lock_on r) grants) ≡ []
others_none r other differ [] = refl
others_none r other differ (grant ∷ grants) = rw differ (others_none r other differ grants)

-- no later entry is of a lower resource
pub not_after : (r : Resource) (es : Entries) → AllByRecursion (λ y. order r y ≡ Less) (keys_of es) → entry_of r es ≡ None
not_after r [] h = refl
not_after r (e ∷ es) h = by (is_at (order r) e.0) (ap is_eq h.0) (not_after r es h.1) where
  by : (b : Bool) → b ≡ false → entry_of r es ≡ None → cond b (Some e.1) (entry_of r es) ≡ None
  by true differ rest = absurd (cc)
  by false differ rest = rest

pub at_here : (r : Resource) (e : Resource × QueueState) (es : Entries) → same_resource e.0 r ≡ true → at r (e ∷ es) ≡ e.1
at_here r e es h = ap (λ b. unwrap_or (cond b (Some e.1) (entry_of r es)) queue.empty) (is_at_same r e.0 ∙ same_turned r e.0 ∙ h)

pub at_next : (r : Resource) (e : Resource × QueueState) (es : Entries) → same_resource e.0 r ≡ false → at r (e ∷ es) ≡ at r es
at_next r e es h = ap (λ b. unwrap_or (cond b (Some e.1) (entry_of r es)) queue.empty) (is_at_same r e.0 ∙ same_turned r e.0 ∙ h)

both : {X : Type 0} (xs ys us vs : List X) → xs ≡ us → ys ≡ vs → xs ++ ys ≡ us ++ vs
both xs ys us vs e f = λ i. e i ++ f i

-- the locks on a resource are those of its queue
pub part_on : (part : QueueState → List Grant) → part queue.empty ≡ [] → (r : Resource) (es : Entries) → AreRising es
    → grants_on r (locks_of part es) ≡ part (at r es)
part_on part none r [] rising = sym none
part_on part none r (e ∷ es) rising =
    grants_on-append r (map (lock_on e.0) (part e.1)) (locks_of part es)
    ∙ by (same_resource e.0 r) refl (part_on part none r es (sorted_tail order e.0 (keys_of es) rising)) where
      by : (b : Bool) → same_resource e.0 r ≡ b → grants_on r (locks_of part es) ≡ part (at r es)
          → grants_on r (map (lock_on e.0) (part e.1)) ++ grants_on r (locks_of part es) ≡ part (at r (e ∷ es))
      by true h rest =
          let same : e.0 ≡ r = same_is e.0 r h in
          let first : grants_on r (map (lock_on e.0) (part e.1)) ≡ part e.1 =
          subst (λ k. grants_on k (map (lock_on e.0) (part e.1)) ≡ part e.1) same (all_on e.0 (part e.1)) in
          let last : entry_of r es ≡ None = subst (λ k. entry_of k es ≡ None) same
          (not_after e.0 es (sorted_head order e.0 (keys_of es) rising)) in
          let empty : grants_on r (locks_of part es) ≡ [] = rest ∙ ap (λ o. part (unwrap_or o queue.empty)) last ∙ none in
          both _ _ (part e.1) [] first empty ∙ append-nil (part e.1) ∙ ap part (sym (at_here r e es h))
      by false h rest =
          both _ _ [] (part (at r es)) (others_none e.0 r h (part e.1)) rest ∙ ap part (sym (at_next r e es h))

pub queue_at : (r : Resource) (es : Entries) → AreRising es → queue_of r (all_of es) ≡ at r es
queue_at r es rising = λ i. record {
  granted = part_on (λ all. all.granted) refl r es rising i;
  waiting = part_on (λ all. all.waiting) refl r es rising i;
}
