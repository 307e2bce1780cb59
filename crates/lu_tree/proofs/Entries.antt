-- What holds of each entry.
use Rattle.std.proofs.Common.{Bool, true, false, List, [], ◌∷◌}
use Rattle.std.specs.Prelude.{if◌then◌else◌}
use Rattle.std.specs.declared.cmp.Ordering.{Ordering}
use Rattle.std.specs.List.{AllByRecursion, filter}
use Rattle.std.specs.Ordering.{is_lt}
use Rattle.lu_spec_machine.specs.Entries.{place}

module _ {K A : Type 0} (P : K × A → Type 0) where
  pub all_place : (cmp : K → K → Ordering) (k : K) (a : A) (es : List (K × A)) → P (k, a) → AllByRecursion P es
      → AllByRecursion P (place cmp k a es)
  all_place cmp k a [] p h = (p, tt)
  all_place cmp k a (e ∷ es) p h = by (is_lt (cmp k e.0)) (all_place cmp k a es p h.1)
    where
      by : (v : Bool) → AllByRecursion P (place cmp k a es) → AllByRecursion P (if v then (k, a) ∷ e ∷ es else e ∷ place cmp k a es)
      by true r = (p, h)
      by false r = (h.0, r)

  pub all_filter : (test : K × A → Bool) (es : List (K × A)) → AllByRecursion P es → AllByRecursion P (filter test es)
  all_filter test [] h = h
  all_filter test (e ∷ es) h = by (test e) (all_filter test es h.1)
    where
      by : (v : Bool) → AllByRecursion P (filter test es) → AllByRecursion P (if v then e ∷ filter test es else filter test es)
      by true r = (h.0, r)
      by false r = r

module _ {A : Type 0} (P Q : A → Type 0) (more : (a : A) → P a → Q a) where
  pub all_more : (xs : List A) → AllByRecursion P xs → AllByRecursion Q xs
  all_more [] h = h
  all_more (x ∷ xs) h = (more x h.0, all_more xs h.1)
