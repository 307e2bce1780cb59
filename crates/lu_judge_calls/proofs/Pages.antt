-- The pages from a first one up to the last.
use Rattle.std.proofs.Common.{◌≡◌, ℕ, ◌+◌, ◌<◌, ◌≤◌, Bool, true, false, List, [], ◌∷◌, ◌++◌, refl, sym, ap, ◌∙◌, ⊎_elim, arith}
use Rattle.std.specs.Prelude.{nat_lt, nat_le, ◌==◌, ◌&&◌, if◌then◌else◌}
use Rattle.std.proofs.lemmas.Bool.{eqb-true, cases_lt}
use Rattle.std.proofs.lemmas.Bool.Decides.{nat_tests}
use Rattle.lu_judge_calls.specs.Marks.{Mark}

from_first : (first page p : ℕ) → first ≤ page → page ≡ p → nat_le first p ≡ true
from_first first page p from is = grind (arith, nat_tests)

not_yet : (page p : ℕ) → page ≡ p → nat_lt p page ≡ false
not_yet page p is = grind (arith, nat_tests)

by_now : (page p : ℕ) → page ≡ p → nat_lt p (page + 1) ≡ true
by_now page p is = grind (arith, nat_tests)

as_before : (page p : ℕ) → (page == p) ≡ false → nat_lt p (page + 1) ≡ nat_lt p page
as_before page p other = grind (arith, nat_tests)

and_false : (a : Bool) → (a && false) ≡ false
and_false true = refl
and_false false = refl

module _ (init : List Mark) (m : Mark) where
  abbrev with_it : Bool → List Mark
  with_it b = if b then init ++ m ∷ [] else init

  pub one_more : (same : Bool) (first page p : ℕ) (old new : List Mark) → first ≤ page → old
      ≡ with_it (same && (nat_le first p && nat_lt p page))
      → new ≡ (if same && page == p then old ++ m ∷ [] else old) → new ≡ with_it (same && (nat_le first p && nat_lt p (page + 1)))
  one_more false first page p old new from was is = is ∙ was
  one_more true first page p old new from was is = by (page == p) refl is where
    by : (here : Bool) → (page == p) ≡ here → new ≡ (if here then old ++ m ∷ [] else old) → new
        ≡ with_it (nat_le first p && nat_lt p (page + 1))
    by true e is =
        let at : page ≡ p = eqb-true page p e in
        is ∙ ap (λ (ms : List Mark). ms ++ m ∷ []) (was ∙ ap (λ (b : Bool). with_it (nat_le first p && b)) (not_yet page p at)
        ∙ ap with_it (and_false (nat_le first p)))
        ∙ sym (ap (λ (b : Bool). with_it (b && nat_lt p (page + 1))) (from_first first page p from at) ∙ ap with_it (by_now page p at))
    by false e is = is ∙ was ∙ sym (ap (λ (b : Bool). with_it (nat_le first p && b)) (as_before page p e))

  up_to_last : (page last p : ℕ) → page ≡ last + 1 → nat_lt p page ≡ nat_le p last
  up_to_last page last p is = grind (arith, nat_tests)

  none_below : (first p page : ℕ) → page ≤ first → (nat_le first p && nat_lt p page) ≡ false
  none_below first p page under = grind (arith, nat_tests)

  none_up_to : (first p last : ℕ) → last < first → (nat_le first p && nat_le p last) ≡ false
  none_up_to first p last under = grind (arith, nat_tests)

  between : (first last page p : ℕ) → last < page → (first < page → page ≤ last + 1) → (nat_le first p && nat_lt p page)
      ≡ (nat_le first p && nat_le p last)
  between first last page p past upper =
      ⊎_elim (λ less. ap (λ (b : Bool). nat_le first p && b) (up_to_last page last p (let up = upper less in omega arith)))
      (λ not_less. none_below first p page not_less ∙ sym (none_up_to first p last (omega arith))) (cases_lt first page)

  pub all_of : (same : Bool) (first last page p : ℕ) (now : List Mark) → last < page → (first < page → page ≤ last + 1)
      → now ≡ with_it (same && (nat_le first p && nat_lt p page)) → now ≡ with_it (same && (nat_le first p && nat_le p last))
  all_of same first last page p now past upper is = is ∙ ap (λ (b : Bool). with_it (same && b)) (between first last page p past upper)
