-- A list that is searched from its end.
use Rattle.std.proofs.Common.{◌≡◌, ℕ, ◌+◌, ◌<◌, Bool, true, false, List, [], ◌∷◌, length, get_or, drop, refl, ap, ◌∙◌, arith}
use Rattle.std.specs.Prelude.{◌||◌, nat_lt}
use Rattle.std.specs.List.{list_any}
use Rattle.std.proofs.lemmas.Bool.Decides.{nat_tests}
use Rattle.std.proofs.lemmas.List.{at_drop_more}
use Rattle.std.proofs.lemmas.List.Folds.{list_any_at}
use Rattle.lu_judge_calls.specs.declared.kept.Kept.{Kept}
use Rattle.lu_judge_calls.specs.Marks.{Mark, mark_of, marks_of}

module _ (f : Mark → Bool) where
  any_map : (xs : List Kept) → list_any f (marks_of xs) ≡ list_any (λ (k : Kept). f (mark_of k)) xs
  any_map [] = refl
  any_map (x ∷ xs) = ap (λ (b : Bool). f (mark_of x) || b) (any_map xs)

  pub found : (xs : List Kept) (i : ℕ) (d : Kept) → i < length xs → f (mark_of (get_or xs i d)) ≡ true → list_any f (marks_of xs) ≡ true
  found xs i d below is = any_map xs ∙ list_any_at (λ (k : Kept). f (mark_of k)) xs i d below is

  neither : (a b : Bool) → a ≡ false → b ≡ false → (a || b) ≡ false
  neither true b e g = absurd (cc)
  neither false b e g = g

  pub onward : (xs : List Kept) (i : ℕ) (d : Kept) → i < length xs → f (mark_of (get_or xs i d)) ≡ false
      → list_any f (marks_of (drop (i + 1) xs)) ≡ false
      → list_any f (marks_of (drop i xs)) ≡ false
  onward xs i d below is rest =
      at_drop_more (λ (ks : List Kept). list_any f (marks_of ks)) xs i d below ∙ neither _ _ is rest

pub below_is : (m n : ℕ) → m < n → nat_lt m n ≡ true
below_is m n less = grind (arith, nat_tests)
