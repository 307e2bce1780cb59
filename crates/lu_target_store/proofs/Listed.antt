-- Lives that are taken from a list one after another, by their places.
use Rattle.std.proofs.Common.{◌≡◌, ℕ, zero, suc, List, [], ◌∷◌, ◌++◌, Some, None, length, take, slice_get, refl, sym, ap, ◌∙◌}
use Rattle.lu_base.specs.declared.ids.Who.{Who}

taken_at : (n : ℕ) (all : List Who) (w : Who) → slice_get all n ≡ Some w → take n all ++ w ∷ [] ≡ take (suc n) all
taken_at n [] w e = absurd (cc)
taken_at zero (x ∷ all) w e = let is : x ≡ w = cc in ap (λ (it : Who). it ∷ []) (sym is)
taken_at (suc n) (x ∷ all) w e = ap (λ more. x ∷ more) (taken_at n all w e)

taken_past : (n : ℕ) (all : List Who) → slice_get all n ≡ None → take n all ≡ all
taken_past zero [] e = refl
taken_past (suc n) [] e = refl
taken_past zero (x ∷ all) e = absurd (cc)
taken_past (suc n) (x ∷ all) e = ap (λ more. x ∷ more) (taken_past n all e)

one_longer : (xs : List Who) (w : Who) → length (xs ++ w ∷ []) ≡ suc (length xs)
one_longer [] w = refl
one_longer (x ∷ xs) w = ap suc (one_longer xs w)

-- one more
pub one_more : (xs all : List Who) (w : Who) → xs ≡ take (length xs) all → slice_get all (length xs) ≡ Some w → xs ++ w ∷ []
    ≡ take (length (xs ++ w ∷ [])) all
one_more xs all w is found = ap (λ them. them ++ w ∷ []) is ∙ taken_at (length xs) all w found
    ∙ ap (λ n. take n all) (sym (one_longer xs w))

-- and all
pub all_listed : (xs all : List Who) → xs ≡ take (length xs) all → slice_get all (length xs) ≡ None → xs ≡ all
all_listed xs all is none = is ∙ taken_past (length xs) all none
