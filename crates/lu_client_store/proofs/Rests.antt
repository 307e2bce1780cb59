-- What is left of a list before and after an element.
use Rattle.std.proofs.Common.{◌≡◌, ℕ, ◌+◌, ◌<◌, List, ◌∷◌, length, drop, get_or, refl, ◌∙◌, add-one, drop-cons}

pub dropped : {A : Type 0} (xs : List A) (k : ℕ) (d : A) → k < length xs → drop k xs ≡ get_or xs k d ∷ drop (k + 1) xs
dropped xs k d less = drop-cons xs k d less ∙ rw add-one refl
