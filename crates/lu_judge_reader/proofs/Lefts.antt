-- What is left of a list of which so many items are read.
use Rattle.std.proofs.Common.{◌≡◌, ◌∙◌, ap, refl, ℕ, ◌+◌, ◌≤◌, List, [], ◌∷◌, map, drop, length, Some, arith}
use Rattle.std.proofs.lemmas.List.{drop_all, drop_more, length-drop}
use Rattle.std.proofs.lemmas.Option.{slice_get_within, get_or_from_slice_get}
use Rattle.std.specs.List.{slice_get}

pub next_left :
    {A B : Type 0} (f : A → B) (xs : List A) (k : ℕ) (x : A) → slice_get xs k ≡ Some x
    → map f (drop k xs) ≡ f x ∷ map f (drop (k + 1) xs)
next_left f xs k x is =
    ap (map f) (drop_more xs k x (slice_get_within xs k x is))
    ∙ ap (λ y. f y ∷ map f (drop (k + 1) xs)) (get_or_from_slice_get xs k x x is)

none_of : {A B : Type 0} (f : A → B) (xs : List A) → map f xs ≡ [] → length xs ≡ 0
none_of f [] is = refl
none_of f (x ∷ xs) is = absurd (cc)

pub none_left :
    {A B : Type 0} (f : A → B) (xs : List A) (k : ℕ)
    → (length xs ≤ k → map f (drop k xs) ≡ []) × (map f (drop k xs) ≡ [] → length xs ≤ k)
none_left f xs k = (λ all. ap (map f) (drop_all k xs all), λ none. by (none_of f (drop k xs) none)) where
  by : length (drop k xs) ≡ 0 → length xs ≤ k
  by none = let e = length-drop k xs in omega arith
