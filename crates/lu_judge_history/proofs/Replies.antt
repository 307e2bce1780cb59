-- The last reply among the messages that a turn took.
use Rattle.std.proofs.Common.{◌≡◌, ℕ, ◌+◌, ◌<◌, List, [], ◌∷◌, ◌++◌, length, get_or, take, map, refl, ap, ◌∙◌}
use Rattle.std.specs.Prelude.{reverse}
use Rattle.std.proofs.lemmas.List.{take_more, reverse-append}

map_last : {A B : Type 0} (f : A → B) (xs : List A) (x : A) → map f (xs ++ x ∷ []) ≡ map f xs ++ f x ∷ []
map_last f [] x = refl
map_last f (y ∷ xs) x = ap (λ ys. f y ∷ ys) (map_last f xs x)

pub newest_first : {A B : Type 0} (f : A → B) (xs : List A) (i : ℕ) (d : A) → i < length xs → reverse (map f (take (i + 1) xs))
    ≡ f (get_or xs i d) ∷ reverse (map f (take i xs))
newest_first f xs i d below =
    ap (λ ys. reverse (map f ys)) (take_more xs i d below) ∙ ap reverse (map_last f (take i xs) (get_or xs i d))
    ∙ reverse-append (map f (take i xs)) (f (get_or xs i d) ∷ [])
