-- The first of a list that passes, step by step.
use Rattle.std.proofs.Common.{◌≡◌, ℕ, ◌+◌, ◌<◌, Bool, true, false, cond, Some, None, List, [], ◌∷◌, ◌++◌, length, take, drop, get_or, refl}
use Rattle.std.proofs.Common.{ap, sym, ◌∙◌}
use Rattle.std.specs.Prelude.{find, map}
use Rattle.std.specs.Option.{option_map}
use Rattle.std.proofs.lemmas.List.{take_more, take-append-drop}
use Rattle.lu_spec_laws.specs.Words.Pasts.{or_else}

pub find_append : {X : Type 0} (p : X → Bool) (xs ys : List X) → find p (xs ++ ys) ≡ or_else (find p xs) (find p ys)
find_append p [] ys = refl
find_append {X = X} p (x ∷ xs) ys = by (p x) (find_append p xs ys) where
  by : (b : Bool) → find p (xs ++ ys) ≡ or_else (find p xs) (find p ys) → cond b (Some x) (find p (xs ++ ys))
      ≡ or_else (cond b (Some x) (find p xs)) (find p ys)
  by true rest = refl
  by false rest = rest

pub find_map : {X Y : Type 0} (f : X → Y) (p : Y → Bool) (xs : List X) → find p (map f xs) ≡ option_map f (find (λ x. p (f x)) xs)
find_map f p [] = refl
find_map {X = X} f p (x ∷ xs) = by (p (f x)) (find_map f p xs) where
  by : (b : Bool) → find p (map f xs) ≡ option_map f (find (λ x. p (f x)) xs) → cond b (Some (f x)) (find p (map f xs))
      ≡ option_map f (cond b (Some x) (find (λ x. p (f x)) xs))
  by true rest = refl
  by false rest = rest

-- one more that doesn't pass
pub still_none : {X : Type 0} (p : X → Bool) (xs : List X) (i : ℕ) (d : X) → i < length xs → find p (take i xs) ≡ None → p (get_or xs i d)
    ≡ false → find p (take (i + 1) xs) ≡ None
still_none p xs i d within none fails = rw (take_more xs i d within, find_append p (take i xs) (get_or xs i d ∷ []), none, fails) refl

-- the first one that does
pub found_at : {X : Type 0} (p : X → Bool) (xs : List X) (i : ℕ) (d : X) → i < length xs → find p (take i xs) ≡ None → p (get_or xs i d)
    ≡ true → find p xs ≡ Some (get_or xs i d)
found_at p xs i d within none passes =
    let first : find p (take (i + 1) xs) ≡ Some (get_or xs i d) =
    rw (take_more xs i d within, find_append p (take i xs) (get_or xs i d ∷ []), none, passes) refl in
    ap (find p) (sym (take-append-drop (i + 1) xs)) ∙ find_append p (take (i + 1) xs) (drop (i + 1) xs)
    ∙ ap (λ o. or_else o (find p (drop (i + 1) xs))) first
