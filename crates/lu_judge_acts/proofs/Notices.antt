-- Whether one of the messages that a turn took is a notice, message by message.
use Rattle.std.proofs.Common.{◌≡◌, ℕ, ◌<◌, ◌≤◌, ◌+◌, Bool, true, false, List, [], ◌∷◌, ◌++◌, length, drop, map, refl, sym, ap, subst, ◌∙◌}
use Rattle.std.proofs.Common.{arith}
use Rattle.std.specs.Prelude.{◌||◌, reverse, slice_index_or}
use Rattle.std.specs.List.{list_any}
use Rattle.std.proofs.lemmas.List.{drop_more, drop_all}
use mathlib.Core.List.{reverse-cons}

either_same : (a b : Bool) → (a || b) ≡ (b || a)
either_same true true = refl
either_same true false = refl
either_same false true = refl
either_same false false = refl

or_or : (a b c : Bool) → ((a || b) || c) ≡ (a || (b || c))
or_or true b c = refl
or_or false b c = refl

any_append : {A : Type 0} (p : A → Bool) (xs ys : List A) → list_any p (xs ++ ys) ≡ (list_any p xs || list_any p ys)
any_append p [] ys = refl
any_append p (x ∷ xs) ys = ap (λ (b : Bool). p x || b) (any_append p xs ys) ∙ sym (or_or (p x) (list_any p xs) (list_any p ys))

or_none : (b : Bool) → (b || false) ≡ b
or_none true = refl
or_none false = refl

-- the order doesn't matter
pub any_reverse : {A : Type 0} (p : A → Bool) (xs : List A) → list_any p (reverse xs) ≡ list_any p xs
any_reverse p [] = refl
any_reverse {A} p (x ∷ xs) =
    ap (λ (ys : List A). list_any p ys) (reverse-cons x xs)
    ∙ any_append p (reverse xs) (x ∷ [])
    ∙ ap (λ (b : Bool). list_any p (reverse xs) || b) (or_none (p x))
    ∙ either_same (list_any p (reverse xs)) (p x)
    ∙ ap (λ (b : Bool). p x || b) (any_reverse p xs)

module _ {A B : Type 0} (p : B → Bool) (f : A → B) (xs : List A) (place : ℕ) (x : A) (below : place < length xs)
    (is : slice_index_or xs place x ≡ x) where
  here : list_any p (map f (drop place xs)) ≡ (p (f x) || list_any p (map f (drop (place + 1) xs)))
  here = ap (λ (ys : List A). list_any p (map f ys)) (drop_more xs place x below)
      ∙ ap (λ (y : A). p (f y) || list_any p (map f (drop (place + 1) xs))) is

  pub any_passed : (here : Bool) → here ≡ p (f x) → here ≡ false → list_any p (map f xs) ≡ list_any p (map f (drop place xs))
      → list_any p (map f xs) ≡ list_any p (map f (drop (place + 1) xs))
  any_passed b is_it it_isnt so_far = so_far ∙ here ∙ ap (λ (b : Bool). b || list_any p (map f (drop (place + 1) xs))) (sym is_it ∙ it_isnt)

  pub any_found : (here : Bool) → here ≡ p (f x) → here ≡ true → list_any p (map f xs) ≡ list_any p (map f (drop place xs)) → true
      ≡ list_any p (map f xs)
  any_found b is_it it_is so_far = sym (so_far ∙ here ∙ ap (λ (b : Bool). b || list_any p (map f (drop (place + 1) xs)))
      (sym is_it ∙ it_is))

pub any_ended : {A B : Type 0} (p : B → Bool) (f : A → B) (xs : List A) (place : ℕ) → length xs ≤ place → list_any p (map f xs)
    ≡ list_any p (map f (drop place xs)) → false ≡ list_any p (map f xs)
any_ended {A} p f xs place past so_far = sym (so_far ∙ ap (λ (ys : List A). list_any p (map f ys)) (drop_all place xs past))
