-- A list searched, item by item.
use Rattle.std.proofs.Common.{◌≡◌, ℕ, ◌+◌, ◌<◌, ◌≤◌, Bool, true, false, List, [], ◌∷◌, ◌++◌, map, length, take, refl, ap, sym, ◌∙◌}
use Rattle.std.specs.Prelude.{slice_index_or, reverse, ◌||◌}
use Rattle.std.specs.List.{list_any}
use Rattle.std.proofs.lemmas.Bool.{or_from}
use Rattle.std.proofs.lemmas.List.{take_all, reverse-append}
use Rattle.std.proofs.lemmas.List.Folds.{list_any_more, list_any_at, list_any-append}

pub found_at : {A : Type 0} (p : A → Bool) (xs : List A) (i : ℕ) (d : A) → i < length xs → p (slice_index_or xs i d) ≡ true → list_any p xs
    ≡ true
found_at p xs i d below is = list_any_at p xs i d below is

pub none_more : {A : Type 0} (p : A → Bool) (xs : List A) (i : ℕ) (d : A) → i < length xs → list_any p (take i xs) ≡ false
    → p (slice_index_or xs i d) ≡ false → list_any p (take (i + 1) xs) ≡ false
none_more p xs i d below before here = list_any_more p xs i d below
    ∙ or_from (list_any p (take i xs)) (p (slice_index_or xs i d)) before here

pub none_found : {A : Type 0} (p : A → Bool) (xs : List A) (i : ℕ) → length xs ≤ i → list_any p (take i xs) ≡ false → list_any p xs ≡ false
none_found p xs i all none = ap (list_any p) (sym (take_all i xs all)) ∙ none

-- ---- in whatever order

or_swap : (a b : Bool) → (a || (b || false)) ≡ (b || a)
or_swap true true = refl
or_swap true false = refl
or_swap false true = refl
or_swap false false = refl

pub any_reverse : {A : Type 0} (p : A → Bool) (xs : List A) → list_any p (reverse xs) ≡ list_any p xs
any_reverse p [] = refl
any_reverse p (x ∷ xs) =
    ap (list_any p) (reverse-append (x ∷ []) xs) ∙ list_any-append p (reverse xs) (x ∷ [])
    ∙ ap (λ (b : Bool). b || (p x || false)) (any_reverse p xs)
    ∙ or_swap (list_any p xs) (p x)

any_map : {A B : Type 0} (p : B → Bool) (f : A → B) (xs : List A) → list_any p (map f xs) ≡ list_any (λ x. p (f x)) xs
any_map p f [] = refl
any_map p f (x ∷ xs) = ap (λ (b : Bool). p (f x) || b) (any_map p f xs)

pub any_read : {A B : Type 0} (p : B → Bool) (f : A → B) (xs : List A) → list_any p (reverse (map f xs)) ≡ list_any (λ x. p (f x)) xs
any_read p f xs = any_reverse p (map f xs) ∙ any_map p f xs
