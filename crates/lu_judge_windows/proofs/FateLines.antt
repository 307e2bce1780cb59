-- What a close loses and keeps, transaction by transaction.
use Rattle.std.proofs.Common.{◌≡◌, ℕ, ◌+◌, ◌<◌, Bool, true, false, List, [], ◌∷◌, ◌++◌, length, take, get_or, refl, ap, subst, sym, ◌∙◌}
use Rattle.std.specs.Prelude.{◌&&◌, not, nat_lt, if◌then◌else◌, reverse, filter, map}
use Rattle.std.proofs.lemmas.List.{map_more}
use Rattle.lu_spec_laws.specs.Words.Lost.{Transaction, is_among, lost_of, with_lost, undecided}
use Rattle.lu_spec_laws.specs.Words.Closes.{kept_of}
use Rattle.lu_judge_windows.proofs.Listed.{reverse_push, reverse_cons}

module _ {A B : Type 0} (f : A → B) where
  pub map_so_far : (xs : List A) (i : ℕ) (d : A) → i < length xs → reverse (map f (take (i + 1) xs)) ≡ f (get_or xs i d)
      ∷ reverse (map f (take i xs))
  map_so_far xs i d below = ap reverse (map_more f xs i d below) ∙ reverse_push (map f (take i xs)) (f (get_or xs i d))

  pub map_next : (xs : List A) (i : ℕ) (x : A) → i < length xs → x ≡ get_or xs i x → reverse (map f (take (i + 1) xs)) ≡ f x
      ∷ reverse (map f (take i xs))
  map_next xs i x below item = map_so_far xs i x below ∙ ap (λ (y : A). f y ∷ reverse (map f (take i xs))) (sym item)

-- of one more transaction
pub lost_more : (r : Transaction → Bool) (above : ℕ) (old : List ℕ) (x : Transaction) (xs : List Transaction)
    → lost_of r (undecided above old (x ∷ xs)) ≡ (if nat_lt above x.number && not (is_among old x.number)
    then with_lost r x (lost_of r (undecided above old xs)) else lost_of r (undecided above old xs))
lost_more r above old x xs = by (nat_lt above x.number && not (is_among old x.number)) where
  by : (b : Bool) → lost_of r (if b then x ∷ undecided above old xs else undecided above old xs)
      ≡ (if b then with_lost r x (lost_of r (undecided above old xs)) else lost_of r (undecided above old xs))
  by true = refl
  by false = refl

module _ {A : Type 0} (p : A → Bool) where
  filter_push : (xs : List A) (x : A) → filter p (xs ++ x ∷ []) ≡ filter p xs ++ (if p x then x ∷ [] else [])
  filter_push [] x = by (p x) where
    by : (b : Bool) → (if b then x ∷ [] else []) ≡ [] ++ (if b then x ∷ [] else [])
    by true = refl
    by false = refl
  filter_push (y ∷ xs) x = by (p y) (filter_push xs x) where
    by : (b : Bool) → filter p (xs ++ x ∷ []) ≡ filter p xs ++ (if p x then x ∷ [] else [])
        → (if b then y ∷ filter p (xs ++ x ∷ []) else filter p (xs ++ x ∷ [])) ≡ (if b then y ∷ filter p xs else filter p xs)
        ++ (if p x then x ∷ [] else [])
    by true so_far = ap (λ (zs : List A). y ∷ zs) so_far
    by false so_far = so_far

pub kept_more : (above : ℕ) (old lost : List ℕ) (x : Transaction) (xs : List Transaction)
    → kept_of (undecided above old (x ∷ xs)) lost ≡ kept_of (undecided above old xs) lost
    ++ (if (nat_lt above x.number && not (is_among old x.number)) && not (is_among lost x.number) then x.number ∷ [] else [])
kept_more above old lost x xs = by (nat_lt above x.number && not (is_among old x.number)) where
  none : {A : Type 0} (ys : List A) → ys ≡ ys ++ []
  none [] = refl
  none (y ∷ ys) = ap (λ zs. y ∷ zs) (none ys)

  mapped : (ys : List Transaction) → map (λ (z : Transaction). z.number) (ys ++ x ∷ []) ≡ map (λ (z : Transaction). z.number) ys ++ x.number
      ∷ []
  mapped [] = refl
  mapped (y ∷ ys) = ap (λ (zs : List ℕ). y.number ∷ zs) (mapped ys)

  by : (b : Bool) → kept_of (if b then x ∷ undecided above old xs else undecided above old xs) lost ≡ kept_of (undecided above old xs) lost
      ++ (if b && not (is_among lost x.number) then x.number ∷ [] else [])
  by true =
      ap (λ (ys : List Transaction). filter (λ n. not (is_among lost n)) (map (λ (z : Transaction). z.number) ys))
      (reverse_cons x (undecided above old xs))
      ∙ ap (filter (λ n. not (is_among lost n))) (mapped (reverse (undecided above old xs)))
      ∙ filter_push (λ n. not (is_among lost n)) (map (λ (z : Transaction). z.number) (reverse (undecided above old xs))) x.number
  by false = none (kept_of (undecided above old xs) lost)

pub keeps : (old new : List ℕ) (n : ℕ) (b v : Bool) → b ≡ v → new ≡ (if v then old ++ n ∷ [] else old) → new ≡ old
    ++ (if b then n ∷ [] else [])
keeps old new n b v is now = rw is (by v now) where
  none : (ys : List ℕ) → ys ≡ ys ++ []
  none [] = refl
  none (y ∷ ys) = ap (λ (zs : List ℕ). y ∷ zs) (none ys)

  by : (v : Bool) → new ≡ (if v then old ++ n ∷ [] else old) → new ≡ old ++ (if v then n ∷ [] else [])
  by true now = now
  by false now = now ∙ none old

pub choose : {A : Type 0} (P : A → Type 0) (b v : Bool) (x y : A) → b ≡ v → P (if v then x else y) → P (if b then x else y)
choose P b v x y is here = subst (λ (z : Bool). P (if z then x else y)) (sym is) here
