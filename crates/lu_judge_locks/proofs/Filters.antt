-- Filters one after another, and locks that came before a place.
use Rattle.std.proofs.Common.{◌≡◌, ℕ, ◌<◌, ◌≤◌, Bool, true, false, ◌&&◌, cond, List, [], ◌∷◌, ◌++◌, refl, ap, sym, ◌∙◌, arith}
use Rattle.std.specs.Prelude.{filter, map}
use Rattle.lu_judge_locks.specs.Lists.{Arrival, AreBefore}

pub filter_two : {X : Type 0} (p q : X → Bool) (xs : List X) → filter p (filter q xs) ≡ filter (λ x. q x && p x) xs
filter_two p q [] = refl
filter_two {X = X} p q (x ∷ xs) = by (q x) (p x) refl (filter q xs) (filter_two p q xs) where
  by : (a b : Bool) → p x ≡ b → (kept : List X) → filter p kept ≡ filter (λ x. q x && p x) xs → filter p (cond a (x ∷ kept) kept)
      ≡ cond (a && b) (x ∷ filter (λ x. q x && p x) xs) (filter (λ x. q x && p x) xs)
  by true b is kept rest = rw (is, rest) refl
  by false b is kept rest = rest

pub filter_same : {X : Type 0} (p q : X → Bool) (xs : List X) → ((x : X) → p x ≡ q x) → filter p xs ≡ filter q xs
filter_same p q [] same = refl
filter_same p q (x ∷ xs) same = rw (same x, filter_same p q xs same) refl

pub filter_none : {X : Type 0} (p : X → Bool) (xs : List X) → ((x : X) → p x ≡ false) → filter p xs ≡ []
filter_none p [] none = refl
filter_none p (x ∷ xs) none = rw (none x) (filter_none p xs none)

and_turn : (a b : Bool) → (a && b) ≡ (b && a)
and_turn true true = refl
and_turn true false = refl
and_turn false true = refl
and_turn false false = refl

and_twice : (a : Bool) → (a && a) ≡ a
and_twice true = refl
and_twice false = refl

pub filter_swap : {X : Type 0} (p q : X → Bool) (xs : List X) → filter p (filter q xs) ≡ filter q (filter p xs)
filter_swap p q xs = filter_two p q xs ∙ filter_same (λ x. q x && p x) (λ x. p x && q x) xs (λ x. and_turn (q x) (p x))
    ∙ sym (filter_two q p xs)

pub filter_twice : {X : Type 0} (p : X → Bool) (xs : List X) → filter p (filter p xs) ≡ filter p xs
filter_twice p xs = filter_two p p xs ∙ filter_same (λ x. p x && p x) p xs (λ x. and_twice (p x))

pub map_filter : {X Y : Type 0} (f : X → Y) (keep : Y → Bool) (xs : List X) → map f (filter (λ x. keep (f x)) xs) ≡ filter keep (map f xs)
map_filter f keep [] = refl
map_filter {X = X} f keep (x ∷ xs) = by (keep (f x)) (filter (λ x. keep (f x)) xs) (map_filter f keep xs) where
  by : (b : Bool) (kept : List X) → map f kept ≡ filter keep (map f xs) → map f (cond b (x ∷ kept) kept)
      ≡ cond b (f x ∷ filter keep (map f xs)) (filter keep (map f xs))
  by true kept rest = ap (λ r. f x ∷ r) rest
  by false kept rest = rest

-- ---- before a place

pub filter_early : (p q : Arrival → Bool) (place : ℕ) (all : List Arrival) → AreBefore place all
    → ((a : Arrival) → a.place < place → p a ≡ q a) → filter p all ≡ filter q all
filter_early p q place [] early same = refl
filter_early p q place (a ∷ all) early same = rw (same a early.0, filter_early p q place all early.1 same) refl

pub before_kept : (p : Arrival → Bool) (place : ℕ) (all : List Arrival) → AreBefore place all → AreBefore place (filter p all)
before_kept p place [] early = tt
before_kept p place (a ∷ all) early = by (p a) (filter p all) (before_kept p place all early.1) where
  by : (b : Bool) (kept : List Arrival) → AreBefore place kept → AreBefore place (cond b (a ∷ kept) kept)
  by true kept rest = (early.0, rest)
  by false kept rest = rest

pub before_later : (place later : ℕ) (all : List Arrival) → place ≤ later → AreBefore place all → AreBefore later all
before_later place later [] within early = tt
before_later place later (a ∷ all) within early = let first : a.place < place = early.0
    in (omega arith, before_later place later all within early.1)

pub before_with : (place : ℕ) (all : List Arrival) (a : Arrival) → a.place < place → AreBefore place all → AreBefore place (all ++ a ∷ [])
before_with place [] a one early = (one, tt)
before_with place (b ∷ all) a one early = (early.0, before_with place all a one early.1)
