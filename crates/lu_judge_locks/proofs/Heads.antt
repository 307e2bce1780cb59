-- The first of a list that passes a test.
use Rattle.std.proofs.Common.{◌≡◌, ℕ, zero, suc, ◌+◌, ◌<◌, Bool, true, false, cond, Option, Some, None, List, [], ◌∷◌, drop, refl, ap, sym}
use Rattle.std.proofs.Common.{subst, ◌∙◌, add-one}
use Rattle.std.specs.Prelude.{filter, find, map, slice_get, IfSome}
use Rattle.std.specs.Option.{option_map}
use Rattle.lu_judge_locks.specs.Lists.{Arrival, AreBefore}

abbrev pub head : {X : Type 0} → List X → Option X
head [] = None
head (x ∷ xs) = Some x

pub find_head : {X : Type 0} (p : X → Bool) (xs : List X) → find p xs ≡ head (filter p xs)
find_head p [] = refl
find_head {X = X} p (x ∷ xs) = by (p x) (find_head p xs) where
  by : (b : Bool) → find p xs ≡ head (filter p xs) → cond b (Some x) (find p xs) ≡ head (cond b (x ∷ filter p xs) (filter p xs))
  by true rest = refl
  by false rest = rest

-- at a place whose element passes the list of those that pass begins with it; past the end it is empty
pub head_at : {X Y : Type 0} (f : X → Y) (p : X → Bool) (xs : List X) (at : ℕ) → IfSome (slice_get xs at) (λ x. p x ≡ true)
    → option_map f (slice_get xs at) ≡ head (map f (filter p (drop at xs)))
head_at f p [] zero passes = refl
head_at f p [] (suc at) passes = refl
head_at f p (x ∷ xs) zero passes = rw passes refl
head_at f p (x ∷ xs) (suc at) passes = head_at f p xs at passes

-- what stands from a place on
drop_suc : {X : Type 0} (xs : List X) (at : ℕ) (x : X) → slice_get xs at ≡ Some x → drop at xs ≡ x ∷ drop (suc at) xs
drop_suc [] at x is = absurd (cc)
drop_suc {X = X} (y ∷ xs) zero x is = let same : y ≡ x = cc in ap (λ (z : X). z ∷ xs) same
drop_suc (y ∷ xs) (suc at) x is = drop_suc xs at x is

pub drop_at : {X : Type 0} (xs : List X) (at : ℕ) (x : X) → slice_get xs at ≡ Some x → drop at xs ≡ x ∷ drop (at + 1) xs
drop_at xs at x is = drop_suc xs at x is ∙ ap (λ n. x ∷ drop n xs) (sym (add-one at))

pub drop_nil : {X : Type 0} (n : ℕ) → ◌≡◌ {A = List X} (drop n []) []
drop_nil zero = refl
drop_nil (suc n) = refl

pub before_drop : (place n : ℕ) (all : List Arrival) → AreBefore place all → AreBefore place (drop n all)
before_drop place zero all early = early
before_drop place (suc n) [] early = early
before_drop place (suc n) (a ∷ all) early = before_drop place n all early.1

pub before_get : {X : Type 0} (f : X → Arrival) (place : ℕ) (xs : List X) (at : ℕ) (x : X) → AreBefore place (map f xs) → slice_get xs at
    ≡ Some x → (f x).place < place
before_get f place [] at x early is = absurd (cc)
before_get {X = X} f place (y ∷ xs) zero x early is = let same : y ≡ x = cc in subst (λ (z : X). (f z).place < place) same early.0
before_get f place (y ∷ xs) (suc at) x early is = before_get f place xs at x early.1 is
