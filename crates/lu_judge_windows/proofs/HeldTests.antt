-- Tests of lists: whether one of a list passes, after some left it or one came to it.
use Rattle.std.proofs.Common.{◌≡◌, Bool, true, false, not, ◌&&◌, ◌||◌, cond, List, [], ◌∷◌, ◌++◌, refl, ap, sym, ◌∙◌}
use Rattle.std.specs.Prelude.{filter, map}
use Rattle.std.specs.List.{list_any}
use Rattle.std.proofs.lemmas.Bool.{or_parts}
use Rattle.std.proofs.lemmas.List.Folds.{list_any-append}

pub any_same : {X : Type 0} (p q : X → Bool) (xs : List X) → ((x : X) → p x ≡ q x) → list_any p xs ≡ list_any q xs
any_same p q [] same = refl
any_same p q (x ∷ xs) same = rw (same x, any_same p q xs same) refl

pub any_none : {X : Type 0} (p : X → Bool) (xs : List X) → ((x : X) → p x ≡ false) → list_any p xs ≡ false
any_none p [] none = refl
any_none p (x ∷ xs) none = rw (none x) (any_none p xs none)

pub any_map : {X Y : Type 0} (f : X → Y) (p : Y → Bool) (xs : List X) → list_any p (map f xs) ≡ list_any (λ x. p (f x)) xs
any_map f p [] = refl
any_map f p (x ∷ xs) = ap (λ rest. p (f x) || rest) (any_map f p xs)

pub any_kept : {X : Type 0} (keep p : X → Bool) (xs : List X) → list_any p (filter keep xs) ≡ list_any (λ x. keep x && p x) xs
any_kept keep p [] = refl
any_kept {X = X} keep p (x ∷ xs) = by (keep x) (filter keep xs) (any_kept keep p xs) where
  by : (b : Bool) (kept : List X) → list_any p kept ≡ list_any (λ x. keep x && p x) xs → list_any p (cond b (x ∷ kept) kept)
      ≡ ((b && p x) || list_any (λ x. keep x && p x) xs)
  by true kept rest = ap (λ r. p x || r) rest
  by false kept rest = rest

-- none of those that leave passes
pub any_without : {X : Type 0} (leaves p : X → Bool) (xs : List X) → list_any (λ x. leaves x && p x) xs ≡ false → list_any p xs
    ≡ list_any (λ x. not (leaves x) && p x) xs
any_without leaves p [] none = refl
any_without leaves p (x ∷ xs) none = let both = or_parts (leaves x && p x) (list_any (λ x. leaves x && p x) xs) none
    in by (leaves x) (p x) _ _ both.0 (any_without leaves p xs both.1) where
      by : (k v a b : Bool) → (k && v) ≡ false → a ≡ b → (v || a) ≡ ((not k && v) || b)
      by true true a b none rest = absurd (cc)
      by true false a b none rest = rest
      by false v a b none rest = ap (λ r. v || r) rest

pub map_kept : {X Y : Type 0} (f : X → Y) (keep : Y → Bool) (xs : List X) → map f (filter (λ x. keep (f x)) xs) ≡ filter keep (map f xs)
map_kept f keep [] = refl
map_kept {X = X} f keep (x ∷ xs) = by (keep (f x)) (filter (λ x. keep (f x)) xs) (map_kept f keep xs) where
  by : (b : Bool) (kept : List X) → map f kept ≡ filter keep (map f xs) → map f (cond b (x ∷ kept) kept)
      ≡ cond b (f x ∷ filter keep (map f xs)) (filter keep (map f xs))
  by true kept rest = ap (λ r. f x ∷ r) rest
  by false kept rest = rest

-- ---- tests joined

pub swap : (a b c : Bool) → (a && (b && c)) ≡ (b && (a && c))
swap true true c = refl
swap true false c = refl
swap false true c = refl
swap false false c = refl

pub regroup : (a b c : Bool) → (a && (b && c)) ≡ ((a && b) && c)
regroup true b c = refl
regroup false b c = refl

pub and_true : (a : Bool) → (a && true) ≡ a
and_true true = refl
and_true false = refl

pub turn : (a b : Bool) → (a || (b || false)) ≡ (b || a)
turn true true = refl
turn true false = refl
turn false true = refl
turn false false = refl
