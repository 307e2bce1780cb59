-- Things that get their places in a list: which of two came first doesn't matter.
use Rattle.std.proofs.Common.{◌≡◌, ◌⊎◌, inl, inr, Bool, true, false, cond, ◌||◌, List, [], ◌∷◌, refl, ap, sym, ◌∙◌}
use Rattle.std.specs.List.{list_any}
use Rattle.lu_spec_target.specs.Windows.{placed}

module _ {A : Type 0} where
  pub any_placed : (before : A → A → Bool) (test : A → Bool) (x : A) (xs : List A) → list_any test (placed before x xs)
      ≡ (test x || list_any test xs)
  any_placed before test x [] = refl
  any_placed before test x (y ∷ ys) = by (before x y) (test x) refl (test y) refl (any_placed before test x ys) where
    by : (first : Bool) (new : Bool) → test x ≡ new → (old : Bool) → test y ≡ old → list_any test (placed before x ys)
        ≡ (test x || list_any test ys)
        → list_any test (cond first (x ∷ y ∷ ys) (y ∷ placed before x ys)) ≡ (test x || list_any test (y ∷ ys))
    by true new e old f rest = refl
    by false true e true f rest = rw (e, f) refl
    by false true e false f rest = rw f (rest ∙ rw e refl)
    by false false e true f rest = rw (e, f) refl
    by false false e false f rest = rw (e, f) (rest ∙ rw e refl)

  pub swap : (before : A → A → Bool) (x y : A) (zs : List A) → before x y ≡ true → before y x ≡ false
      → ((z : A) → before y z ≡ true → before x z ≡ true)
      → placed before x (placed before y zs) ≡ placed before y (placed before x zs)
  swap before x y [] first later through = rw (first, later) refl
  swap before x y (z ∷ zs) first later through = by (before y z) refl (before x z) refl (swap before x y zs first later through) where
    by : (behind : Bool) → before y z ≡ behind → (ahead : Bool) → before x z ≡ ahead → placed before x (placed before y zs)
        ≡ placed before y (placed before x zs)
        → placed before x (cond behind (y ∷ z ∷ zs) (z ∷ placed before y zs))
        ≡ placed before y (cond ahead (x ∷ z ∷ zs) (z ∷ placed before x zs))
    by true e true f rest = rw (first, later, e) refl
    by true e false f rest = absurd (differ (sym (through z e) ∙ f)) where
      differ : true ≡ false → ⊥
      differ h = cc
    by false e true f rest = rw (f, later, e) refl
    by false e false f rest = rw (f, e) (ap (λ more. z ∷ more) rest)

  -- taken once: the list as it is where it has the key, else with the thing in its place
  abbrev pub once : (same before : A → A → Bool) → (A → A) → A → List A → List A
  once same before cut x xs = cond (list_any (same x) xs) xs (placed before (cut x) xs)

  -- two of different keys
  pub once_apart : (same before : A → A → Bool) (cut : A → A) (x y : A) (xs : List A)
      → same x (cut y) ≡ false → same y (cut x) ≡ false → placed before (cut x) (placed before (cut y) xs)
      ≡ placed before (cut y) (placed before (cut x) xs)
      → once same before cut x (once same before cut y xs) ≡ once same before cut y (once same before cut x xs)
  once_apart same before cut x y xs apart other swapped = by (list_any (same x) xs) refl (list_any (same y) xs) refl where
    in_x : list_any (same x) (placed before (cut y) xs) ≡ list_any (same x) xs
    in_x = any_placed before (same x) (cut y) xs ∙ rw apart refl

    in_y : list_any (same y) (placed before (cut x) xs) ≡ list_any (same y) xs
    in_y = any_placed before (same y) (cut x) xs ∙ rw other refl

    by : (has_x : Bool) → list_any (same x) xs ≡ has_x → (has_y : Bool) → list_any (same y) xs ≡ has_y
        → once same before cut x (once same before cut y xs) ≡ once same before cut y (once same before cut x xs)
    by true e true f = rw (e, f, e) refl
    by true e false f = rw (e, f, in_x, e) refl
    by false e true f = rw (e, f, in_y, f, e) refl
    by false e false f = rw (e, f, in_x, in_y, e, f) swapped

  -- again
  pub once_again : (same before : A → A → Bool) (cut : A → A) (x : A) (xs : List A) → same x (cut x) ≡ true
      → once same before cut x (once same before cut x xs) ≡ once same before cut x xs
  once_again same before cut x xs is = by (list_any (same x) xs) refl where
    in_x : list_any (same x) (placed before (cut x) xs) ≡ true
    in_x = any_placed before (same x) (cut x) xs ∙ rw is refl

    by : (has : Bool) → list_any (same x) xs ≡ has → once same before cut x (cond has xs (placed before (cut x) xs))
        ≡ cond has xs (placed before (cut x) xs)
    by true e = rw e refl
    by false e = rw in_x refl
