-- A loop over a list that was made of another one, item by item.
use Rattle.std.specs.Prelude.{OnErr}
use Rattle.std.specs.declared.result.Result.{Result}
use Rattle.std.proofs.Common.{Ok, Err, ◌≡◌, ℕ, zero, suc, ◌+◌, ◌<◌, ◌≤◌, List, [], ◌∷◌, length, map, drop, get_or, refl, sym, ap, subst}
use Rattle.std.proofs.Common.{◌∙◌, arith}

module _ {A B : Type 0} (f : A → B) where
  length_map : (xs : List A) → length (map f xs) ≡ length xs
  length_map [] = refl
  length_map (x ∷ xs) = ap suc (length_map xs)

  at_of : (xs : List A) (k : ℕ) (d : B) → k < length (map f xs) → (Q : Type 0)
      → ((x : A) → drop k xs ≡ x ∷ drop (suc k) xs → get_or (map f xs) k d ≡ f x → Q) → Q
  at_of [] k d within Q next = absurd (omega arith)
  at_of (x ∷ xs) zero d within Q next = next x refl refl
  at_of (x ∷ xs) (suc k) d within Q next = at_of xs k d (omega arith) Q next

  -- the item at a place that there is
  pub item_at : (xs : List A) (ys : List B) (k : ℕ) (d : B) → ys ≡ map f xs → k < length ys → (Q : Type 0)
      → ((x : A) → drop k xs ≡ x ∷ drop (k + 1) xs → get_or ys k d ≡ f x → Q) → Q
  item_at xs ys k d made within Q next =
      let one : suc k ≡ k + 1 = omega arith in
      at_of xs k d (subst (λ (zs : List B). k < length zs) made within) Q
      (λ x left is. next x (left ∙ ap (λ (n : ℕ). x ∷ drop n xs) one) (ap (λ (zs : List B). get_or zs k d) made ∙ is))

  none_past : (xs : List A) (k : ℕ) → length xs ≤ k → drop k xs ≡ []
  none_past [] zero past = refl
  none_past [] (suc k) past = refl
  none_past (x ∷ xs) zero past = absurd (omega arith)
  none_past (x ∷ xs) (suc k) past = none_past xs k (omega arith)

  -- past the last
  pub items_done : (xs : List A) (ys : List B) (k : ℕ) → ys ≡ map f xs → length ys ≤ k → drop k xs ≡ []
  items_done xs ys k made past = none_past xs k (subst (λ (n : ℕ). n ≤ k) (ap length made ∙ length_map xs) past)

-- ---- an answer, whatever the error

pub on_err : {T E P : Type 0} (r : Result T E) → P → OnErr r P
on_err (Ok x) p = tt
on_err (Err e) p = p
