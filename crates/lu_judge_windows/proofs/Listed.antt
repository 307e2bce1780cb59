-- Lists by target, to one of which an item is added.
use Rattle.std.proofs.Common.{◌≡◌, ℕ, Bool, true, false, Some, None, List, [], ◌∷◌, ◌++◌, refl, ap, ◌∙◌}
use Rattle.std.specs.Prelude.{◌==◌, if◌then◌else◌, reverse, Option}
use Rattle.std.specs.Prelude.{map}
use Rattle.std.specs.Option.{option_map_or}
use Rattle.std.proofs.lemmas.List.{reverse-append}
use Rattle.lu_judge_windows.proofs.Tests.{at_key}

module _ {A : Type 0} where
  pub reverse_push : (xs : List A) (x : A) → reverse (xs ++ x ∷ []) ≡ x ∷ reverse xs
  reverse_push xs x = reverse-append xs (x ∷ [])

  pub reverse_cons : (x : A) (xs : List A) → reverse (x ∷ xs) ≡ reverse xs ++ x ∷ []
  reverse_cons x xs = reverse-append (x ∷ []) xs

  -- one more is put at the end of the list of one key
  pub pushed : (u : ℕ) (x : A) (old new notion : ℕ → List A) → ((t : ℕ) → new t ≡ (if u == t then old u ++ x ∷ [] else old t))
      → ((t : ℕ) → reverse (old t) ≡ notion t)
      → (t : ℕ) → reverse (new t) ≡ (if u == t then x ∷ notion t else notion t)
  pushed u x old new notion is shows t =
      ap reverse (is t)
      ∙ at_key (λ k here. reverse (if here then old u ++ x ∷ [] else old k) ≡ (if here then x ∷ notion k else notion k)) u t
      (reverse_push (old u) x ∙ ap (λ (xs : List A). x ∷ xs) (shows u)) (λ apart. shows t)

module _ {V B : Type 0} (view : V → List B) (u : ℕ) (y : B) (now : V) (old new : ℕ → Option V)
    (put : (t : ℕ) → new t ≡ (if u == t then Some now else old t)) where
  by_key : option_map_or view (Some now) [] ≡ option_map_or view (old u) [] ++ y ∷ []
      → (t : ℕ) → option_map_or view (new t) [] ≡ (if u == t then option_map_or view (old u) [] ++ y ∷ []
      else option_map_or view (old t) [])
  by_key is t = ap (λ (o : Option V). option_map_or view o []) (put t) ∙ by (u == t) where
    by : (here : Bool) → option_map_or view (if here then Some now else old t) []
        ≡ (if here then option_map_or view (old u) [] ++ y ∷ [] else option_map_or view (old t) [])
    by true = is
    by false = refl

  -- to a list that is there
  pub written : (there : V) → Some there ≡ old u → view now ≡ view there ++ y ∷ []
      → (t : ℕ) → option_map_or view (new t) [] ≡ (if u == t then option_map_or view (old u) [] ++ y ∷ []
      else option_map_or view (old t) [])
  written there found added = by_key (added ∙ ap (λ (o : Option V). option_map_or view o [] ++ y ∷ []) found)

  -- to a list that isn't there yet
  pub begun : None ≡ old u → view now ≡ y ∷ []
      → (t : ℕ) → option_map_or view (new t) [] ≡ (if u == t then option_map_or view (old u) [] ++ y ∷ []
      else option_map_or view (old t) [])
  begun found added = by_key (added ∙ ap (λ (o : Option V). option_map_or view o [] ++ y ∷ []) found)

module _ {A B : Type 0} (f : A → B) where
  pub map_push : (xs : List A) (x : A) → map f (xs ++ x ∷ []) ≡ map f xs ++ f x ∷ []
  map_push [] x = refl
  map_push (y ∷ xs) x = ap (λ (ys : List B). f y ∷ ys) (map_push xs x)
