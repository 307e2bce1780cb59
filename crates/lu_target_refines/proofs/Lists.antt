-- Lists that are filtered and searched, by plain recursion.
use Rattle.std.proofs.Common.{◌≡◌, suc, Bool, true, false, cond, not, ◌&&◌, ◌||◌, List, [], ◌∷◌, ◌++◌, map, filter, refl, ap, ◌∙◌, arith}
use Rattle.std.specs.Prelude.{⊤, All, AllPairs}
use Rattle.std.specs.List.{list_any}
use Rattle.lu_spec_machine.specs.Footprint.{Every}

-- ---- tests

pub and_true : (b : Bool) → (b && true) ≡ b
and_true true = refl
and_true false = refl

pub and_false : (b : Bool) → (b && false) ≡ false
and_false true = refl
and_false false = refl

pub both_left : (a b : Bool) → (a && b) ≡ true → a ≡ true
both_left true b h = refl
both_left false b h = h

pub both_right : (a b : Bool) → (a && b) ≡ true → b ≡ true
both_right true b h = h
both_right false b h = absurd (cc)

pub both_true : (a b : Bool) → a ≡ true → b ≡ true → (a && b) ≡ true
both_true a b p q = rw (p, q) refl

pub one_of : (a b : Bool) → (a || b) ≡ false → (a ≡ false) × (b ≡ false)
one_of true b h = absurd (cc)
one_of false b h = (refl, h)

pub not_true : (b : Bool) → not b ≡ true → b ≡ false
not_true true h = absurd (cc)
not_true false h = refl

pub not_false : (b : Bool) → not b ≡ false → b ≡ true
not_false true h = refl
not_false false h = absurd (cc)

-- ---- all of a list

module _ {A : Type 0} where
  pub every_all : (P : A → Type 0) → ((x : A) → P x) → (xs : List A) → Every P xs
  every_all P f [] = tt
  every_all P f (x ∷ xs) = (f x, every_all P f xs)

  pub every_map : (P Q : A → Type 0) → ((x : A) → P x → Q x) → (xs : List A) → Every P xs → Every Q xs
  every_map P Q f [] all = tt
  every_map P Q f (x ∷ xs) all = (f x all.0, every_map P Q f xs all.1)

  pub every_both : (P Q : A → Type 0) (xs : List A) → Every P xs → Every Q xs → Every (λ x. P x × Q x) xs
  every_both P Q [] p q = tt
  every_both P Q (x ∷ xs) p q = ((p.0, q.0), every_both P Q xs p.1 q.1)

  pub every_append : (P : A → Type 0) (xs ys : List A) → Every P xs → Every P ys → Every P (xs ++ ys)
  every_append P [] ys p q = q
  every_append P (x ∷ xs) ys p q = (p.0, every_append P xs ys p.1 q)

  pub every_filter : (P : A → Type 0) (test : A → Bool) (xs : List A) → Every P xs → Every P (filter test xs)
  every_filter P test [] all = tt
  every_filter P test (x ∷ xs) all = by (test x) (every_filter P test xs all.1) where
    by : (here : Bool) → Every P (filter test xs) → Every P (cond here (x ∷ filter test xs) (filter test xs))
    by true rest = (all.0, rest)
    by false rest = rest

  -- what passes a test, by what holds of it
  pub every_passed : (P Q : A → Type 0) (test : A → Bool) → ((x : A) → P x → test x ≡ true → Q x) → (xs : List A) → Every P xs
      → Every Q (filter test xs)
  every_passed P Q test f [] all = tt
  every_passed P Q test f (x ∷ xs) all = by (test x) refl (every_passed P Q test f xs all.1) where
    by : (here : Bool) → test x ≡ here → Every Q (filter test xs) → Every Q (cond here (x ∷ filter test xs) (filter test xs))
    by true h rest = (f x all.0 h, rest)
    by false h rest = rest

  pub every_found : (P : A → Type 0) (test : A → Bool) (xs : List A) → Every P xs → list_any test xs ≡ true → (Q : Type 0)
      → ((x : A) → P x → test x ≡ true → Q) → Q
  every_found P test [] all some Q f = absurd (cc)
  every_found P test (x ∷ xs) all some Q f = by (test x) refl some (λ s. every_found P test xs all.1 s Q f) where
    by : (here : Bool) → test x ≡ here → (here || list_any test xs) ≡ true → (list_any test xs ≡ true → Q) → Q
    by true h s rest = f x all.0 h
    by false h s rest = rest s

  -- ---- filters

  pub filter_all : (test : A → Bool) (xs : List A) → Every (λ x. test x ≡ true) xs → filter test xs ≡ xs
  filter_all test [] all = refl
  filter_all test (x ∷ xs) all = ap (λ b. cond b (x ∷ filter test xs) (filter test xs)) all.0
      ∙ ap (λ (more : List A). x ∷ more) (filter_all test xs all.1)

  pub filter_none : (test : A → Bool) (xs : List A) → Every (λ x. test x ≡ false) xs → filter test xs ≡ []
  filter_none test [] all = refl
  filter_none test (x ∷ xs) all = ap (λ b. cond b (x ∷ filter test xs) (filter test xs)) all.0 ∙ filter_none test xs all.1

  pub filter_alike : (p q : A → Bool) (xs : List A) → Every (λ x. p x ≡ q x) xs → filter p xs ≡ filter q xs
  filter_alike p q [] all = refl
  filter_alike p q (x ∷ xs) all =
      ap (λ b. cond b (x ∷ filter p xs) (filter p xs)) all.0 ∙ ap (λ (more : List A). cond (q x) (x ∷ more) more)
      (filter_alike p q xs all.1)

  pub filter_same : (p q : A → Bool) (xs : List A) → ((x : A) → p x ≡ q x) → filter p xs ≡ filter q xs
  filter_same p q [] same = refl
  filter_same p q (x ∷ xs) same =
      ap (λ b. cond b (x ∷ filter p xs) (filter p xs)) (same x)
      ∙ ap (λ (more : List A). cond (q x) (x ∷ more) more) (filter_same p q xs same)

  pub filter_twice : (p q : A → Bool) (xs : List A) → filter p (filter q xs) ≡ filter (λ x. q x && p x) xs
  filter_twice p q [] = refl
  filter_twice p q (x ∷ xs) = by (q x) (filter_twice p q xs) where
    by : (b : Bool) → filter p (filter q xs) ≡ filter (λ x. q x && p x) xs
        → filter p (cond b (x ∷ filter q xs) (filter q xs)) ≡ cond (b && p x) (x ∷ filter (λ x. q x && p x) xs)
        (filter (λ x. q x && p x) xs)
    by true rest = ap (λ (more : List A). cond (p x) (x ∷ more) more) rest
    by false rest = rest

  -- all that passes the first passes the second
  pub filter_through : (p q : A → Bool) → ((x : A) → p x ≡ true → q x ≡ true) → (xs : List A) → filter p (filter q xs) ≡ filter p xs
  filter_through p q f xs = filter_twice p q xs ∙ filter_same (λ x. q x && p x) p xs (λ x. by (p x) (q x) (f x)) where
    by : (a b : Bool) → (a ≡ true → b ≡ true) → (b && a) ≡ a
    by true b f = ap (λ c. c && true) (f refl)
    by false b f = and_false b

  -- nothing that passes the first passes the second
  pub filter_past : (p q : A → Bool) → ((x : A) → p x ≡ true → q x ≡ false) → (xs : List A) → filter p (filter q xs) ≡ []
  filter_past p q f [] = refl
  filter_past p q f (x ∷ xs) = by (q x) refl (p x) refl (filter_past p q f xs) where
    by : (b : Bool) → q x ≡ b → (a : Bool) → p x ≡ a → filter p (filter q xs) ≡ [] → filter p (cond b (x ∷ filter q xs) (filter q xs)) ≡ []
    by true h true g rest = let not : q x ≡ false = f x g in absurd (cc)
    by true h false g rest = ap (λ b. cond b (x ∷ filter p (filter q xs)) (filter p (filter q xs))) g ∙ rest
    by false h a g rest = rest

  pub filter_append : (p : A → Bool) (xs ys : List A) → filter p (xs ++ ys) ≡ filter p xs ++ filter p ys
  filter_append p [] ys = refl
  filter_append p (x ∷ xs) ys = by (p x) (filter_append p xs ys) where
    by : (b : Bool) → filter p (xs ++ ys) ≡ filter p xs ++ filter p ys → cond b (x ∷ filter p (xs ++ ys)) (filter p (xs ++ ys))
        ≡ cond b (x ∷ filter p xs) (filter p xs) ++ filter p ys
    by true rest = ap (λ (more : List A). x ∷ more) rest
    by false rest = rest

  pub append_none : (xs : List A) → xs ++ [] ≡ xs
  append_none [] = refl
  append_none (x ∷ xs) = ap (λ (more : List A). x ∷ more) (append_none xs)

  pub append_again : (xs ys zs : List A) → (xs ++ ys) ++ zs ≡ xs ++ (ys ++ zs)
  append_again [] ys zs = refl
  append_again (x ∷ xs) ys zs = ap (λ (more : List A). x ∷ more) (append_again xs ys zs)

  -- ---- whether one passes

  pub any_filter : (p q : A → Bool) (xs : List A) → list_any p (filter q xs) ≡ list_any (λ x. q x && p x) xs
  any_filter p q [] = refl
  any_filter p q (x ∷ xs) = by (q x) (any_filter p q xs) where
    by : (b : Bool) → list_any p (filter q xs) ≡ list_any (λ x. q x && p x) xs
        → list_any p (cond b (x ∷ filter q xs) (filter q xs)) ≡ ((b && p x) || list_any (λ x. q x && p x) xs)
    by true rest = ap (λ c. p x || c) rest
    by false rest = rest

  pub any_same : (p q : A → Bool) (xs : List A) → ((x : A) → p x ≡ q x) → list_any p xs ≡ list_any q xs
  any_same p q [] same = refl
  any_same p q (x ∷ xs) same = ap (λ b. b || list_any p xs) (same x) ∙ ap (λ b. q x || b) (any_same p q xs same)

  pub any_either : (p q : A → Bool) (xs : List A) → (list_any p xs || list_any q xs) ≡ list_any (λ x. p x || q x) xs
  any_either p q [] = refl
  any_either p q (x ∷ xs) = four (p x) (list_any p xs) (q x) (list_any q xs) ∙ ap (λ b. (p x || q x) || b) (any_either p q xs) where
    four : (a b c d : Bool) → ((a || b) || (c || d)) ≡ ((a || c) || (b || d))
    four true b c d = refl
    four false true true d = refl
    four false true false d = refl
    four false false c d = refl

  pub any_more : (p q : A → Bool) (xs : List A) → ((x : A) → p x ≡ true → q x ≡ true) → list_any p xs ≡ true → list_any q xs ≡ true
  any_more p q [] f some = absurd (cc)
  any_more p q (x ∷ xs) f some = by (p x) refl some (any_more p q xs f) where
    or_true : (b : Bool) → (b || true) ≡ true
    or_true true = refl
    or_true false = refl

    by : (b : Bool) → p x ≡ b → (b || list_any p xs) ≡ true → (list_any p xs ≡ true → list_any q xs ≡ true) → (q x || list_any q xs) ≡ true
    by true h s rest = ap (λ c. c || list_any q xs) (f x h)
    by false h s rest = ap (λ c. q x || c) (rest s) ∙ or_true (q x)

  pub any_alike : (p q : A → Bool) (xs : List A) → Every (λ x. p x ≡ q x) xs → list_any p xs ≡ list_any q xs
  any_alike p q [] all = refl
  any_alike p q (x ∷ xs) all = ap (λ b. b || list_any p xs) all.0 ∙ ap (λ b. q x || b) (any_alike p q xs all.1)

  -- one that passes: what it passes too, one of the list passes
  pub found_in : (test : A → Bool) (xs : List A) → list_any test xs ≡ true → (Q : Type 0)
      → ((x : A) → test x ≡ true → ((q : A → Bool) → q x ≡ true → list_any q xs ≡ true) → Q) → Q
  found_in test [] some Q f = absurd (cc)
  found_in test (x ∷ xs) some Q f = by (test x) refl some (λ s g. found_in test xs s Q g) where
    or_true : (b : Bool) → (b || true) ≡ true
    or_true true = refl
    or_true false = refl

    by : (b : Bool) → test x ≡ b → (b || list_any test xs) ≡ true
        → (list_any test xs ≡ true → ((y : A) → test y ≡ true → ((q : A → Bool) → q y ≡ true → list_any q xs ≡ true) → Q) → Q) → Q
    by true h s rest = f x h (λ q e. ap (λ c. c || list_any q xs) e)
    by false h s rest = rest s (λ y t g. f y t (λ q e. ap (λ c. q x || c) (g q e) ∙ or_true (q x)))

  pub none_passes : (p : A → Bool) (xs : List A) → list_any p xs ≡ false → Every (λ x. p x ≡ false) xs
  none_passes p [] none = tt
  none_passes p (x ∷ xs) none = let split : (p x ≡ false) × (list_any p xs ≡ false) = one_of (p x) (list_any p xs) none
      in (split.0, none_passes p xs split.1)

  pub passes_none : (p : A → Bool) (xs : List A) → Every (λ x. p x ≡ false) xs → list_any p xs ≡ false
  passes_none p [] all = refl
  passes_none p (x ∷ xs) all = ap (λ b. b || list_any p xs) all.0 ∙ passes_none p xs all.1

  -- nothing is left exactly where none passes
  pub none_left : (p : A → Bool) (xs : List A) → filter p xs ≡ [] → list_any p xs ≡ false
  none_left p [] none = refl
  none_left p (x ∷ xs) none = by (p x) refl none (none_left p xs) where
    by : (b : Bool) → p x ≡ b → cond b (x ∷ filter p xs) (filter p xs) ≡ [] → (filter p xs ≡ [] → list_any p xs ≡ false)
        → (p x || list_any p xs) ≡ false
    by true h n rest = absurd (cc)
    by false h n rest = ap (λ c. c || list_any p xs) h ∙ rest n

-- ---- mapped lists

module _ {A B : Type 0} (f : A → B) where
  pub map_append : (xs ys : List A) → map f (xs ++ ys) ≡ map f xs ++ map f ys
  map_append [] ys = refl
  map_append (x ∷ xs) ys = ap (λ (more : List B). f x ∷ more) (map_append xs ys)

  pub any_map : (p : B → Bool) (xs : List A) → list_any p (map f xs) ≡ list_any (λ x. p (f x)) xs
  any_map p [] = refl
  any_map p (x ∷ xs) = ap (λ b. p (f x) || b) (any_map p xs)

  pub filter_map : (p : B → Bool) (xs : List A) → filter p (map f xs) ≡ map f (filter (λ x. p (f x)) xs)
  filter_map p [] = refl
  filter_map p (x ∷ xs) = by (p (f x)) (filter_map p xs) where
    by : (b : Bool) → filter p (map f xs) ≡ map f (filter (λ x. p (f x)) xs)
        → cond b (f x ∷ filter p (map f xs)) (filter p (map f xs))
        ≡ map f (cond b (x ∷ filter (λ x. p (f x)) xs) (filter (λ x. p (f x)) xs))
    by true rest = ap (λ (more : List B). f x ∷ more) rest
    by false rest = rest

  pub map_none : (xs : List A) → map f xs ≡ [] → xs ≡ []
  map_none [] none = refl
  map_none (x ∷ xs) none = absurd (cc)

-- ---- pairs by place, as pairs by recursion

abbrev pub Pairs : {A : Type 0} → (A → A → Type 0) → List A → Type 0
Pairs R [] = ⊤
Pairs R (x ∷ xs) = Every (R x) xs × Pairs R xs

pub every_of : {A : Type 0} (P : A → Type 0) (xs : List A) → All P xs → Every P xs
every_of P [] all = tt
every_of P (x ∷ xs) all = (all 0 x (omega arith), every_of P xs (λ k d within. all (suc k) d (omega arith)))

pub pairs_of : {A : Type 0} (R : A → A → Type 0) (xs : List A) → AllPairs R xs → Pairs R xs
pairs_of R [] pairs = tt
pairs_of R (x ∷ xs) pairs = (
  every_of (R x) xs (λ k d within. pairs 0 (suc k) d (omega arith) (omega arith)),
  pairs_of R xs (λ i j d less within. pairs (suc i) (suc j) d (omega arith) (omega arith)),
)
