-- Lists of anything: heads and rests, and filters that pass all or nothing.
use Rattle.std.proofs.Common.{◌≡◌, suc, Some, None, ◌||◌, Bool, true, false, not, cond, List, [], ◌∷◌, filter, refl, ap, subst, arith}
use Rattle.std.specs.Prelude.{All, AllPairs, slice_get}
use Rattle.std.specs.List.{list_any}
use Rattle.std.proofs.lemmas.List.Elements.{All-cons}

pub rest_all : {A : Type 0} (P : A → Type 0) (first : A) (rest : List A) → All P (first ∷ rest) → All P rest
rest_all P first rest all = λ k d within. all (suc k) d (omega arith)

pub rest_pairs : {A : Type 0} (R : A → A → Type 0) (first : A) (rest : List A) → AllPairs R (first ∷ rest) → AllPairs R rest
rest_pairs R first rest pairs = λ i j d less within. pairs (suc i) (suc j) d (omega arith) (omega arith)

pub first_pairs : {A : Type 0} (R : A → A → Type 0) (first : A) (rest : List A) → AllPairs R (first ∷ rest) → All (R first) rest
first_pairs R first rest pairs = λ k d within. pairs 0 (suc k) d (omega arith) (omega arith)

pub filter_all : {A : Type 0} (test : A → Bool) (xs : List A) → All (λ x. test x ≡ true) xs → filter test xs ≡ xs
filter_all test [] all = refl
filter_all test (x ∷ xs) all =
    let here : test x ≡ true = all 0 x (omega arith) in
    rw here (ap (λ more. x ∷ more) (filter_all test xs (rest_all (λ y. test y ≡ true) x xs all)))

pub filter_none : {A : Type 0} (test : A → Bool) (xs : List A) → All (λ x. test x ≡ false) xs → filter test xs ≡ []
filter_none test [] all = refl
filter_none test (x ∷ xs) all =
    let here : test x ≡ false = all 0 x (omega arith) in
    rw here (filter_none test xs (rest_all (λ y. test y ≡ false) x xs all))

-- all of a filtered list pass
pub filter_passes : {A : Type 0} (test : A → Bool) (xs : List A) → All (λ x. test x ≡ true) (filter test xs)
filter_passes test [] = λ k d within. absurd (omega arith)
filter_passes test (x ∷ xs) = by (test x) refl (filter_passes test xs) where
  by : (here : Bool) → test x ≡ here → All (λ y. test y ≡ true) (filter test xs)
      → All (λ y. test y ≡ true) (cond here (x ∷ filter test xs) (filter test xs))
  by true e rest = All-cons (λ y. test y ≡ true) x (filter test xs) e rest
  by false e rest = rest

-- what a test of the whole list refuses it refuses of each
pub none_pass : {A : Type 0} (test : A → Bool) (xs : List A) → list_any test xs ≡ false → All (λ x. test x ≡ false) xs
none_pass test [] none = λ k d within. absurd (omega arith)
none_pass test (x ∷ xs) none = by (test x) refl none (none_pass test xs) where
  by : (here : Bool) → test x ≡ here → (here || list_any test xs) ≡ false → (list_any test xs ≡ false → All (λ y. test y ≡ false) xs)
      → All (λ y. test y ≡ false) (x ∷ xs)
  by true e h rest = absurd (cc)
  by false e h rest = All-cons (λ y. test y ≡ false) x xs e (rest h)

pub turned : {A : Type 0} (test : A → Bool) (xs : List A) → All (λ x. test x ≡ false) xs → All (λ x. not (test x) ≡ true) xs
turned test [] all = λ k d within. absurd (omega arith)
turned test (x ∷ xs) all =
    let here : test x ≡ false = all 0 x (omega arith) in
    All-cons (λ y. not (test y) ≡ true) x xs (rw here refl) (turned test xs (rest_all (λ y. test y ≡ false) x xs all))

-- what was filtered out isn't there
pub none_after : {A : Type 0} (test : A → Bool) (xs : List A) → list_any test (filter (λ x. not (test x)) xs) ≡ false
none_after test [] = refl
none_after test (x ∷ xs) = by (test x) refl (none_after test xs) where
  by : (here : Bool) → test x ≡ here → list_any test (filter (λ y. not (test y)) xs) ≡ false
      → list_any test (cond (not here) (x ∷ filter (λ y. not (test y)) xs) (filter (λ y. not (test y)) xs)) ≡ false
  by true e rest = rest
  by false e rest = rw e rest

pub some_is : {A : Type 0} (one other : A) → Some one ≡ Some other → one ≡ other
some_is one other e = cc

-- the first of those that pass a test passes it; and where there is no first, none passes
pub first_passes : {A : Type 0} (test : A → Bool) (xs : List A) (found : A) → slice_get (filter test xs) 0 ≡ Some found → test found ≡ true
first_passes test [] found there = absurd (cc)
first_passes test (x ∷ xs) found there = by (test x) refl there (first_passes test xs found) where
  by : (here : Bool) → test x ≡ here → slice_get (cond here (x ∷ filter test xs) (filter test xs)) 0 ≡ Some found
      → (slice_get (filter test xs) 0 ≡ Some found → test found ≡ true) → test found ≡ true
  by true e h rest = subst (λ y. test y ≡ true) (some_is x found h) e
  by false e h rest = rest h

pub none_passes : {A : Type 0} (test : A → Bool) (xs : List A) → slice_get (filter test xs) 0 ≡ None → All (λ x. test x ≡ false) xs
none_passes test [] none = λ k d within. absurd (omega arith)
none_passes test (x ∷ xs) none = by (test x) refl none (none_passes test xs) where
  by : (here : Bool) → test x ≡ here → slice_get (cond here (x ∷ filter test xs) (filter test xs)) 0 ≡ None
      → (slice_get (filter test xs) 0 ≡ None → All (λ y. test y ≡ false) xs) → All (λ y. test y ≡ false) (x ∷ xs)
  by true e h rest = absurd (cc)
  by false e h rest = All-cons (λ y. test y ≡ false) x xs e (rest h)

-- a filter by what a second test follows from
pub filter_within : {A : Type 0} (test wider : A → Bool) → ((x : A) → test x ≡ true → wider x ≡ true) → (xs : List A)
    → filter test (filter wider xs) ≡ filter test xs
filter_within test wider follows [] = refl
filter_within test wider follows (x ∷ xs) = by (wider x) (test x) refl refl (filter_within test wider follows xs) where
  by : (there here : Bool) → wider x ≡ there → test x ≡ here → filter test (filter wider xs) ≡ filter test xs
      → filter test (cond there (x ∷ filter wider xs) (filter wider xs)) ≡ cond here (x ∷ filter test xs) (filter test xs)
  by true true e f rest = rw f (ap (λ more. x ∷ more) rest)
  by true false e f rest = rw f rest
  by false true e f rest = let on : wider x ≡ true = follows x f in absurd (cc)
  by false false e f rest = rest
