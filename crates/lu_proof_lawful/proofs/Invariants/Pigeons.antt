-- As many different elements of a list as the list is long are all of them.
use Rattle.std.proofs.Common.{◌≡◌, suc, ◌≤◌, Bool, List, [], ◌∷◌, ◌⊎◌, inl, inr, ⊎_elim, refl, sym, subst, ap, ◌∙◌, arith}
use Rattle.std.specs.Prelude.{length}
use Rattle.std.specs.List.{filter}
use Rattle.std.proofs.lemmas.Bool.{cond_both}
use Rattle.lu_proof_lawful.proofs.Preconditions.Guards.{In}
use Rattle.lu_proof_lawful.proofs.Preconditions.Lists.{in_filter}

-- each stands once
abbrev pub Different : {A : Type 0} → List A → Type 0
Different [] = Unit {0}
Different {A} (x ∷ xs) = (In x xs → ⊥) × Different xs

pub different_filter : {A : Type 0} (f : A → Bool) (xs : List A) → Different xs → Different (filter f xs)
different_filter f [] d = tt
different_filter {A} f (x ∷ xs) d =
    cond_both (f x) (x ∷ filter f xs) (filter f xs) (λ (ys : List A). Different ys)
    (λ t. (λ i. d.0 (in_filter f x xs i).0, different_filter f xs d.1)) (λ t. different_filter f xs d.1)

-- a list without the element that stands at a place
rest : {A : Type 0} (x : A) (ys : List A) → In x ys → List A
rest x [] i = absurd i
rest x (y ∷ ys) (inl e) = ys
rest x (y ∷ ys) (inr i) = y ∷ rest x ys i

rest_length : {A : Type 0} (x : A) (ys : List A) (i : In x ys) → length ys ≡ suc (length (rest x ys i))
unfolding rest
rest_length x [] i = absurd i
rest_length x (y ∷ ys) (inl e) = refl
rest_length x (y ∷ ys) (inr i) = ap suc (rest_length x ys i)

-- another one is in the rest
rest_in : {A : Type 0} (x z : A) (ys : List A) (i : In x ys) → In z ys → (x ≡ z → ⊥) → In z (rest x ys i)
unfolding rest
rest_in x z [] i j ne = absurd i
rest_in x z (y ∷ ys) (inl e) (inl q) ne = absurd (ne (sym e ∙ q))
rest_in x z (y ∷ ys) (inl e) (inr j) ne = j
rest_in x z (y ∷ ys) (inr i) (inl q) ne = inl q
rest_in x z (y ∷ ys) (inr i) (inr j) ne = inr (rest_in x z ys i j ne)

-- each is the one that was taken out, or in the rest
rest_out : {A : Type 0} (x z : A) (ys : List A) (i : In x ys) → In z ys → (x ≡ z) ⊎ In z (rest x ys i)
unfolding rest
rest_out x z [] i j = absurd i
rest_out x z (y ∷ ys) (inl e) (inl q) = inl (sym e ∙ q)
rest_out x z (y ∷ ys) (inl e) (inr j) = inr j
rest_out x z (y ∷ ys) (inr i) (inl q) = inr (inl q)
rest_out {A} x z (y ∷ ys) (inr i) (inr j) = ⊎_elim (λ (q : x ≡ z). inl q) (λ (k : In z (rest x ys i)). inr (inr k)) (rest_out x z ys i j)

pub all_there : {A : Type 0} (xs ys : List A) → Different xs → ((x : A) → In x xs → In x ys) → length ys ≤ length xs → (z : A) → In z ys
    → In z xs
all_there [] [] d sub le z i = absurd i
all_there [] (y ∷ ys) d sub le z i = absurd (omega arith)
all_there {A} (x ∷ xs) ys d sub le z i =
    let h : In x ys = sub x (inl refl) in
    let n = rest_length x ys h in
    ⊎_elim
    (λ (q : x ≡ z). inl q)
    (λ (k : In z (rest x ys h)). inr (all_there xs (rest x ys h) d.1
    (λ w j. rest_in x w ys h (sub w (inr j)) (λ e. d.0 (subst (λ (v : A). In v xs) (sym e) j))) (omega arith) z k))
    (rest_out x z ys h i)
