-- The values of words, one word after another.
use Rattle.std.proofs.Common.{◌≡◌, ℕ, ◌+◌, ◌<◌, List, [], ◌∷◌, ◌++◌, length, take, drop, map, get_or, Option, Some, None, Err, refl, sym}
use Rattle.std.proofs.Common.{ap, ◌∙◌, subst, add-one}
use Rattle.std.specs.Prelude.{All}
use Rattle.std.proofs.Math.Seq.{take-suc}
use Rattle.std.proofs.lemmas.List.{drop_more, take-append-drop, map-append}
use Rattle.std.proofs.lemmas.List.Elements.{All-append, All-cons, All-nil}
use Rattle.lu_judge_reader.specs.declared.faults.LineFault.{LineFault}
use Rattle.lu_judge_reader.specs.declared.faults.LineFault.TheVariants as faults
use Rattle.lu_judge_reader.specs.Reading.{◌>>?◌, Gives}
use Rattle.lu_judge_reader.specs.Lists.{all_of}

abbrev there : {A : Type 0} → A → Option A
there x = Some x

pub some_is : {A : Type 0} (x y : A) → there x ≡ there y → x ≡ y
some_is x y e = cc

-- the value of a step that gave one
pub then_some : {A B : Type 0} (o : Option A) (f : A → Option B) (y : B) → (o >>? f) ≡ Some y → (x : A) × (o ≡ Some x) × (f x ≡ Some y)
then_some (Some x) f y e = (x, refl, e)
then_some None f y e = absurd cc

-- one more word
pub all_more : {A : Type 0} (f : List ℕ → Option A) (xs : List (List ℕ)) (x : List ℕ) (ys : List A) (y : A)
    → all_of f xs ≡ Some ys → f x ≡ Some y → all_of f (xs ++ x ∷ []) ≡ Some (ys ++ y ∷ [])
all_more {A} f [] x ys y e fx =
    ap (λ (o : Option A). o >>? λ v. Some (v ∷ [])) fx ∙ ap (λ (zs : List A). Some (zs ++ y ∷ [])) (some_is [] ys e)
all_more {A} f (w ∷ ws) x ys y e fx =
    let a = then_some (f w) (λ v. all_of f ws >>? λ vs. Some (v ∷ vs)) ys e in
    let b = then_some (all_of f ws) (λ vs. Some (a.0 ∷ vs)) ys a.2 in
    ap (λ (o : Option A). o >>? λ v. all_of f (ws ++ x ∷ []) >>? λ vs. Some (v ∷ vs)) a.1
    ∙ ap (λ (o : Option (List A)). o >>? λ vs. Some (a.0 ∷ vs)) (all_more f ws x b.0 y b.1 fx)
    ∙ ap (λ (zs : List A). Some (zs ++ y ∷ [])) (some_is (a.0 ∷ b.0) ys b.2)

-- a word that says nothing
pub all_none : {A : Type 0} (f : List ℕ → Option A) (xs : List (List ℕ)) (x : List ℕ) (rest : List (List ℕ)) (ys : List A)
    → all_of f xs ≡ Some ys → f x ≡ None → all_of f (xs ++ x ∷ rest) ≡ None
all_none {A} f [] x rest ys e fx = ap (λ (o : Option A). o >>? λ v. all_of f rest >>? λ vs. Some (v ∷ vs)) fx
all_none {A} f (w ∷ ws) x rest ys e fx =
    let a = then_some (f w) (λ v. all_of f ws >>? λ vs. Some (v ∷ vs)) ys e in
    let b = then_some (all_of f ws) (λ vs. Some (a.0 ∷ vs)) ys a.2 in
    ap (λ (o : Option A). o >>? λ v. all_of f (ws ++ x ∷ rest) >>? λ vs. Some (v ∷ vs)) a.1
    ∙ ap (λ (o : Option (List A)). o >>? λ vs. Some (a.0 ∷ vs)) (all_none f ws x rest b.0 b.1 fx)

-- the next of the words
pub words_more : {A B : Type 0} (f : List ℕ → Option A) (now : B → List ℕ) (ws : List B) (i : ℕ) (d : B) (ys zs : List A) (y : A)
    → i < length ws → all_of f (map now (take i ws)) ≡ Some ys → f (now (get_or ws i d)) ≡ Some y → zs ≡ ys ++ y ∷ []
    → all_of f (map now (take (i + 1) ws)) ≡ Some zs
words_more {A} {B} f now ws i d ys zs y within so_far is added =
    ap (λ (us : List B). all_of f (map now us)) (ap (λ (k : ℕ). take k ws) (add-one i) ∙ take-suc ws i d within)
    ∙ ap (all_of f) (map-append now (take i ws) (get_or ws i d ∷ []))
    ∙ all_more f (map now (take i ws)) (now (get_or ws i d)) ys y so_far is
    ∙ ap (λ (us : List A). Some us) (sym added)

-- the words after those before, and the next
cut_at : {A B : Type 0} (f : List ℕ → Option A) (now : B → List ℕ) (ws : List B) (i : ℕ) (d : B) → i < length ws
    → all_of f (map now ws) ≡ all_of f (map now (take i ws) ++ now (get_or ws i d) ∷ map now (drop (i + 1) ws))
cut_at {A} {B} f now ws i d within =
    ap (λ (us : List B). all_of f (map now us)) (sym (take-append-drop i ws)
    ∙ ap (λ (us : List B). take i ws ++ us) (drop_more ws i d within))
    ∙ ap (all_of f) (map-append now (take i ws) (get_or ws i d ∷ drop (i + 1) ws))

-- the next of the words says nothing
pub words_fault : {A B : Type 0} (f : List ℕ → Option A) (now : B → List ℕ) (ws : List B) (i : ℕ) (d : B) (ys : List A) (fault : LineFault)
    → i < length ws → all_of f (map now (take i ws)) ≡ Some ys → Gives {A = A} (Err fault) (f (now (get_or ws i d)))
    → Gives {A = List A} (Err fault) (all_of f (map now ws))
words_fault f now ws i d ys faults.Memory within so_far is = tt
words_fault f now ws i d ys faults.Unread within so_far is =
    cut_at f now ws i d within ∙ all_none f (map now (take i ws)) (now (get_or ws i d)) (map now (drop (i + 1) ws)) ys so_far is

-- one more that is so
pub fits_more : {A : Type 0} (P : A → Type 0) (ys zs : List A) (y : A) → All P ys → P y → zs ≡ ys ++ y ∷ [] → All P zs
fits_more P ys zs y are is added = subst (All P) (sym added) (All-append P ys (y ∷ []) are (All-cons P y [] is (All-nil P)))
