-- What holds of every element of a list (`Every` of `lu_spec_machine`).
use Rattle.std.proofs.Common.{Bool, List, [], ◌∷◌, ◌++◌, map, inl, inr, subst}
use Rattle.std.specs.List.{filter}
use Rattle.std.proofs.lemmas.Bool.{cond_both}
use Rattle.lu_proof_lawful.proofs.Preconditions.Guards.{In}
pub use Rattle.lu_spec_machine.specs.Footprint.{Every}

pub every_more : {A : Type 0} (P : A → Type 0) (xs ys : List A) → Every P xs → Every P ys → Every P (xs ++ ys)
every_more P [] ys a b = b
every_more P (x ∷ xs) ys a b = (a.0, every_more P xs ys a.1 b)

pub every_filter : {A : Type 0} (P : A → Type 0) (f : A → Bool) (xs : List A) → Every P xs → Every P (filter f xs)
every_filter P f [] a = tt
every_filter P f (x ∷ xs) a =
    cond_both (f x) (x ∷ filter f xs) (filter f xs) (Every P) (λ t. (a.0, every_filter P f xs a.1)) (λ t. every_filter P f xs a.1)

pub every_map : {A B : Type 0} (P : A → Type 0) (Q : B → Type 0) (f : A → B) (xs : List A) → ((x : A) → P x → Q (f x)) → Every P xs
    → Every Q (map f xs)
every_map P Q f [] more a = tt
every_map P Q f (x ∷ xs) more a = (more x a.0, every_map P Q f xs more a.1)

pub every_so : {A : Type 0} (P Q : A → Type 0) (xs : List A) → ((x : A) → P x → Q x) → Every P xs → Every Q xs
every_so P Q [] more a = tt
every_so P Q (x ∷ xs) more a = (more x a.0, every_so P Q xs more a.1)

pub every_has : {A : Type 0} (P : A → Type 0) (xs : List A) → Every P xs → (x : A) → In x xs → P x
every_has P [] a x i = absurd i
every_has P (y ∷ xs) a x (inl e) = subst P e a.0
every_has P (y ∷ xs) a x (inr i) = every_has P xs a.1 x i

pub every_both : {A : Type 0} (P Q : A → Type 0) (xs : List A) → Every P xs → Every Q xs → Every (λ (x : A). P x × Q x) xs
every_both P Q [] a b = tt
every_both P Q (x ∷ xs) a b = ((a.0, b.0), every_both P Q xs a.1 b.1)
