-- What is true of each of a list.
use Rattle.std.proofs.Common.{◌≡◌, ℕ, zero, suc, ◌+◌, ◌<◌, ◌≤◌, Bool, true, false, List, [], ◌∷◌, ◌++◌, map, length, take, refl, ap, sym}
use Rattle.std.proofs.Common.{◌∙◌, subst, arith}
use Rattle.std.specs.Prelude.{reverse, filter, slice_index_or, if◌then◌else◌, ◌↔◌}
use Rattle.std.proofs.lemmas.List.{take_more, take_all, reverse-append, reverse-reverse}
use Rattle.lu_spec_machine.specs.Footprint.{Every}

pub every_append : {A : Type 0} (P : A → Type 0) (xs ys : List A) → Every P xs → Every P ys → Every P (xs ++ ys)
every_append P [] ys a b = b
every_append P (x ∷ xs) ys a b = (a.0, every_append P xs ys a.1 b)

pub every_left : {A : Type 0} (P : A → Type 0) (xs ys : List A) → Every P (xs ++ ys) → Every P xs
every_left P [] ys a = tt
every_left P (x ∷ xs) ys a = (a.0, every_left P xs ys a.1)

pub every_right : {A : Type 0} (P : A → Type 0) (xs ys : List A) → Every P (xs ++ ys) → Every P ys
every_right P [] ys a = a
every_right P (x ∷ xs) ys a = every_right P xs ys a.1

pub every_more : {A : Type 0} (P : A → Type 0) (xs : List A) (i : ℕ) (d : A) → i < length xs → Every P (take i xs)
    → P (slice_index_or xs i d) → Every P (take (i + 1) xs)
every_more P xs i d below before here =
    subst (λ ys. Every P ys) (sym (take_more xs i d below)) (every_append P (take i xs) (slice_index_or xs i d ∷ []) before (here, tt))

pub every_at : {A : Type 0} (P : A → Type 0) (xs : List A) (i : ℕ) (d : A) → i < length xs → Every P xs → P (slice_index_or xs i d)
every_at P [] i d below all = absurd (omega arith)
every_at P (x ∷ xs) zero d below all = all.0
every_at P (x ∷ xs) (suc i) d below all = every_at P xs i d (omega arith) all.1

pub every_all : {A : Type 0} (P : A → Type 0) (xs : List A) (i : ℕ) → length xs ≤ i → Every P (take i xs) → Every P xs
every_all P xs i all before = subst (λ ys. Every P ys) (take_all i xs all) before

every_reverse : {A : Type 0} (P : A → Type 0) (xs : List A) → Every P xs → Every P (reverse xs)
every_reverse P [] all = tt
every_reverse P (x ∷ xs) all = subst (λ ys. Every P ys) (sym (reverse-append (x ∷ []) xs))
    (every_append P (reverse xs) (x ∷ []) (every_reverse P xs all.1) (all.0, tt))

-- ---- of those of a list that pass a test, made into others

every_made : {A B : Type 0} (P : B → Type 0) (f : A → B) (of : A → Bool) (xs : List A) → Every (λ x. of x ≡ true → P (f x)) xs
    → Every P (map f (filter of xs))
every_made P f of [] all = tt
every_made {A} {B} P f of (x ∷ xs) all = by (of x) refl (every_made P f of xs all.1) where
  by : (b : Bool) → of x ≡ b → Every P (map f (filter of xs)) → Every P (map f (if b then x ∷ filter of xs else filter of xs))
  by true is rest = (all.0 is, rest)
  by false is rest = rest

made_every : {A B : Type 0} (P : B → Type 0) (f : A → B) (of : A → Bool) (xs : List A) → Every P (map f (filter of xs))
    → Every (λ x. of x ≡ true → P (f x)) xs
made_every P f of [] all = tt
made_every {A} {B} P f of (x ∷ xs) all = by (of x) refl all (made_every P f of xs) where
  by : (b : Bool) → of x ≡ b → Every P (map f (if b then x ∷ filter of xs else filter of xs))
      → (Every P (map f (filter of xs)) → Every (λ x. of x ≡ true → P (f x)) xs)
      → (of x ≡ true → P (f x)) × Every (λ x. of x ≡ true → P (f x)) xs
  by true is all rest = (λ e. all.0, rest all.1)
  by false is all rest = (λ e. absurd (cc), rest all)

every_map : {A B : Type 0} (P : B → Type 0) (f : A → B) (xs : List A) → Every (λ x. P (f x)) xs → Every P (map f xs)
every_map P f [] all = tt
every_map P f (x ∷ xs) all = (all.0, every_map P f xs all.1)

map_every : {A B : Type 0} (P : B → Type 0) (f : A → B) (xs : List A) → Every P (map f xs) → Every (λ x. P (f x)) xs
map_every P f [] all = tt
map_every P f (x ∷ xs) all = (all.0, map_every P f xs all.1)

-- of what is read from a list, the last one first
pub every_read : {A B C : Type 0} (P : C → Type 0) (f : B → C) (of : B → Bool) (now : A → B) (read : List A) (all : List B)
    → reverse (map now read) ≡ all
    → Every (λ r. of (now r) ≡ true → P (f (now r))) read ↔ Every P (map f (filter of all))
every_read P f of now read all is = (
  λ each. every_made P f of all (subst (λ ys. Every (λ x. of x ≡ true → P (f x)) ys) is
      (every_reverse (λ x. of x ≡ true → P (f x)) (map now read) (every_map (λ x. of x ≡ true → P (f x)) now read each))),
  λ whole. map_every (λ x. of x ≡ true → P (f x)) now read
      (subst (λ ys. Every (λ x. of x ≡ true → P (f x)) ys) (ap reverse (sym is) ∙ reverse-reverse (map now read))
      (every_reverse (λ x. of x ≡ true → P (f x)) all (made_every P f of all whole))),
)
