-- Facts of tests, turns and lists.
use Rattle.std.proofs.Common.{◌≡◌, ℕ, Bool, true, List, [], ◌∷◌, ◌++◌, ◌⊎◌, inl, inr, ⊎_elim, refl, sym, subst, ap, ◌∙◌, arith, false}
use Rattle.std.specs.Prelude.{nat_eq}
use Rattle.std.specs.List.{filter}
use Rattle.std.proofs.lemmas.Bool.{cond_both, cond-true, eqb-true, eq-eqb, and_parts, cond-false}
use Rattle.std.proofs.lemmas.Bool.Decides.{nat_tests}
use Rattle.lu_base.specs.declared.ids.At.{At}
use Rattle.lu_base.specs.declared.ids.Node.{Node}
use Rattle.lu_base.specs.declared.ids.Node.TheVariants.{Client, Target}
use Rattle.lu_base.specs.declared.ids.Stamp.{Stamp}
use Rattle.lu_base.specs.declared.ids.Who.{Who}
use Rattle.lu_spec_entries.specs.Words.{Entry, Line, line, with_turn, node_before, turn_before, same_life}
use Rattle.lu_proof_lawful.specs.Covered.ClientStates.{life_of, is_own}
use Rattle.lu_proof_lawful.proofs.Preconditions.Guards.{In}

pub self : (n : ℕ) → nat_eq n n ≡ true
self n = eq-eqb n n refl

-- ---- lists

pub in_append : {A : Type 0} (x : A) (xs ys : List A) → In x (xs ++ ys) → In x xs ⊎ In x ys
in_append x [] ys i = inr i
in_append x (y ∷ xs) ys (inl e) = inl (inl e)
in_append x (y ∷ xs) ys (inr i) = ⊎_elim (λ (j : In x xs). inl (inr j)) (λ (j : In x ys). inr j) (in_append x xs ys i)

pub in_left : {A : Type 0} (x : A) (xs ys : List A) → In x xs → In x (xs ++ ys)
in_left x [] ys i = absurd i
in_left x (y ∷ xs) ys (inl e) = inl e
in_left x (y ∷ xs) ys (inr i) = inr (in_left x xs ys i)

pub in_right : {A : Type 0} (x : A) (xs ys : List A) → In x ys → In x (xs ++ ys)
in_right x [] ys i = i
in_right x (y ∷ xs) ys i = inr (in_right x xs ys i)

pub in_filter : {A : Type 0} (f : A → Bool) (x : A) (xs : List A) → In x (filter f xs) → In x xs × (f x ≡ true)
in_filter f x [] i = absurd i
in_filter {A} f x (y ∷ ys) i =
    cond_both (f y) (y ∷ filter f ys) (filter f ys) (λ (zs : List A). In x zs → In x (y ∷ ys) × (f x ≡ true))
    (λ t j. ⊎_elim (λ (e : y ≡ x). (inl e, ap f (sym e) ∙ t)) (λ (k : In x (filter f ys)). let r = in_filter f x ys k in (inr r.0, r.1)) j)
    (λ t j. let r = in_filter f x ys j in (inr r.0, r.1))
    i

pub in_filtered : {A : Type 0} (f : A → Bool) (x : A) (xs : List A) → In x xs → f x ≡ true → In x (filter f xs)
in_filtered f x [] i t = absurd i
in_filtered f x (y ∷ xs) (inl e) t = subst (λ v. In x v) (sym (cond-true (f y) (y ∷ filter f xs) (filter f xs) (ap f e ∙ t))) (inl e)
in_filtered f x (y ∷ xs) (inr i) t = cond_both (f y) (y ∷ filter f xs) (filter f xs) (λ v. In x v) (λ s. inr (in_filtered f x xs i t))
    (λ s. in_filtered f x xs i t)

pub empty_list : {A : Type 0} (xs : List A) → ((x : A) → In x xs → ⊥) → xs ≡ []
empty_list [] none = refl
empty_list (x ∷ xs) none = absurd (none x (inl refl))

pub filter_none : {A : Type 0} (f : A → Bool) (xs : List A) → ((x : A) → In x xs → f x ≡ false) → filter f xs ≡ []
filter_none f [] h = refl
filter_none f (x ∷ xs) h = cond-false (f x) (x ∷ filter f xs) (filter f xs) (h x (inl refl)) ∙ filter_none f xs (λ y i. h y (inr i))

-- ---- turns

abbrev pub turn : Stamp → Node → At
turn stamp node = record { stamp = stamp; node = node }

-- a turn in two parts
pub turn_more : (at : At) (es fs : List Entry) (past : List Line) → with_turn at (es ++ fs) past ≡ with_turn at fs (with_turn at es past)
turn_more at [] fs past = refl
turn_more at (e ∷ es) fs past = turn_more at es fs (line at e ∷ past)

node_trans : (a b c : Node) → node_before a b ≡ true → node_before b c ≡ true → node_before a c ≡ true
node_trans (Client a) (Client b) (Client c) p q = grind (arith, nat_tests)
node_trans (Client a) (Client b) (Target c) p q = refl
node_trans (Client a) (Target b) (Client c) p q = absurd (cc)
node_trans (Client a) (Target b) (Target c) p q = refl
node_trans (Target a) (Client b) c p q = absurd (cc)
node_trans (Target a) (Target b) (Client c) p q = absurd (cc)
node_trans (Target a) (Target b) (Target c) p q = grind (arith, nat_tests)

node_irreflexive : (a : Node) → node_before a a ≡ true → ⊥
node_irreflexive (Client a) p = grind (arith, nat_tests)
node_irreflexive (Target a) p = grind (arith, nat_tests)

pub turn_trans : (a b c : At) → turn_before a b ≡ true → turn_before b c ≡ true → turn_before a c ≡ true
turn_trans a b c p q = grind (arith, nat_tests, node_trans a.node b.node c.node)

pub turn_irreflexive : (a : At) → turn_before a a ≡ true → ⊥
turn_irreflexive a p = grind (arith, nat_tests, node_irreflexive a.node)

abbrev pub who : ℕ → ℕ → Who
who client life = record { client = client; life = life }

pub life_is : (a b : Who) → same_life a b ≡ true → a ≡ b
life_is a b t =
    let p = and_parts (nat_eq a.client b.client) (nat_eq a.life b.life) t in
    ap (λ (c : ℕ). who c a.life) (eqb-true a.client b.client p.0) ∙ ap (λ (l : ℕ). who b.client l) (eqb-true a.life b.life p.1)

pub same_who : (a b : Who) → a.client ≡ b.client → a.life ≡ b.life → a ≡ b
same_who a b e f = life_is a b (grind (arith, nat_tests, e, f))

pub life_self : (a : Who) → same_life a a ≡ true
life_self a = grind (arith, nat_tests)

-- ---- whose a client's line is

-- of the life that the client is in
pub own_is : (who : Who) (past : List Line) (c : ℕ) → is_own who past (Client c) ≡ true → who ≡ life_of c past
own_is who past c t = life_is who (life_of c past) t

pub own_self : (past : List Line) (c : ℕ) → is_own (life_of c past) past (Client c) ≡ true
own_self past c = life_self (life_of c past)
