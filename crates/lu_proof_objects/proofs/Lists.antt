-- Lists of held locks: no two have one name; what is left of them where a lock goes or is marked, and in order.
use Rattle.std.proofs.Common.{◌≡◌, ℕ, Bool, true, false, List, [], ◌∷◌, ◌++◌, ◌⊎◌, inl, inr, ⊎_elim, refl, sym, subst, ap, ◌∙◌}
use Rattle.std.specs.Prelude.{nat_eq, ◌&&◌, not, if◌then◌else◌, map, filter}
use Rattle.std.proofs.lemmas.Bool.{cond_both, cond-true, eqb-true, eq-eqb, and_parts, not-true}
use Rattle.lu_held.specs.declared.locks.HeldLock.{HeldLock}
use Rattle.lu_held.specs.declared.names.LockName.{LockName}
use Rattle.lu_held.specs.Names.{same_name, is_before}
use Rattle.lu_held.specs.Locks.{name_of, is_named}
use Rattle.lu_held.specs.Held.{without, put_in, in_order}
use Rattle.lu_proof_objects.specs.Sound.{In, IsOnce}

pub self : (n : ℕ) → nat_eq n n ≡ true
self n = eq-eqb n n refl

-- ---- membership

pub in_append : {A : Type 0} (x : A) (xs ys : List A) → In x (xs ++ ys) → In x xs ⊎ In x ys
in_append x [] ys i = inr i
in_append x (y ∷ xs) ys (inl e) = inl (inl e)
in_append x (y ∷ xs) ys (inr i) = ⊎_elim (λ (j : In x xs). inl (inr j)) (λ (j : In x ys). inr j) (in_append x xs ys i)

pub in_left : {A : Type 0} (x : A) (xs ys : List A) → In x xs → In x (xs ++ ys)
in_left x [] ys i = absurd i
in_left x (y ∷ xs) ys (inl e) = inl e
in_left x (y ∷ xs) ys (inr i) = inr (in_left x xs ys i)

pub in_filter : {A : Type 0} (f : A → Bool) (x : A) (xs : List A) → In x (filter f xs) → In x xs × (f x ≡ true)
in_filter f x [] i = absurd i
in_filter {A} f x (y ∷ ys) i =
    cond_both (f y) (y ∷ filter f ys) (filter f ys) (λ (zs : List A). In x zs → In x (y ∷ ys) × (f x ≡ true))
    (λ t j. ⊎_elim (λ (e : y ≡ x). (inl e, ap f (sym e) ∙ t)) (λ (k : In x (filter f ys)). let r = in_filter f x ys k in (inr r.0, r.1)) j)
    (λ t j. let r = in_filter f x ys j in (inr r.0, r.1))
    i

pub in_filtered : {A : Type 0} (f : A → Bool) (x : A) (xs : List A) → In x xs → f x ≡ true → In x (filter f xs)
in_filtered f x [] i t = absurd i
in_filtered f x (y ∷ xs) (inl e) t = subst (λ v. In x v) (sym (cond-true (f y) (y ∷ filter f xs) (filter f xs) (ap f e ∙ t))) (inl e)
in_filtered f x (y ∷ xs) (inr i) t = cond_both (f y) (y ∷ filter f xs) (filter f xs) (λ v. In x v) (λ s. inr (in_filtered f x xs i t))
    (λ s. in_filtered f x xs i t)

pub in_map : {A B : Type 0} (f : A → B) (y : B) (xs : List A) → In y (map f xs) → (x : A) × In x xs × (f x ≡ y)
in_map f y [] i = absurd i
in_map f y (x ∷ xs) (inl e) = (x, inl refl, e)
in_map f y (x ∷ xs) (inr i) = let r = in_map f y xs i in (r.0, inr r.1, r.2)

pub in_mapped : {A B : Type 0} (f : A → B) (x : A) (xs : List A) → In x xs → In (f x) (map f xs)
in_mapped f x [] i = absurd i
in_mapped f x (y ∷ xs) (inl e) = inl (ap f e)
in_mapped f x (y ∷ xs) (inr i) = inr (in_mapped f x xs i)

-- ---- names

pub own_name : (n : LockName) → same_name n n ≡ true
own_name n = ap (λ (b : Bool). b && nat_eq n.cookie.0 n.cookie.0) (self n.target.0) ∙ self n.cookie.0

pub names_same : (m n : LockName) → same_name m n ≡ true → m ≡ n
names_same m n e =
    let both = and_parts (nat_eq m.target.0 n.target.0) (nat_eq m.cookie.0 n.cookie.0) e in
    subst (λ (t : ℕ). m ≡ record { target = record { 0 = t }; cookie = n.cookie }) (eqb-true m.target.0 n.target.0 both.0)
    (subst (λ (c : ℕ). m ≡ record { target = m.target; cookie = record { 0 = c } }) (eqb-true m.cookie.0 n.cookie.0 both.1) refl)

pub names_back : (h g : HeldLock) → is_named (name_of h) g ≡ false → is_named (name_of g) h ≡ false
names_back h g e = by (is_named (name_of g) h) refl
  where
    by : (b : Bool) → is_named (name_of g) h ≡ b → b ≡ false
    by true t = absurd (let s : same_name (name_of h) (name_of g) ≡ true =
        ap (λ (n : LockName). same_name (name_of h) n) (names_same (name_of g) (name_of h) t) ∙ own_name (name_of h) in let q : true
        ≡ false = sym s ∙ e in cc)
    by false t = refl

-- ---- no two of one name

pub one_name : (h g : HeldLock) (held : List HeldLock) → IsOnce held → In h held → In g held → is_named (name_of h) g ≡ true → h ≡ g
one_name h g [] o i j e = absurd i
one_name h g (x ∷ held) o (inl p) (inl q) e = sym p ∙ q
one_name h g (x ∷ held) o (inl p) (inr j) e = absurd (let f : is_named (name_of h) g ≡ false =
    ap (λ (y : HeldLock). is_named (name_of y) g) (sym p) ∙ o.0 g j in let q : true ≡ false = sym e ∙ f in cc)
one_name h g (x ∷ held) o (inr i) (inl q) e =
    absurd (let f : is_named (name_of h) g ≡ false = names_back g h (ap (λ (y : HeldLock). is_named (name_of y) h) (sym q) ∙ o.0 h i)
    in let p : true ≡ false = sym e ∙ f in cc)
one_name h g (x ∷ held) o (inr i) (inr j) e = one_name h g held o.1 i j e

pub once_filter : (f : HeldLock → Bool) (hs : List HeldLock) → IsOnce hs → IsOnce (filter f hs)
once_filter f [] o = tt
once_filter f (h ∷ hs) o = by (f h) (once_filter f hs o.1)
  where
    by : (b : Bool) → IsOnce (filter f hs) → IsOnce (if b then h ∷ filter f hs else filter f hs)
    by true r = (λ g i. o.0 g (in_filter f g hs i).0, r)
    by false r = r

pub once_map : (f : HeldLock → HeldLock) → ((h : HeldLock) → name_of (f h) ≡ name_of h) → (hs : List HeldLock) → IsOnce hs
    → IsOnce (map f hs)
once_map f same [] o = tt
once_map f same (h ∷ hs) o = (apart, once_map f same hs o.1)
  where
    apart : (g : HeldLock) → In g (map f hs) → is_named (name_of (f h)) g ≡ false
    apart g i =
        let r = in_map f g hs i in
        ap (λ (n : LockName). same_name n (name_of g)) (same h) ∙ ap (λ (x : HeldLock). same_name (name_of h) (name_of x)) (sym r.2)
        ∙ ap (λ (n : LockName). same_name (name_of h) n) (same r.0) ∙ o.0 r.0 r.1

-- ---- one that goes

pub without_only : (n : LockName) (g : HeldLock) (hs : List HeldLock) → In g (without n hs) → In g hs × (is_named n g ≡ false)
without_only n g hs i = let p = in_filter (λ held. not (is_named n held)) g hs i in (p.0, not-true (is_named n g) p.1)

pub without_other : (n : LockName) (g : HeldLock) (hs : List HeldLock) → In g hs → is_named n g ≡ false → In g (without n hs)
without_other n g hs i e = in_filtered (λ held. not (is_named n held)) g hs i (ap not e)

-- ---- in order

in_put : (h g : HeldLock) (hs : List HeldLock) → In g (put_in h hs) → (h ≡ g) ⊎ In g hs
in_put h g [] i = i
in_put h g (f ∷ hs) i = by (is_before (name_of f) (name_of h)) i (in_put h g hs)
  where
    by : (b : Bool) → In g (if b then f ∷ put_in h hs else h ∷ f ∷ hs) → (In g (put_in h hs) → (h ≡ g) ⊎ In g hs) → (h ≡ g) ⊎ In g (f ∷ hs)
    by true (inl e) more = inr (inl e)
    by true (inr j) more = ⊎_elim (λ (e : h ≡ g). inl e) (λ (k : In g hs). inr (inr k)) (more j)
    by false j more = j

once_put : (h : HeldLock) (hs : List HeldLock) → ((g : HeldLock) → In g hs → is_named (name_of h) g ≡ false) → IsOnce hs
    → IsOnce (put_in h hs)
once_put h [] a o = (a, tt)
once_put h (f ∷ hs) a o = by (is_before (name_of f) (name_of h)) (once_put h hs (λ g i. a g (inr i)) o.1)
  where
    by : (b : Bool) → IsOnce (put_in h hs) → IsOnce (if b then f ∷ put_in h hs else h ∷ f ∷ hs)
    by true more = (
      λ g i. ⊎_elim (λ (e : h ≡ g). ap (λ (x : HeldLock). is_named (name_of f) x) (sym e) ∙ names_back h f (a f (inl refl)))
          (λ (j : In g hs). o.0 g j) (in_put h g hs i),
      more,
    )
    by false more = (a, o)

pub in_ordered : (g : HeldLock) (hs : List HeldLock) → In g (in_order hs) → In g hs
in_ordered g [] i = i
in_ordered g (h ∷ hs) i = ⊎_elim (λ (e : h ≡ g). inl e) (λ (j : In g (in_order hs)). inr (in_ordered g hs j)) (in_put h g (in_order hs) i)

pub once_ordered : (hs : List HeldLock) → IsOnce hs → IsOnce (in_order hs)
once_ordered [] o = tt
once_ordered (h ∷ hs) o = once_put h (in_order hs) (λ g i. o.0 g (in_ordered g hs i)) (once_ordered hs o.1)
