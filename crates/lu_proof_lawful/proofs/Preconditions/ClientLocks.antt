-- Lists of held locks: no two have one name; and what is left of them by a change, a use, a lock that comes and one that goes.
use Rattle.std.proofs.Common.{◌≡◌, ℕ, zero, suc, Bool, true, false, List, [], ◌∷◌, ◌++◌, ◌⊎◌, inl, inr, ⊎_elim, refl, sym, subst, ap, ◌∙◌}
use Rattle.std.proofs.Common.{arith}
use Rattle.std.specs.Prelude.{nat_eq, ◌||◌, not, if◌then◌else◌, length, map, filter, drop}
use Rattle.std.specs.List.{list_any}
use Rattle.std.proofs.lemmas.Bool.{and_parts, cond-true, cond-false, eqb-true, or_left, or_right, not-true}
use Rattle.std.proofs.lemmas.Bool.Decides.{nat_tests}
use Rattle.lu_base.specs.declared.locks.Lock.{Lock}
use Rattle.lu_held.specs.declared.locks.Change.{Change}
use Rattle.lu_held.specs.declared.locks.Change.TheVariants as change
use Rattle.lu_held.specs.declared.locks.HeldLock.{HeldLock}
use Rattle.lu_held.specs.declared.names.LockName.{LockName}
use Rattle.lu_held.specs.Names.{same_name, is_before}
use Rattle.lu_held.specs.Locks.{named, name_of, is_named, after}
use Rattle.lu_held.specs.Held.{is_held, changed, without, used, unmarked, put_in, in_order}
use Rattle.lu_spec_client.specs.Caches.{held_as, with_held, with_brought}
use Rattle.lu_proof_lawful.proofs.Preconditions.Guards.{In}
use Rattle.lu_proof_lawful.proofs.Preconditions.Lists.{self, in_append, in_filter, in_filtered}

-- ---- lists

pub in_map : {A B : Type 0} (f : A → B) (y : B) (xs : List A) → In y (map f xs) → (x : A) × In x xs × (f x ≡ y)
in_map f y [] i = absurd i
in_map f y (x ∷ xs) (inl e) = (x, inl refl, e)
in_map f y (x ∷ xs) (inr i) = let r = in_map f y xs i in (r.0, inr r.1, r.2)

pub in_mapped : {A B : Type 0} (f : A → B) (x : A) (xs : List A) → In x xs → In (f x) (map f xs)
in_mapped f x [] i = absurd i
in_mapped f x (y ∷ xs) (inl e) = inl (ap f e)
in_mapped f x (y ∷ xs) (inr i) = inr (in_mapped f x xs i)

pub in_drop : {A : Type 0} (n : ℕ) (x : A) (xs : List A) → In x (drop n xs) → In x xs
in_drop zero x xs i = i
in_drop (suc n) x [] i = absurd i
in_drop (suc n) x (y ∷ xs) i = inr (in_drop n x xs i)

-- where some element passes a test, and where none does
pub any_true : {A : Type 0} (f : A → Bool) (xs : List A) → list_any f xs ≡ true → (x : A) × In x xs × (f x ≡ true)
any_true f [] e = absurd (cc)
any_true {A} f (x ∷ xs) e = by (f x) refl e (any_true f xs)
  where
    by : (b : Bool) → f x ≡ b → (b || list_any f xs) ≡ true → (list_any f xs ≡ true → (y : A) × In y xs × (f y ≡ true)) → (y : A)
        × In y (x ∷ xs) × (f y ≡ true)
    by true t e more = (x, inl refl, t)
    by false t e more = let r = more e in (r.0, inr r.1, r.2)

pub any_passes : {A : Type 0} (f : A → Bool) (x : A) (xs : List A) → In x xs → f x ≡ true → list_any f xs ≡ true
any_passes f x [] i t = absurd i
any_passes f x (y ∷ xs) (inl e) t = or_left (f y) (list_any f xs) (ap f e ∙ t)
any_passes f x (y ∷ xs) (inr i) t = or_right (f y) (list_any f xs) (any_passes f x xs i t)

pub any_false : {A : Type 0} (f : A → Bool) (xs : List A) → list_any f xs ≡ false → (x : A) → In x xs → f x ≡ false
any_false f [] e x i = absurd i
any_false {A} f (y ∷ xs) e x i = by (f y) refl e i (λ q j. any_false f xs q x j)
  where
    by : (b : Bool) → f y ≡ b → (b || list_any f xs) ≡ false → (y ≡ x) ⊎ In x xs → (list_any f xs ≡ false → In x xs → f x ≡ false) → f x
        ≡ false
    by true t e i more = absurd (cc)
    by false t e (inl s) more = ap f (sym s) ∙ t
    by false t e (inr j) more = more e j

pub none_any : {A : Type 0} (f : A → Bool) (xs : List A) → ((x : A) → In x xs → f x ≡ false) → list_any f xs ≡ false
none_any f [] h = refl
none_any f (x ∷ xs) h = rw (h x (inl refl)) (none_any f xs (λ y i. h y (inr i)))

-- ---- names

pub names_same : (n m : LockName) → same_name n m ≡ true → n ≡ m
names_same n m t =
    let p = and_parts (nat_eq n.target.0 m.target.0) (nat_eq n.cookie.0 m.cookie.0) t in
    ap (λ (x : ℕ). named (record { 0 = x }) n.cookie) (eqb-true n.target.0 m.target.0 p.0)
    ∙ ap (λ (x : ℕ). named m.target (record { 0 = x })) (eqb-true n.cookie.0 m.cookie.0 p.1)

pub own_name : (n : LockName) → same_name n n ≡ true
own_name n = rw (self n.target.0, self n.cookie.0) refl

-- ---- no two of one name

abbrev pub Apart : HeldLock → List HeldLock → Type 0
Apart h hs = (g : HeldLock) → In g hs → is_named (name_of h) g ≡ false

abbrev pub Once : List HeldLock → Type 0
Once [] = Unit {0}
Once (h ∷ hs) = Apart h hs × Once hs

pub once_filter : (f : HeldLock → Bool) (hs : List HeldLock) → Once hs → Once (filter f hs)
once_filter f [] o = tt
once_filter f (h ∷ hs) o = by (f h) (once_filter f hs o.1)
  where
    by : (b : Bool) → Once (filter f hs) → Once (if b then h ∷ filter f hs else filter f hs)
    by true r = (λ g i. o.0 g (in_filter f g hs i).0, r)
    by false r = r

-- what keeps names
pub once_map : (f : HeldLock → HeldLock) → ((h : HeldLock) → name_of (f h) ≡ name_of h) → (hs : List HeldLock) → Once hs → Once (map f hs)
once_map f same [] o = tt
once_map f same (h ∷ hs) o = (apart, once_map f same hs o.1)
  where
    apart : Apart (f h) (map f hs)
    apart g i =
        let r = in_map f g hs i in
        ap (λ (n : LockName). same_name n (name_of g)) (same h) ∙ ap (λ (x : HeldLock). same_name (name_of h) (name_of x)) (sym r.2)
        ∙ ap (λ (n : LockName). same_name (name_of h) n) (same r.0) ∙ o.0 r.0 r.1

pub once_append : (hs gs : List HeldLock) → Once hs → Once gs → ((h : HeldLock) → In h hs → Apart h gs) → Once (hs ++ gs)
once_append [] gs o p a = p
once_append (h ∷ hs) gs o p a = (
  λ g i. ⊎_elim (λ (j : In g hs). o.0 g j) (λ (j : In g gs). a h (inl refl) g j) (in_append g hs gs i),
  once_append hs gs o.1 p (λ k i. a k (inr i)),
)

change_name : (c : Change) (h : HeldLock) → name_of (after c h) ≡ name_of h
change_name change.Mark h = refl
change_name change.Unmark h = refl
change_name change.Pin h = refl
change_name change.Unpin h = refl

pub once_changed : (n : LockName) (c : Change) (hs : List HeldLock) → Once hs → Once (changed n c hs)
once_changed n c hs o = once_map (λ held. if is_named n held then after c held else held) same hs o
  where
    by : (b : Bool) (h : HeldLock) → name_of (if b then after c h else h) ≡ name_of h
    by true h = change_name c h
    by false h = refl

    same : (h : HeldLock) → name_of (if is_named n h then after c h else h) ≡ name_of h
    same h = by (is_named n h) h

pub once_used : (n : LockName) (hs : List HeldLock) → Once hs → Once (used n hs)
once_used n hs o = once_append (filter (is_named n) hs) (without n hs) (once_filter (is_named n) hs o)
    (once_filter (λ held. not (is_named n held)) hs o) apart
  where
    apart : (h : HeldLock) → In h (filter (is_named n) hs) → Apart h (without n hs)
    apart h i g j =
        let p = in_filter (is_named n) h hs i in
        let q = in_filter (λ held. not (is_named n held)) g hs j in
        ap (λ (m : LockName). is_named m g) (sym (names_same n (name_of h) p.1)) ∙ not-true (is_named n g) q.1

-- ---- a lock that comes

abbrev pub in_place : HeldLock → HeldLock → HeldLock
in_place h g = if is_named (name_of h) g then h else g

pub once_with : (h : HeldLock) (hs : List HeldLock) → Once hs → Once (with_held h hs)
once_with h hs o = by (is_held (name_of h) hs) refl
  where
    place : (g : HeldLock) (b : Bool) → is_named (name_of h) g ≡ b → name_of (if b then h else g) ≡ name_of g
    place g true e = names_same (name_of h) (name_of g) e
    place g false e = refl

    by : (b : Bool) → is_held (name_of h) hs ≡ b → Once (if b then map (in_place h) hs else h ∷ hs)
    by true e = once_map (in_place h) (λ g. place g (is_named (name_of h) g) refl) hs o
    by false e = (λ g i. any_false (is_named (name_of h)) hs e g i, o)

pub once_brought : (t : ℕ) (locks : List Lock) (hs : List HeldLock) → Once hs → Once (with_brought t locks hs)
once_brought t [] hs o = o
once_brought t (l ∷ locks) hs o = once_brought t locks (with_held (held_as t l false) hs) (once_with (held_as t l false) hs o)

-- it is there, and of others those that were
pub with_only : (h g : HeldLock) (hs : List HeldLock) → In g (with_held h hs) → (h ≡ g) ⊎ In g hs
with_only h g hs i = by (is_held (name_of h) hs) i
  where
    place : (x : HeldLock) (b : Bool) → In x hs → (if b then h else x) ≡ g → (h ≡ g) ⊎ In g hs
    place x true j e = inl e
    place x false j e = inr (subst (λ (y : HeldLock). In y hs) e j)

    by : (b : Bool) → In g (if b then map (in_place h) hs else h ∷ hs) → (h ≡ g) ⊎ In g hs
    by true j = let r = in_map (in_place h) g hs j in place r.0 (is_named (name_of h) r.0) r.1 r.2
    by false j = j

pub with_self : (h : HeldLock) (hs : List HeldLock) → In h (with_held h hs)
with_self h hs = by (is_held (name_of h) hs) refl
  where
    by : (b : Bool) → is_held (name_of h) hs ≡ b → In h (if b then map (in_place h) hs else h ∷ hs)
    by true e = let r = any_true (is_named (name_of h)) hs e in subst (λ (x : HeldLock). In x (map (in_place h) hs))
        (cond-true (is_named (name_of h) r.0) h r.0 r.2) (in_mapped (in_place h) r.0 hs r.1)
    by false e = inl refl

pub with_other : (h g : HeldLock) (hs : List HeldLock) → is_named (name_of h) g ≡ false → In g hs → In g (with_held h hs)
with_other h g hs n i = by (is_held (name_of h) hs)
  where
    by : (b : Bool) → In g (if b then map (in_place h) hs else h ∷ hs)
    by true = subst (λ (x : HeldLock). In x (map (in_place h) hs)) (cond-false (is_named (name_of h) g) h g n)
        (in_mapped (in_place h) g hs i)
    by false = inr i

-- locks of different cookies
abbrev pub Differ : List Lock → Type 0
Differ [] = Unit {0}
Differ (l ∷ locks) = ((m : Lock) → In m locks → nat_eq l.cookie.0 m.cookie.0 ≡ false) × Differ locks

-- one of another cookie
pub other_lock : (t : ℕ) (l m : Lock) → nat_eq l.cookie.0 m.cookie.0 ≡ false → is_named (name_of (held_as t l false)) (held_as t m false)
    ≡ false
other_lock t l m e = rw (self t, e) refl

pub brought_stays : (t : ℕ) (m : Lock) (locks : List Lock) (hs : List HeldLock)
    → ((l : Lock) → In l locks → nat_eq l.cookie.0 m.cookie.0 ≡ false) → In (held_as t m false) hs
    → In (held_as t m false) (with_brought t locks hs)
brought_stays t m [] hs d i = i
brought_stays t m (l ∷ locks) hs d i =
    brought_stays t m locks (with_held (held_as t l false) hs) (λ k j. d k (inr j))
    (with_other (held_as t l false) (held_as t m false) hs (other_lock t l m (d l (inl refl))) i)

apart_back : (a b : ℕ) → nat_eq a b ≡ false → nat_eq b a ≡ false
apart_back a b e = grind (arith, nat_tests)

pub brought_in : (t : ℕ) (m : Lock) (locks : List Lock) (hs : List HeldLock) → Differ locks → In m locks
    → In (held_as t m false) (with_brought t locks hs)
brought_in t m [] hs d i = absurd i
brought_in t m (l ∷ locks) hs d (inl e) =
    subst (λ (k : Lock). In (held_as t k false) (with_brought t locks (with_held (held_as t l false) hs))) e
    (brought_stays t l locks (with_held (held_as t l false) hs) (λ k j. apart_back l.cookie.0 k.cookie.0 (d.0 k j))
    (with_self (held_as t l false) hs))
brought_in t m (l ∷ locks) hs d (inr i) = brought_in t m locks (with_held (held_as t l false) hs) d.1 i

pub brought_only : (t : ℕ) (g : HeldLock) (locks : List Lock) (hs : List HeldLock) → In g (with_brought t locks hs)
    → ((l : Lock) × (held_as t l false ≡ g)) ⊎ In g hs
brought_only t g [] hs i = inr i
brought_only t g (l ∷ locks) hs i =
    ⊎_elim (λ (e : (k : Lock) × (held_as t k false ≡ g)). inl e)
    (λ (j : In g (with_held (held_as t l false) hs)). ⊎_elim (λ (e : held_as t l false ≡ g). inl (l, e)) (λ (k : In g hs). inr k)
    (with_only (held_as t l false) g hs j))
    (brought_only t g locks (with_held (held_as t l false) hs) i)

-- ---- one that changes, and one that goes

pub changed_only : (n : LockName) (c : Change) (g : HeldLock) (hs : List HeldLock) → In g (changed n c hs) → (h : HeldLock) × In h hs
    × ((if is_named n h then after c h else h) ≡ g)
changed_only n c g hs i = in_map (λ held. if is_named n held then after c held else held) g hs i

pub used_only : (n : LockName) (g : HeldLock) (hs : List HeldLock) → In g (used n hs) → In g hs
used_only n g hs i =
    ⊎_elim (λ (j : In g (filter (is_named n) hs)). (in_filter (is_named n) g hs j).0)
    (λ (j : In g (without n hs)). (in_filter (λ held. not (is_named n held)) g hs j).0)
    (in_append g (filter (is_named n) hs) (without n hs) i)

pub without_only : (n : LockName) (g : HeldLock) (hs : List HeldLock) → In g (without n hs) → In g hs × (is_named n g ≡ false)
without_only n g hs i = let p = in_filter (λ held. not (is_named n held)) g hs i in (p.0, not-true (is_named n g) p.1)

pub without_other : (n : LockName) (g : HeldLock) (hs : List HeldLock) → In g hs → is_named n g ≡ false → In g (without n hs)
without_other n g hs i e = in_filtered (λ held. not (is_named n held)) g hs i (ap not e)

pub without_gone : (n : LockName) (hs : List HeldLock) → is_held n (without n hs) ≡ false
without_gone n hs = none_any (is_named n) (without n hs) (λ g i. (without_only n g hs i).1)

-- marks that go at one target

pub unmarked_only : (t : ℕ) (g : HeldLock) (hs : List HeldLock) → In g (unmarked (record { 0 = t }) hs) → (h : HeldLock) × In h hs
    × ((if nat_eq h.target.0 t then after change.Unmark h else h) ≡ g)
unmarked_only t g hs i = in_map (λ held. if nat_eq held.target.0 t then after change.Unmark held else held) g hs i

pub once_unmarked : (t : ℕ) (hs : List HeldLock) → Once hs → Once (unmarked (record { 0 = t }) hs)
once_unmarked t hs o = once_map (λ held. if nat_eq held.target.0 t then after change.Unmark held else held) same hs o
  where
    by : (b : Bool) (h : HeldLock) → name_of (if b then after change.Unmark h else h) ≡ name_of h
    by true h = refl
    by false h = refl

    same : (h : HeldLock) → name_of (if nat_eq h.target.0 t then after change.Unmark h else h) ≡ name_of h
    same h = by (nat_eq h.target.0 t) h

-- ---- in order

in_put : (h g : HeldLock) (hs : List HeldLock) → In g (put_in h hs) → (h ≡ g) ⊎ In g hs
in_put h g [] i = i
in_put h g (f ∷ hs) i = by (is_before (name_of f) (name_of h)) i (in_put h g hs)
  where
    by : (b : Bool) → In g (if b then f ∷ put_in h hs else h ∷ f ∷ hs) → (In g (put_in h hs) → (h ≡ g) ⊎ In g hs) → (h ≡ g) ⊎ In g (f ∷ hs)
    by true (inl e) more = inr (inl e)
    by true (inr j) more = ⊎_elim (λ (e : h ≡ g). inl e) (λ (k : In g hs). inr (inr k)) (more j)
    by false j more = j

put_there : (h g : HeldLock) (hs : List HeldLock) → (h ≡ g) ⊎ In g hs → In g (put_in h hs)
put_there h g [] i = i
put_there h g (f ∷ hs) i = by (is_before (name_of f) (name_of h)) i (put_there h g hs)
  where
    by : (b : Bool) → (h ≡ g) ⊎ In g (f ∷ hs) → ((h ≡ g) ⊎ In g hs → In g (put_in h hs)) → In g (if b then f ∷ put_in h hs else h ∷ f ∷ hs)
    by true (inl e) more = inr (more (inl e))
    by true (inr (inl e)) more = inl e
    by true (inr (inr j)) more = inr (more (inr j))
    by false j more = j

names_back : (h g : HeldLock) → is_named (name_of h) g ≡ false → is_named (name_of g) h ≡ false
names_back h g e = by (is_named (name_of g) h) refl
  where
    by : (b : Bool) → is_named (name_of g) h ≡ b → b ≡ false
    by true t = absurd (let s : same_name (name_of h) (name_of g) ≡ true =
        ap (λ (n : LockName). same_name (name_of h) n) (names_same (name_of g) (name_of h) t) ∙ own_name (name_of h) in let q : true
        ≡ false = sym s ∙ e in cc)
    by false t = refl

once_put : (h : HeldLock) (hs : List HeldLock) → Apart h hs → Once hs → Once (put_in h hs)
once_put h [] a o = (a, tt)
once_put h (f ∷ hs) a o = by (is_before (name_of f) (name_of h)) (once_put h hs (λ g i. a g (inr i)) o.1)
  where
    by : (b : Bool) → Once (put_in h hs) → Once (if b then f ∷ put_in h hs else h ∷ f ∷ hs)
    by true more = (
      λ g i. ⊎_elim (λ (e : h ≡ g). ap (λ (x : HeldLock). is_named (name_of f) x) (sym e) ∙ names_back h f (a f (inl refl)))
          (λ (j : In g hs). o.0 g j) (in_put h g hs i),
      more,
    )
    by false more = (a, o)

pub in_ordered : (g : HeldLock) (hs : List HeldLock) → In g (in_order hs) → In g hs
in_ordered g [] i = i
in_ordered g (h ∷ hs) i = ⊎_elim (λ (e : h ≡ g). inl e) (λ (j : In g (in_order hs)). inr (in_ordered g hs j)) (in_put h g (in_order hs) i)

pub ordered_in : (g : HeldLock) (hs : List HeldLock) → In g hs → In g (in_order hs)
ordered_in g [] i = i
ordered_in g (h ∷ hs) (inl e) = put_there h g (in_order hs) (inl e)
ordered_in g (h ∷ hs) (inr i) = put_there h g (in_order hs) (inr (ordered_in g hs i))

-- those of a kind
pub of_ordered : (f : HeldLock → Bool) (g : HeldLock) (hs : List HeldLock) → In g (filter f (in_order hs)) → In g (filter f hs)
of_ordered f g hs i = let r = in_filter f g (in_order hs) i in in_filtered f g hs (in_ordered g hs r.0) r.1

-- as many of a kind as before
count_put : (f : HeldLock → Bool) (h : HeldLock) (hs : List HeldLock) → length (filter f (put_in h hs)) ≡ length (filter f (h ∷ hs))
count_put f h [] = refl
count_put f h (g ∷ hs) = by (is_before (name_of g) (name_of h)) (count_put f h hs)
  where
    here : (a b : Bool) → length (if b then g ∷ (if a then h ∷ filter f hs else filter f hs)
        else (if a then h ∷ filter f hs else filter f hs)) ≡ length
        (if a then h ∷ (if b then g ∷ filter f hs else filter f hs) else (if b then g ∷ filter f hs else filter f hs))
    here true true = refl
    here true false = refl
    here false true = refl
    here false false = refl

    more : (b : Bool) (xs ys : List HeldLock) → length xs ≡ length ys → length (if b then g ∷ xs else xs)
        ≡ length (if b then g ∷ ys else ys)
    more true xs ys e = ap suc e
    more false xs ys e = e

    by : (b : Bool) → length (filter f (put_in h hs)) ≡ length (filter f (h ∷ hs))
        → length (filter f (if b then g ∷ put_in h hs else h ∷ g ∷ hs)) ≡ length (filter f (h ∷ g ∷ hs))
    by true e = more (f g) (filter f (put_in h hs)) (filter f (h ∷ hs)) e ∙ here (f h) (f g)
    by false e = refl

pub count_ordered : (f : HeldLock → Bool) (hs : List HeldLock) → length (filter f (in_order hs)) ≡ length (filter f hs)
count_ordered f [] = refl
count_ordered f (h ∷ hs) = count_put f h (in_order hs) ∙ by (f h) (count_ordered f hs)
  where
    by : (b : Bool) → length (filter f (in_order hs)) ≡ length (filter f hs)
        → length (if b then h ∷ filter f (in_order hs) else filter f (in_order hs)) ≡ length (if b then h ∷ filter f hs else filter f hs)
    by true e = ap suc e
    by false e = e

-- and without their marks, as many of a target
pub count_unmarked : (t u : ℕ) (hs : List HeldLock) → length (filter (λ (h : HeldLock). nat_eq h.target.0 t)
    (unmarked (record { 0 = u }) hs)) ≡ length (filter (λ (h : HeldLock). nat_eq h.target.0 t) hs)
count_unmarked t u [] = refl
count_unmarked t u (h ∷ hs) = by (nat_eq h.target.0 u) (count_unmarked t u hs)
  where
    of_target : HeldLock → Bool
    of_target x = nat_eq x.target.0 t

    more : (b : Bool) (x y : HeldLock) (xs ys : List HeldLock) → length xs ≡ length ys → length (if b then x ∷ xs else xs)
        ≡ length (if b then y ∷ ys else ys)
    more true x y xs ys e = ap suc e
    more false x y xs ys e = e

    by : (b : Bool) → length (filter of_target (unmarked (record { 0 = u }) hs)) ≡ length (filter of_target hs)
        → length (filter of_target ((if b then after change.Unmark h else h) ∷ unmarked (record { 0 = u }) hs))
        ≡ length (filter of_target (h ∷ hs))
    by true e = more (of_target h) (after change.Unmark h) h (filter of_target (unmarked (record { 0 = u }) hs)) (filter of_target hs) e
    by false e = more (of_target h) h h (filter of_target (unmarked (record { 0 = u }) hs)) (filter of_target hs) e

-- and of a target the same ones
pub of_unmarked : (t u : ℕ) (g : HeldLock) (hs : List HeldLock) → In g (filter (λ (h : HeldLock). nat_eq h.target.0 t) hs)
    → (h : HeldLock) × In h (filter (λ (x : HeldLock). nat_eq x.target.0 t) (unmarked (record { 0 = u }) hs)) × (h.lock ≡ g.lock)
of_unmarked t u g hs i =
    let r = in_filter of_target g hs i in (
      one g,
      in_filtered of_target (one g) (map one hs) (in_mapped one g hs r.0) (kept (nat_eq g.target.0 u) r.1),
      same (nat_eq g.target.0 u),
    )
  where
    of_target : HeldLock → Bool
    of_target h = nat_eq h.target.0 t

    one : HeldLock → HeldLock
    one h = if nat_eq h.target.0 u then after change.Unmark h else h

    kept : (b : Bool) → nat_eq g.target.0 t ≡ true → nat_eq (if b then after change.Unmark g else g).target.0 t ≡ true
    kept true e = e
    kept false e = e

    same : (b : Bool) → (if b then after change.Unmark g else g).lock ≡ g.lock
    same true = refl
    same false = refl

pub once_ordered : (hs : List HeldLock) → Once hs → Once (in_order hs)
once_ordered [] o = tt
once_ordered (h ∷ hs) o = once_put h (in_order hs) (λ g i. o.0 g (in_ordered g hs i)) (once_ordered hs o.1)
