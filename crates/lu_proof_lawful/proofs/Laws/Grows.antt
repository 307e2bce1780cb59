-- How far a lock grows beside others, and whether it conflicts with them, depends on which these are, not on their order.
use Rattle.std.proofs.Common.{◌≡◌, ℕ, ◌+◌, ◌-◌, ◌≤◌, Bool, true, false, List, [], ◌∷◌, ◌++◌, Option, Some, None, ◌⊎◌, inl, inr, ⊎_elim}
use Rattle.std.proofs.Common.{refl, sym, subst, ap, ◌∙◌, arith}
use Rattle.std.specs.Prelude.{map, filter, nat_lt, not, ◌||◌, if◌then◌else◌}
use Rattle.std.specs.List.{filter_map, list_any}
use Rattle.lu_base.specs.declared.locks.Ask.{Ask}
use Rattle.lu_base.specs.declared.locks.Extent.{Extent}
use Rattle.lu_base.specs.declared.locks.Mode.{Mode}
use Rattle.lu_base.specs.declared.locks.Policy.{Policy}
use Rattle.lu_base.specs.declared.locks.Policy.TheVariants.{Bits, Range}
use Rattle.lu_lock.specs.Conflict.{conflict, conflicts_with_any}
use Rattle.lu_lock.specs.Growth.{the_end, extent_of, opposing, greatest, least, past_below, before_above, grown_extent, grown_policy}
use Rattle.lu_lock.specs.Growth.{granted_ask}
use Rattle.lu_lock.specs.Modes.{compatible}
use Rattle.lu_lock.specs.Overlap.{extents_meet}
use Rattle.lu_lock.proofs.GrowthLaws.{greatest-append, least-append}
use Rattle.lu_proof_lawful.proofs.Preconditions.Guards.{In}
use Rattle.lu_proof_lawful.proofs.Preconditions.Lists.{in_append, in_left, in_right, in_filter, in_filtered}
use Rattle.lu_proof_lawful.proofs.Preconditions.ClientLocks.{in_map, in_mapped, none_any}

-- ---- what is in one is in the other

abbrev pub Within : {A : Type 0} → List A → List A → Type 0
Within {A} xs ys = (x : A) → In x xs → In x ys

abbrev pub Same : {A : Type 0} → List A → List A → Type 0
Same xs ys = Within xs ys × Within ys xs

pub within_filter : {A : Type 0} (f : A → Bool) (xs ys : List A) → Within xs ys → Within (filter f xs) (filter f ys)
within_filter f xs ys w x i = let p = in_filter f x xs i in in_filtered f x ys (w x p.0) p.1

pub within_map : {A : Type 0} {B : Type 0} (f : A → B) (xs ys : List A) → Within xs ys → Within (map f xs) (map f ys)
within_map {A} {B} f xs ys w y i = let p = in_map f y xs i in subst (λ (z : B). In z (map f ys)) p.2 (in_mapped f p.0 ys (w p.0 p.1))

within_append : {A : Type 0} (xs ys zs : List A) → Within xs ys → Within (xs ++ zs) (ys ++ zs)
within_append xs ys zs w x i = ⊎_elim (λ (j : In x xs). in_left x ys zs (w x j)) (λ (j : In x zs). in_right x ys zs j) (in_append x xs zs i)

-- what some of them become
in_some : {A : Type 0} {B : Type 0} (f : A → Option B) (y : B) (xs : List A) → In y (filter_map f xs) → (x : A) × In x xs × (f x ≡ Some y)
in_some f y [] i = absurd i
in_some {A} {B} f y (x ∷ xs) i = by (f x) refl i (in_some f y xs)
  where
    by : (o : Option B) → f x ≡ o → In y (filter_map f (x ∷ xs)) → (In y (filter_map f xs) → (z : A) × In z xs × (f z ≡ Some y)) → (z : A)
        × In z (x ∷ xs) × (f z ≡ Some y)
    by None e i h = let r = h (rw e at i) in (r.0, inr r.1, r.2)
    by (Some b) e i h = ⊎_elim (λ (q : b ≡ y). (x, inl refl, e ∙ ap (λ (z : B). Some z) q))
        (λ (j : In y (filter_map f xs)). let r = h j in (r.0, inr r.1, r.2)) (rw e at i)

some_in : {A : Type 0} {B : Type 0} (f : A → Option B) (y : B) (x : A) (xs : List A) → In x xs → f x ≡ Some y → In y (filter_map f xs)
some_in f y x [] i e = absurd i
some_in {A} {B} f y x (z ∷ xs) i e = by (f z) refl i (some_in f y x xs)
  where
    by : (o : Option B) → f z ≡ o → In x (z ∷ xs) → (In x xs → f x ≡ Some y → In y (filter_map f xs)) → In y (filter_map f (z ∷ xs))
    by None q (inl s) h = absurd (let none : Some y ≡ None = sym e ∙ sym (ap f s) ∙ q in cc)
    by None q (inr j) h = rw q (h j e)
    by (Some b) q (inl s) h = rw q (inl (let same : Some b ≡ Some y = sym q ∙ ap f s ∙ e in cc))
    by (Some b) q (inr j) h = rw q (inr (h j e))

within_some : {A : Type 0} {B : Type 0} (f : A → Option B) (xs ys : List A) → Within xs ys → Within (filter_map f xs) (filter_map f ys)
within_some f xs ys w y i = let p = in_some f y xs i in some_in f y p.0 ys (w p.0 p.1) p.2

-- ---- the greatest and the least of numbers

least_of : (n : ℕ) (xs : List ℕ) → In n xs → n ≤ greatest xs
least_of n [] i = absurd i
least_of n (x ∷ xs) (inl q) = let e = greatest-append (x ∷ []) xs in omega (arith, e, q)
least_of n (x ∷ xs) (inr i) = let e = greatest-append (x ∷ []) xs in let h = least_of n xs i in omega (arith, e, h)

greatest_under : (m : ℕ) (xs : List ℕ) → ((n : ℕ) → In n xs → n ≤ m) → greatest xs ≤ m
greatest_under m [] all = omega arith
greatest_under m (x ∷ xs) all = let e = greatest-append (x ∷ []) xs in let one = all x (inl refl) in let h =
    greatest_under m xs (λ n i. all n (inr i)) in omega (arith, e, one, h)

greatest_within : (xs ys : List ℕ) → Within xs ys → greatest xs ≤ greatest ys
greatest_within xs ys w = greatest_under (greatest ys) xs (λ n i. least_of n ys (w n i))

most_of : (n : ℕ) (xs : List ℕ) → In n xs → least xs ≤ n
most_of n [] i = absurd i
most_of n (x ∷ xs) (inl q) = let e = least-append (x ∷ []) xs in omega (arith, e, q)
most_of n (x ∷ xs) (inr i) = let e = least-append (x ∷ []) xs in let h = most_of n xs i in omega (arith, e, h)

least_over : (m : ℕ) (xs : List ℕ) → m ≤ the_end → ((n : ℕ) → In n xs → m ≤ n) → m ≤ least xs
least_over m [] le all = le
least_over m (x ∷ xs) le all = let e = least-append (x ∷ []) xs in let one = all x (inl refl) in let h =
    least_over m xs le (λ n i. all n (inr i)) in omega (arith, e, one, h, le)

least_end : (xs : List ℕ) → least xs ≤ the_end
least_end [] = omega arith
least_end (x ∷ xs) = let e = least-append (x ∷ []) xs in let h = least_end xs in omega (arith, e, h)

least_within : (xs ys : List ℕ) → Within xs ys → least ys ≤ least xs
least_within xs ys w = least_over (least ys) xs (least_end ys) (λ n i. most_of n ys (w n i))

-- ---- how far a lock grows

past_same : (offset : ℕ) (xs ys : List Extent) → Same xs ys → past_below offset xs ≡ past_below offset ys
past_same offset xs ys s =
    let one = greatest_within (ends xs) (ends ys) (within_map end (filter below xs) (filter below ys) (within_filter below xs ys s.0)) in
    let two = greatest_within (ends ys) (ends xs) (within_map end (filter below ys) (filter below xs) (within_filter below ys xs s.1)) in
    omega (arith, one, two)
  where
    below : Extent → Bool
    below e = nat_lt e.last offset

    end : Extent → ℕ
    end e = e.last + 1

    ends : List Extent → List ℕ
    ends es = map end (filter below es)

before_same : (offset : ℕ) (xs ys : List Extent) → Same xs ys → before_above offset xs ≡ before_above offset ys
before_same offset xs ys s =
    let one = least_within (starts xs) (starts ys) (within_map start (filter above xs) (filter above ys) (within_filter above xs ys s.0)) in
    let two = least_within (starts ys) (starts xs) (within_map start (filter above ys) (filter above xs) (within_filter above ys xs s.1)) in
    omega (arith, one, two)
  where
    above : Extent → Bool
    above e = nat_lt offset e.first

    start : Extent → ℕ
    start e = e.first - 1

    starts : List Extent → List ℕ
    starts es = map start (filter above es)

extent_same : (asked : Extent) (xs ys waiting : List Extent) → Same xs ys → grown_extent asked xs waiting ≡ grown_extent asked ys waiting
extent_same asked xs ys waiting s =
    let both : Same (xs ++ waiting) (ys ++ waiting) = (within_append xs ys waiting s.0, within_append ys xs waiting s.1) in
    ap (λ (n : ℕ). if list_any (extents_meet asked) waiting then asked
    else (record { first = n; last = before_above asked.last (xs ++ waiting) }))
    (past_same asked.first (xs ++ waiting) (ys ++ waiting) both)
    ∙ ap (λ (n : ℕ). if list_any (extents_meet asked) waiting then asked
    else (record { first = past_below asked.first (ys ++ waiting); last = n }))
    (before_same asked.last (xs ++ waiting) (ys ++ waiting) both)

opposing_within : (mode : Mode) (xs ys : List Ask) → Within xs ys → Within (opposing mode xs) (opposing mode ys)
opposing_within mode xs ys w =
    within_some (λ (a : Ask). extent_of a.policy) (filter (λ (a : Ask). not (compatible mode a.mode)) xs)
    (filter (λ (a : Ask). not (compatible mode a.mode)) ys) (within_filter (λ (a : Ask). not (compatible mode a.mode)) xs ys w)

-- beside these granted locks, or those
pub grown_same : (a : Ask) (xs ys waiting : List Ask) → Same xs ys → granted_ask a xs waiting ≡ granted_ask a ys waiting
grown_same a xs ys waiting s = ap (λ (p : Policy). record a { policy = p }) (by a.policy)
  where
    by : (p : Policy) → grown_policy p (opposing a.mode xs) (opposing a.mode waiting)
        ≡ grown_policy p (opposing a.mode ys) (opposing a.mode waiting)
    by (Bits bits) = refl
    by (Range asked) = ap (λ (e : Extent). Range e) (extent_same asked (opposing a.mode xs) (opposing a.mode ys) (opposing a.mode waiting)
        (opposing_within a.mode xs ys s.0, opposing_within a.mode ys xs s.1))

-- ---- conflicts

not_any : {A : Type 0} (p : A → Bool) (xs : List A) (x : A) → In x xs → list_any p xs ≡ false → p x ≡ false
not_any p [] x i e = absurd i
not_any p (y ∷ xs) x (inl q) e = ap p (sym q) ∙ first (p y) (list_any p xs) e
  where
    first : (a b : Bool) → (a || b) ≡ false → a ≡ false
    first false b e = refl
    first true b e = absurd (cc)
not_any p (y ∷ xs) x (inr i) e = not_any p xs x i (rest (p y) (list_any p xs) e)
  where
    rest : (a b : Bool) → (a || b) ≡ false → b ≡ false
    rest false b e = e
    rest true b e = absurd (cc)

pub clear_of : (a : Ask) (xs : List Ask) (b : Ask) → conflicts_with_any a xs ≡ false → In b xs → conflict a b ≡ false
clear_of a xs b e i = not_any (conflict a) xs b i e

pub clear_within : (a : Ask) (xs ys : List Ask) → Within ys xs → conflicts_with_any a xs ≡ false → conflicts_with_any a ys ≡ false
clear_within a xs ys w e = none_any (conflict a) ys (λ b i. clear_of a xs b e (w b i))
