-- Where nothing stands: below the first position in a range, and in a range with none.
use Rattle.std.proofs.Common.{◌≡◌, ℕ, ◌+◌, ◌<◌, ◌≤◌, ◌⊎◌, inl, inr, Bool, true, false, cond, List, [], ◌∷◌, ◌++◌, Option, Some, None, refl}
use Rattle.std.proofs.Common.{sym, ap, ◌∙◌, subst, arith}
use Rattle.std.specs.Prelude.{nat_eq, nat_lt, nat_le, ◌==◌, ◌&&◌, if◌then◌else◌, is_some}
use Rattle.std.proofs.lemmas.Bool.Decides.{nat_tests}
use Rattle.lu_base.specs.declared.locks.Extent.{Extent}
use Rattle.lu_spec_machine.specs.Places.{Places, RisingFrom, found_at, is_in, inside}
use Rattle.lu_spec_machine.proofs.Places.{in_parts, in_whole, found_inside, rising_inside}
use Rattle.lu_spec_bytes.specs.Runs.{first_position}
use Rattle.lu_spec_bytes.specs.Maps.{AllBelow}
use Rattle.lu_spec_bytes.proofs.Rising.{none_before, rising_filter, end_snoc}
use Rattle.lu_page.proofs.Maps.{none_past}
use Rattle.lu_page.specs.Pages.{IsBare}

some_same : {A : Type 0} (x y : A) → Some x ≡ Some y → x ≡ y
some_same x y e = cc

none_some : {A : Type 0} (x : A) → None ≡ Some x → ⊥
none_some x e = cc

pub some_is : {A : Type 0} (o : Option A) → is_some o ≡ true → (x : A) × (o ≡ Some x)
some_is None is = absurd (cc)
some_is (Some x) is = (x, refl)

pub not_some : {A : Type 0} (o : Option A) → is_some o ≡ false → o ≡ None
not_some None is = refl
not_some (Some x) is = absurd (cc)

pub first_before : {A : Type 0} (n k p : ℕ) (m : Places A) → RisingFrom n m → first_position m ≡ Some k → p < k → found_at m p ≡ None
first_before n k p [] h first less = absurd (none_some k first)
first_before n k p (e ∷ m) h first less = let same : e.0 ≡ k = some_same e.0 k first
    in none_before e.0 p (e ∷ m) (omega arith, h.1) (omega (arith, less, same))

pub head_in : {A : Type 0} (extent : Extent) (k : ℕ) (m : Places A) → first_position (inside extent m) ≡ Some k → is_in extent k ≡ true
head_in extent k [] first = absurd (none_some k first)
head_in {A} extent k (e ∷ m) first = by (λ there. head_in extent k m there) (is_in extent e.0) refl first
  where
    by : (first_position (inside extent m) ≡ Some k → is_in extent k ≡ true) → (v : Bool) → is_in extent e.0 ≡ v
        → first_position (cond v (e ∷ inside extent m) (inside extent m)) ≡ Some k → is_in extent k ≡ true
    by rest true here first = subst (λ q. is_in extent q ≡ true) (some_same e.0 k first) here
    by rest false here first = rest first

found_in : {A : Type 0} (extent : Extent) (p : ℕ) (m : Places A) → is_in extent p ≡ true → found_at (inside extent m) p ≡ None
    → found_at m p ≡ None
found_in extent p m here none = sym (found_inside extent m p ∙ ap (λ v. if v then found_at m p else None) here) ∙ none

pub gap_some : {A : Type 0} (extent : Extent) (k : ℕ) (m : Places A) → RisingFrom 0 m → first_position (inside extent m) ≡ Some k
    → IsBare extent.first k m
gap_some {A} extent k m h first p over under =
    let high = (in_parts extent k (head_in extent k m first)).1 in
    found_in extent p m (in_whole extent p over (omega (arith, under, high)))
    (first_before 0 k p (inside extent m) (rising_filter 0 (λ (e : ℕ × A). is_in extent e.0) m h) first under)

pub nil_first : {A : Type 0} (p : ℕ) (m : Places A) → first_position m ≡ None → found_at m p ≡ None
nil_first p [] first = refl
nil_first p (e ∷ m) first = absurd (none_some e.0 (sym first))

pub gap_none : {A : Type 0} (extent : Extent) (m : Places A) → first_position (inside extent m) ≡ None
    → IsBare extent.first (extent.last + 1) m
gap_none extent m first p over under = found_in extent p m (in_whole extent p over (omega (arith, under)))
    (nil_first p (inside extent m) first)

no_item : {A : Type 0} (x : A) → Some x ≡ None → ⊥
no_item x e = cc

pub bare_tail : {A : Type 0} (low high p : ℕ) (x : A) (m : Places A) → IsBare low high ((p, x) ∷ m) → ((p < low) ⊎ (high ≤ p))
    × IsBare low high m
bare_tail {A} low high p x m bare = (
  by (nat_lt p low) (nat_le high p) refl refl,
  λ q over under. tail q (nat_eq q p) refl (bare q over under),
)
  where
    by : (v w : Bool) → nat_lt p low ≡ v → nat_le high p ≡ w → (p < low) ⊎ (high ≤ p)
    by true w less more = inl (grind (arith, nat_tests))
    by false true less more = inr (grind (arith, nat_tests))
    by false false less more = let here : nat_eq p p ≡ true = grind (arith, nat_tests)
        in absurd (no_item x (sym (ap (λ v. if v then Some x else found_at m p) here)
        ∙ bare p (grind (arith, nat_tests)) (grind (arith, nat_tests))))

    tail : (q : ℕ) (v : Bool) → nat_eq q p ≡ v → (if v then Some x else found_at m q) ≡ None → found_at m q ≡ None
    tail q true same none = absurd (no_item x none)
    tail q false same none = none

-- ---- above the last position in a range

snoc_below : {A : Type 0} (n : ℕ) (m : Places A) (e : ℕ × A) → RisingFrom n (m ++ e ∷ []) → AllBelow (e.0 + 1) (m ++ e ∷ [])
snoc_below n [] e h = (omega arith, tt)
snoc_below n (d ∷ m) e h = let after = (end_snoc (d.0 + 1) m e h.1).0 in (omega (arith, after), snoc_below (d.0 + 1) m e h.1)

pub gap_last : {A : Type 0} (extent : Extent) (e : ℕ × A) (rest m : Places A) → RisingFrom 0 m → inside extent m ≡ rest ++ e ∷ []
    → IsBare (e.0 + 1) (extent.last + 1) m
gap_last {A} extent e rest m h is p over under =
    let rises : RisingFrom extent.first (rest ++ e ∷ []) = subst (λ m. RisingFrom extent.first m) is (rising_inside 0 extent m h) in
    let low = (end_snoc extent.first rest e rises).0 in
    let all : AllBelow (e.0 + 1) (inside extent m) = subst (λ m. AllBelow (e.0 + 1) m) (sym is) (snoc_below extent.first rest e rises) in
    found_in extent p m (in_whole extent p (omega (arith, low, over)) (omega (arith, under)))
    (none_past (e.0 + 1) p (inside extent m) all over)

-- nothing there, so all lies further below
pub bare_less : {A : Type 0} (low high : ℕ) (m : Places A) → AllBelow high m → IsBare low high m → AllBelow low m
bare_less low high [] h bare = tt
bare_less {A} low high (e ∷ m) h bare = let tail = bare_tail low high e.0 e.1 m bare in (by tail.0, bare_less low high m h.1 tail.1)
  where
    by : (e.0 < low) ⊎ (high ≤ e.0) → e.0 < low
    by (inl under) = under
    by (inr over) = absurd (omega (arith, h.0, over))
