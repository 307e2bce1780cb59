-- The layout of a new file.
use Rattle.std.proofs.Common.{◌≡◌, ℕ, zero, suc, ◌+◌, ◌-◌, ◌%◌, ◌<◌, ◌≤◌, ◌⊎◌, inl, inr, Bool, true, false, Some, None, refl, sym, ap}
use Rattle.std.proofs.Common.{subst, ◌∙◌, arith, ℤ, pos, negsuc, length}
use Rattle.std.specs.Prelude.{slice_index, if◌then◌else◌}
use Rattle.std.proofs.Math.Nat.{add-mod, mod-eq_of_lt, mod-eq-sub-mod}
use Rattle.std.proofs.lemmas.Bool.Decides.{nat_tests}
use Rattle.std.proofs.lemmas.List.FromFn.{length-map-range_with_len, get_or-map-range_with_len}
use Rattle.lu_base.specs.declared.ids.Txn.{Txn}
use Rattle.lu_layout.specs.Raid0.{Raid0}
use Rattle.lu_layout.specs.Sound.{IsLayout, AreDistinct}
use Rattle.lu_spec_machine.specs.Striping.{stripe_size, stripe_count, is_bad, stripe_targets}
use Rattle.lu_spec_machine.specs.Laws.{NewLayouts}

-- i steps on from r, round a circle of n
turned : (r i n : ℕ) → r < n → i < n → (((r + i) % n ≡ r + i) × (r + i < n)) ⊎ (((r + i) % n ≡ r + i - n) × (n ≤ r + i))
turned r i n a b = by (split (r + i) n)
  where
    split : (x n : ℕ) → (x < n) ⊎ (n ≤ x)
    split x n = grind arith

    by : (r + i < n) ⊎ (n ≤ r + i) → (((r + i) % n ≡ r + i) × (r + i < n)) ⊎ (((r + i) % n ≡ r + i - n) × (n ≤ r + i))
    by (inl l) = inl (mod-eq_of_lt l, l)
    by (inr l) = let s : r + i - n < n = omega arith in inr (mod-eq-sub-mod l ∙ mod-eq_of_lt s, l)

-- two places less than a whole turn apart differ
apart : (a i j n : ℕ) → i < n → j < n → (a + i) % n ≡ (a + j) % n → i ≡ j
apart a i j n p q e = by (turned (a % n) i n below p) (turned (a % n) j n below q)
  where
    below : a % n < n
    below = omega arith

    shift : (k : ℕ) → k < n → (a + k) % n ≡ (a % n + k) % n
    shift k l = add-mod a k n ∙ ap (λ m. (a % n + m) % n) (mod-eq_of_lt l)

    same : (a % n + i) % n ≡ (a % n + j) % n
    same = sym (shift i p) ∙ e ∙ shift j q

    by : (((a % n + i) % n ≡ a % n + i) × (a % n + i < n)) ⊎ (((a % n + i) % n ≡ a % n + i - n) × (n ≤ a % n + i))
        → (((a % n + j) % n ≡ a % n + j) × (a % n + j < n)) ⊎ (((a % n + j) % n ≡ a % n + j - n) × (n ≤ a % n + j)) → i ≡ j
    by (inl x) (inl y) = omega (arith, x.0, y.0, same)
    by (inl x) (inr y) = omega (arith, x.0, y.0, same)
    by (inr x) (inl y) = omega (arith, x.0, y.0, same)
    by (inr x) (inr y) = omega (arith, x.0, y.0, same)

place_of : (osts : ℕ) (number : Txn) (count i : ℕ) → i < count → slice_index (stripe_targets osts number count) i
    ≡ 1 + (number.0 % 4294967296 + i) % osts
place_of osts number count i l = get_or-map-range_with_len (λ i. 1 + (number.0 % 4294967296 + i) % osts) 0 count i i 0 l (omega arith)

distinct : (osts : ℕ) (number : Txn) (count : ℕ) → count ≤ osts → AreDistinct (stripe_targets osts number count)
distinct osts number count le i j p q e =
    let n : length (stripe_targets osts number count) ≡ count =
    length-map-range_with_len (λ i. 1 + (number.0 % 4294967296 + i) % osts) 0 count in
    let a : i < count = omega (arith, n) in
    let b : j < count = omega (arith, n) in
    let f = sym (place_of osts number count i a) ∙ e ∙ place_of osts number count j b in
    apart (number.0 % 4294967296) i j osts (omega arith) (omega arith) (less f)
  where
    less : {x y : ℕ} → 1 + x ≡ 1 + y → x ≡ y
    less h = omega (arith, h)

size_some : (size : ℕ) → 0 < stripe_size size
size_some zero = omega arith
size_some (suc n) = omega arith

count_some : (osts : ℕ) (count : ℤ) → 0 < osts → 0 < stripe_count osts count
count_some osts (pos zero) h = omega arith
count_some osts (pos (suc n)) h = omega arith
count_some osts (negsuc n) h = h

-- what a layout that isn't bad keeps
good : (osts size count : ℕ) → is_bad osts size count ≡ false → (size % 65536 ≡ 0) × (size ≤ 4294901760) × (count ≤ osts)
good osts size count h = (grind (arith, nat_tests, h), grind (arith, nat_tests, h), grind (arith, nat_tests, h))

abbrev Facts : ℕ → Txn → ℕ → ℕ → Raid0 → Type 0
Facts osts number size count l =
    record {
      size : l.size ≡ size;
      stripes : length l.targets ≡ count;
      places : (i : ℕ) → i < length l.targets → slice_index l.targets i ≡ 1 + (number.0 % 4294967296 + i) % osts;
      sound : 0 < osts → osts ≤ 8 → IsLayout l;
    }

facts : (osts : ℕ) (number : Txn) (size count : ℕ) → 0 < size → (0 < osts → 0 < count) → is_bad osts size count ≡ false
    → Facts osts number size count (record { size = size; targets = stripe_targets osts number count })
facts osts number size count some more h =
    let g = good osts size count h in
    let n : length (stripe_targets osts number count) ≡ count =
    length-map-range_with_len (λ i. 1 + (number.0 % 4294967296 + i) % osts) 0 count in
    record {
      size = refl;
      stripes = n;
      places = λ i l. place_of osts number count i (omega (arith, n));
      sound = λ one most. let m : 0 < count = more one in record
          { size = (some, g.0, g.1); targets = (omega (arith, n), omega (arith, n, g.2), distinct osts number count g.2) };
    }

pub new_layouts : NewLayouts
new_layouts osts number size count l is = by (is_bad osts (stripe_size size) (stripe_count osts count)) refl is
  where
    layout : Raid0
    layout = record { size = stripe_size size; targets = stripe_targets osts number (stripe_count osts count) }

    by : (v : Bool) → is_bad osts (stripe_size size) (stripe_count osts count) ≡ v → (if v then None else Some layout) ≡ Some l
        → Facts osts number (stripe_size size) (stripe_count osts count) l
    by true e h = absurd (cc)
    by false e h =
        let k : layout ≡ l = cc in
        subst (λ x. Facts osts number (stripe_size size) (stripe_count osts count) x) k
        (facts osts number (stripe_size size) (stripe_count osts count) (size_some size) (count_some osts count) e)
