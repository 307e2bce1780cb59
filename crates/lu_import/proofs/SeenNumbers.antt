-- Numbers that are added to a set and taken out again, and what is taken from the front of a rising list.
use Rattle.std.proofs.Common.{Ordering, ◌≡◌, ℕ, zero, suc, ◌+◌, ◌<◌, ◌==◌, ◌||◌, Bool, true, false, cond, nat_lt, if◌then◌else◌, List, []}
use Rattle.std.proofs.Common.{◌∷◌, ◌++◌, length, filter, get_or, refl, sym, ap, ◌∙◌, arith}
use Rattle.std.specs.Prelude.{All, AllPairs, IsSome, IfSome, nat_le, ◌↔◌}
use Rattle.std.specs.List.{list_any}
use Rattle.std.specs.Ordering.{nat_cmp, match_ordering}
use Rattle.std.specs.BTreeMap.{is_at}
use Rattle.std.specs.BTreeSet.{insert_key}
use Rattle.std.specs.Set.{remove_key}
use Rattle.std.proofs.lemmas.Bool.Decides.{nat_tests}
use Rattle.std.proofs.lemmas.List.Elements.{All-same, filter_passes}
use Rattle.lu_import.specs.Kept.{with_number}
use Rattle.lu_import.specs.Adding.{undone, starts_by}

-- ---- a number in its place

step : {A : Type 0} (n m : ℕ) (less equal more : A) → match_ordering (nat_cmp n m) less equal more
    ≡ (if nat_lt m n then more else if m == n then equal else less)
step n m less equal more = grind (arith, nat_tests)

pub insert_is : (n : ℕ) (seen : List ℕ) → insert_key nat_cmp seen n ≡ with_number n seen
insert_is n [] = refl
insert_is n (m ∷ seen) =
    step n m (n ∷ m ∷ seen) (m ∷ seen) (m ∷ insert_key nat_cmp seen n)
    ∙ ap (λ rest. if nat_lt m n then m ∷ rest else if m == n then m ∷ seen else n ∷ m ∷ seen) (insert_is n seen)

-- ---- and out again

at_self : (n : ℕ) → is_at (nat_cmp n) n ≡ true
at_self n = grind (arith, nat_tests)

at_equal : (n m : ℕ) → (m == n) ≡ true → is_at (nat_cmp n) m ≡ true
at_equal n m same = grind (arith, nat_tests)

pub out_again : (n : ℕ) (seen : List ℕ) → list_any (is_at (nat_cmp n)) seen ≡ false → remove_key (is_at (nat_cmp n)) (with_number n seen)
    ≡ seen
out_again n [] new = rw (at_self n) refl
out_again n (m ∷ seen) new = by (nat_lt m n) (m == n) refl (is_at (nat_cmp n) m) refl new (out_again n seen) where
  by : (below same : Bool) → (m == n) ≡ same → (here : Bool) → is_at (nat_cmp n) m ≡ here → (here || list_any (is_at (nat_cmp n)) seen)
      ≡ false
      → (list_any (is_at (nat_cmp n)) seen ≡ false → remove_key (is_at (nat_cmp n)) (with_number n seen) ≡ seen)
      → remove_key (is_at (nat_cmp n)) (if below then m ∷ with_number n seen else if same then m ∷ seen else n ∷ m ∷ seen) ≡ m ∷ seen
  by below same s true h new rest = absurd (cc)
  by true same s false h new rest = rw h (ap (λ more. m ∷ more) (rest new))
  by false true s false h new rest = absurd (let t : is_at (nat_cmp n) m ≡ true = at_equal n m s in cc)
  by false false s false h new rest = rw (at_self n) refl

pub undone_last : (added : List ℕ) (n : ℕ) (seen : List ℕ) → undone (added ++ n ∷ []) seen
    ≡ undone added (remove_key (is_at (nat_cmp n)) seen)
undone_last [] n seen = refl
undone_last (m ∷ added) n seen = ap (remove_key (is_at (nat_cmp m))) (undone_last added n seen)

-- a new number that was added last goes first
pub undone_new : (added : List ℕ) (n : ℕ) (seen : List ℕ) → list_any (is_at (nat_cmp n)) seen ≡ false
    → undone (added ++ n ∷ []) (with_number n seen) ≡ undone added seen
undone_new added n seen new = undone_last added n (with_number n seen) ∙ ap (undone added) (out_again n seen new)

-- ---- from the front of a rising list

filter_all : {A : Type 0} (p : A → Bool) (xs : List A) → All (λ x. p x ≡ true) xs → filter p xs ≡ xs
filter_all p [] all = refl
filter_all p (x ∷ xs) all = rw (all 0 x (omega arith)) (ap (λ rest. x ∷ rest) (filter_all p xs (λ k d within. all (suc k) d (omega arith))))

module _ {A : Type 0} (key : A → ℕ) where
  above : (n m : ℕ) → n < m → nat_lt n m ≡ true
  above n m less = grind (arith, nat_tests)

  past : (n m : ℕ) → nat_le m n ≡ false → n < m
  past n m not = grind (arith, nat_tests)

  within : (n m : ℕ) → nat_le m n ≡ true → nat_lt n m ≡ false
  within n m at = grind (arith, nat_tests)

  -- where the first is above a number, all are
  pub stays : (n : ℕ) (xs : List A) → AllPairs (λ earlier later. key earlier < key later) xs → starts_by key n xs ≡ false
      → filter (λ x. nat_lt n (key x)) xs ≡ xs
  stays n [] rising starts = refl
  stays n (x ∷ xs) rising starts = filter_all (λ y. nat_lt n (key y)) (x ∷ xs) all where
    all : All (λ y. nat_lt n (key y) ≡ true) (x ∷ xs)
    all zero d inside = above n (key x) (past n (key x) starts)
    all (suc k) d inside =
        let first : n < key x = past n (key x) starts in
        let later : key x < key (get_or xs k d) = rising 0 (suc k) d (omega arith) inside in
        above n (key (get_or xs k d)) (omega arith)

  -- a first that is at or below the number goes
  pub drops : (n : ℕ) (old new : List A) (x : A) → starts_by key n old ≡ true → old ≡ x ∷ new → filter (λ y. nat_lt n (key y)) new
      ≡ filter (λ y. nat_lt n (key y)) old
  drops n [] new x starts first = absurd (cc)
  drops n (y ∷ old) new x starts first =
      let rest : old ≡ new = cc in
      rw (within n (key y) starts) (ap (filter (λ y. nat_lt n (key y))) (sym rest))

  passed : (n m : ℕ) → nat_lt n m ≡ true → n < m
  passed n m test = grind (arith, nat_tests)

  -- what is left is above the number
  pub left_above : (n : ℕ) (xs left : List A) → left ≡ filter (λ x. nat_lt n (key x)) xs → All (λ x. n < key x) left
  left_above n xs left is =
      All-same (λ x. n < key x) left (filter (λ x. nat_lt n (key x)) xs) is
      (λ k d inside. passed n (key (get_or (filter (λ x. nat_lt n (key x)) xs) k d)) (filter_passes (λ x. nat_lt n (key x)) xs k d inside))
