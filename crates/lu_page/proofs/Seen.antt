-- What is read page by page: a page's part of a map, and what is known of the map when some pages were looked at.
use Rattle.std.proofs.Common.{◌≡◌, ℕ, zero, suc, ◌+◌, ◌*◌, ◌^◌, ◌<◌, ◌≤◌, ◌⊎◌, inl, inr, max, Bool, true, false, cond, List, [], ◌∷◌, ◌++◌}
use Rattle.std.proofs.Common.{length, Option, Some, None, refl, sym, ap, ◌∙◌, subst, arith}
use Rattle.std.specs.Prelude.{nat_eq, nat_lt, nat_le, filter, ◌==◌, ◌&&◌, if◌then◌else◌, is_some, slice_get}
use Rattle.std.proofs.lemmas.Bool.Decides.{nat_tests}
use Rattle.lu_base.specs.declared.locks.Extent.{Extent}
use Rattle.lu_spec_machine.specs.Objects.{page_extent}
use Rattle.lu_spec_machine.specs.Places.{Places, RisingFrom, found_at, below, is_in, inside, end_of}
use Rattle.lu_spec_machine.proofs.Places.{in_parts, in_whole, found_inside, rising_inside}
use Rattle.lu_spec_bytes.specs.Maps.{AllBelow}
use Rattle.lu_spec_bytes.specs.Runs.{first_position}
use Rattle.lu_spec_bytes.proofs.Rising.{none_before, same_map, rising_filter, below_all}
use Rattle.lu_page.specs.Sheets.{Sheet}
use Rattle.lu_page.proofs.Maps.{rises_from, none_past, below_none, below_same, all_up_to, first_at, first_none, end_nowhere}
use Rattle.lu_page.specs.Pages.{joined, IsPage, PagesFrom, IsBare}
use Rattle.lu_page.proofs.Joined.{found_joined, joined_map, page_found, page_rises, page_below, all_two}
use Rattle.lu_page.proofs.Changed.{page_is}
use Rattle.lu_page.proofs.Steps.{in_page, out_page}
use Rattle.lu_page.proofs.Gaps.{first_before, nil_first, bare_tail, bare_less}

-- ---- a page's part

abbrev pub page_items : {A : Type 0} → Option (Sheet A) → Places A
page_items None = []
page_items (Some s) = s.here

pub items_found : {A : Type 0} (o : Option (Sheet A)) (p : ℕ) → page_found o p ≡ found_at (page_items o) p
items_found None p = refl
items_found (Some s) p = refl

pub page_inside : {A : Type 0} (k : ℕ) (o : Option (Sheet A)) (es : Places (Sheet A)) → PagesFrom 0 es → found_at es k ≡ o
    → inside (page_extent k) (joined es) ≡ page_items o
page_inside {A} k o es h is = same_map 0 (inside (page_extent k) (joined es)) (page_items o)
    (rising_filter 0 (λ (e : ℕ × A). is_in (page_extent k) e.0) (joined es) (joined_map es h)) (rises o is)
    (λ p low. found_inside (page_extent k) (joined es) p ∙ by p (is_in (page_extent k) p) refl)
  where
    rises : (o : Option (Sheet A)) → found_at es k ≡ o → RisingFrom 0 (page_items o)
    rises None is = tt
    rises (Some s) is = rises_from (k * 4096) 0 s.here (omega arith) (page_rises k s (page_is 0 k s es h is))

    beside : (p : ℕ) → is_in (page_extent k) p ≡ false → (o : Option (Sheet A)) → found_at es k ≡ o → (v w : Bool) → nat_lt p (k * 4096) ≡ v
        → nat_lt p ((k + 1) * 4096) ≡ w → None ≡ found_at (page_items o) p
    beside p out None is v w low high = refl
    beside p out (Some s) is true w low high = sym (none_before (k * 4096) p s.here (page_rises k s (page_is 0 k s es h is))
        (grind (arith, nat_tests)))
    beside p out (Some s) is false false low high = sym (none_past ((k + 1) * 4096) p s.here (page_below k s (page_is 0 k s es h is))
        (grind (arith, nat_tests)))
    beside p out (Some s) is false true low high = let here = in_page k p (grind (arith, nat_tests)) (grind (arith, nat_tests))
        in absurd (cc (here, out))

    by : (p : ℕ) (v : Bool) → is_in (page_extent k) p ≡ v → (if v then found_at (joined es) p else None) ≡ found_at (page_items o) p
    by p true here = let parts = in_parts (page_extent k) p here in let low = parts.0 in let high = parts.1
        in found_joined 0 k p es h low (omega (arith, high)) ∙ ap (λ o. page_found o p) is ∙ items_found o p
    by p false out = beside p out o is (nat_lt p (k * 4096)) (nat_lt p ((k + 1) * 4096)) refl refl

-- ---- pages looked at

nothing_either : {A : Type 0} (v : Bool) → ◌≡◌ {A = Option A} (if v then None else None) None
nothing_either true = refl
nothing_either false = refl

in_both : {A : Type 0} (extent : Extent) (k q : ℕ) (m : Places A) → is_in (page_extent k) q ≡ true
    → found_at (inside extent (inside (page_extent k) m)) q ≡ found_at (inside extent m) q
in_both extent k q m here = found_inside extent (inside (page_extent k) m) q
    ∙ ap (λ o. if is_in extent q then o else None) (found_inside (page_extent k) m q ∙ ap (λ v. if v then found_at m q else None) here)
    ∙ sym (found_inside extent m q)

-- before the range
pub bare_start : {A : Type 0} (extent : Extent) (n : ℕ) (m : Places A) → n ≤ extent.first → IsBare 0 n (inside extent m)
bare_start {A} extent n m less p low under = found_inside extent m p ∙ by (is_in extent p) refl
  where
    by : (v : Bool) → is_in extent p ≡ v → (if v then found_at m p else None) ≡ None
    by true here = let first = (in_parts extent p here).0 in absurd (omega (arith, first, under, less))
    by false out = refl

-- no page there
pub bare_skip : {A : Type 0} (extent : Extent) (n k : ℕ) (m : Places A) → IsBare 0 n (inside extent m) → IsBare n k m
    → IsBare 0 k (inside extent m)
bare_skip {A} extent n k m bare gap p low under = by (nat_lt p n) refl
  where
    by : (v : Bool) → nat_lt p n ≡ v → found_at (inside extent m) p ≡ None
    by true less = bare p low (grind (arith, nat_tests))
    by false less = found_inside extent m p ∙ ap (λ o. if is_in extent p then o else None) (gap p (grind (arith, nat_tests)) under)
        ∙ nothing_either (is_in extent p)

-- nothing in the page
pub bare_step : {A : Type 0} (extent : Extent) (k : ℕ) (m : Places A) → IsBare 0 (k * 4096) (inside extent m)
    → first_position (inside extent (inside (page_extent k) m)) ≡ None → IsBare 0 ((k + 1) * 4096) (inside extent m)
bare_step {A} extent k m bare none p low under = by (nat_lt p (k * 4096)) refl
  where
    by : (v : Bool) → nat_lt p (k * 4096) ≡ v → found_at (inside extent m) p ≡ None
    by true less = bare p low (grind (arith, nat_tests))
    by false less = sym (in_both extent k p m (in_page k p (grind (arith, nat_tests)) under))
        ∙ nil_first p (inside extent (inside (page_extent k) m)) none

pub inside_below : {A : Type 0} (extent : Extent) (n : ℕ) (m : Places A) → extent.last < n → AllBelow n (inside extent m)
inside_below extent n [] less = tt
inside_below {A} extent n (e ∷ m) less = by (is_in extent e.0) refl (inside_below extent n m less)
  where
    by : (v : Bool) → is_in extent e.0 ≡ v → AllBelow n (inside extent m) → AllBelow n (cond v (e ∷ inside extent m) (inside extent m))
    by true here rest = let last = (in_parts extent e.0 here).1 in (omega (arith, last, less), rest)
    by false here rest = rest

-- all pages looked at
pub bare_end : {A : Type 0} (extent : Extent) (n : ℕ) (m : Places A) → extent.last < n → IsBare 0 n (inside extent m)
    → first_position (inside extent m) ≡ None
bare_end extent n m less bare = first_none n (inside extent m) (λ q under. bare q (omega arith) under) (inside_below extent n m less)

first_stands : {A : Type 0} (p : ℕ) (m : Places A) → first_position m ≡ Some p → is_some (found_at m p) ≡ true
first_stands p [] first = absurd (cc)
first_stands {A} p (e ∷ m) first = by (nat_eq p e.0) refl
  where
    by : (v : Bool) → nat_eq p e.0 ≡ v → is_some (if v then Some e.1 else found_at m p) ≡ true
    by true here = refl
    by false here = absurd (other e.0 first here)
      where
        other : (q : ℕ) → Some q ≡ Some p → nat_eq p q ≡ false → ⊥
        other q same apart = let is : q ≡ p = cc in absurd (grind (arith, nat_tests))

stands_in : {A : Type 0} (extent : Extent) (k p : ℕ) (m : Places A) → is_some (found_at (inside extent (inside (page_extent k) m)) p) ≡ true
    → is_in (page_extent k) p ≡ true
stands_in {A} extent k p m is = by (is_in (page_extent k) p) refl
  where
    by : (v : Bool) → is_in (page_extent k) p ≡ v → v ≡ true
    by true here = refl
    by false out =
        let none : found_at (inside extent (inside (page_extent k) m)) p ≡ None = found_inside extent (inside (page_extent k) m) p
        ∙ ap (λ o. if is_in extent p then o else None) (found_inside (page_extent k) m p
        ∙ ap (λ v. if v then found_at m p else None) out) ∙ nothing_either (is_in extent p) in
        absurd (cc (sym (ap is_some none) ∙ is))

-- the first of the first page that has one
pub first_through : {A : Type 0} (extent : Extent) (k p : ℕ) (m : Places A) → RisingFrom 0 m → IsBare 0 (k * 4096) (inside extent m)
    → first_position (inside extent (inside (page_extent k) m)) ≡ Some p → first_position (inside extent m) ≡ Some p
first_through {A} extent k p m h bare first =
    let stands : is_some (found_at (inside extent (inside (page_extent k) m)) p) ≡ true =
    first_stands p (inside extent (inside (page_extent k) m)) first in
    let here : is_in (page_extent k) p ≡ true = stands_in extent k p m stands in
    first_at 0 p (inside extent m) (rising_filter 0 (λ (e : ℕ × A). is_in extent e.0) m h)
    (λ q under. by here q under (nat_lt q (k * 4096)) refl) (ap is_some (sym (in_both extent k p m here)) ∙ stands)
  where
    by : is_in (page_extent k) p ≡ true → (q : ℕ) → q < p → (v : Bool) → nat_lt q (k * 4096) ≡ v → found_at (inside extent m) q ≡ None
    by here q under true less = bare q (omega arith) (grind (arith, nat_tests))
    by here q under false less =
        let high = (in_parts (page_extent k) p here).1 in
        let low : k * 4096 ≤ q = grind (arith, nat_tests) in
        sym (in_both extent k q m (in_page k q low (omega (arith, under, high))))
        ∙ first_before 0 p q (inside extent (inside (page_extent k) m))
        (rising_filter 0 (λ (e : ℕ × A). is_in extent e.0) (inside (page_extent k) m)
        (rising_filter 0 (λ (e : ℕ × A). is_in (page_extent k) e.0) m h)) first under

-- ---- counts and ends

filter_alike : {A : Type 0} (f g : ℕ → Bool) (n : ℕ) (m : Places A) → RisingFrom n m → ((p : ℕ) → n ≤ p → f p ≡ g p)
    → filter (λ (e : ℕ × A). f e.0) m ≡ filter (λ (e : ℕ × A). g e.0) m
filter_alike f g n [] h same = refl
filter_alike {A} f g n (e ∷ m) h same = ap (λ v. cond v (e ∷ filter (λ (e : ℕ × A). f e.0) m) (filter (λ (e : ℕ × A). f e.0) m))
    (same e.0 h.0) ∙ ap (λ r. cond (g e.0) (e ∷ r) r) (filter_alike f g (e.0 + 1) m h.1 (λ p low. same p (omega (arith, low, h.0))))

filter_swap : {A : Type 0} (f g : ℕ × A → Bool) (m : Places A) → filter f (filter g m) ≡ filter g (filter f m)
filter_swap f g [] = refl
filter_swap {A} f g (e ∷ m) = by (f e) (g e) refl refl (filter_swap f g m)
  where
    by : (u v : Bool) → f e ≡ u → g e ≡ v → filter f (filter g m) ≡ filter g (filter f m) → filter f (cond v (e ∷ filter g m) (filter g m))
        ≡ filter g (cond u (e ∷ filter f m) (filter f m))
    by true true is_f is_g rest = ap (λ w. cond w (e ∷ filter f (filter g m)) (filter f (filter g m))) is_f ∙ ap (λ r. e ∷ r) rest
        ∙ sym (ap (λ w. cond w (e ∷ filter g (filter f m)) (filter g (filter f m))) is_g)
    by true false is_f is_g rest = rest ∙ sym (ap (λ w. cond w (e ∷ filter g (filter f m)) (filter g (filter f m))) is_g)
    by false true is_f is_g rest = ap (λ w. cond w (e ∷ filter f (filter g m)) (filter f (filter g m))) is_f ∙ rest
    by false false is_f is_g rest = rest

below_page : {A : Type 0} (n k : ℕ) (m : Places A) → RisingFrom n m → below ((k + 1) * 4096) m ≡ below (k * 4096) m
    ++ inside (page_extent k) m
below_page n k [] h = refl
below_page {A} n k (e ∷ m) h = by (nat_lt e.0 (k * 4096)) refl (below_page (e.0 + 1) k m h.1)
  where
    by : (v : Bool) → nat_lt e.0 (k * 4096) ≡ v → below ((k + 1) * 4096) m ≡ below (k * 4096) m ++ inside (page_extent k) m
        → below ((k + 1) * 4096) (e ∷ m) ≡ cond v (e ∷ below (k * 4096) m) (below (k * 4096) m) ++ inside (page_extent k) (e ∷ m)
    by true here rest =
        let less : e.0 < k * 4096 = grind (arith, nat_tests) in
        let one : nat_lt e.0 ((k + 1) * 4096) ≡ true = grind (arith, nat_tests) in
        ap (λ w. cond w (e ∷ below ((k + 1) * 4096) m) (below ((k + 1) * 4096) m)) one ∙ ap (λ r. e ∷ r) rest
        ∙ ap (λ r. e ∷ (below (k * 4096) m ++ r)) (sym (ap (λ w. cond w (e ∷ inside (page_extent k) m) (inside (page_extent k) m))
        (out_page k e.0 (inl less))))
    by false here rest =
        let over : k * 4096 ≤ e.0 = grind (arith, nat_tests) in
        let rises : RisingFrom (k * 4096) (e ∷ m) = (over, h.1) in
        filter_alike (λ p. nat_lt p ((k + 1) * 4096)) (is_in (page_extent k)) (k * 4096) (e ∷ m) rises
        (λ p low. same p low (nat_lt p ((k + 1) * 4096)) refl)
        ∙ ap (λ r. r ++ inside (page_extent k) (e ∷ m)) (sym (below_none (k * 4096) (e.0 + 1) m h.1 (omega (arith, over))))
      where
        same : (p : ℕ) → k * 4096 ≤ p → (v : Bool) → nat_lt p ((k + 1) * 4096) ≡ v → v ≡ is_in (page_extent k) p
        same p low true less = sym (in_page k p low (grind (arith, nat_tests)))
        same p low false less = sym (out_page k p (inr (grind (arith, nat_tests))))

below_bare : {A : Type 0} (n low high : ℕ) (m : Places A) → RisingFrom n m → low ≤ high → IsBare low high m → below high m ≡ below low m
below_bare n low high [] h less bare = refl
below_bare {A} n low high (e ∷ m) h less bare = by (bare_tail low high e.0 e.1 m bare).0
    (below_bare (e.0 + 1) low high m h.1 less (bare_tail low high e.0 e.1 m bare).1)
  where
    by : (e.0 < low) ⊎ (high ≤ e.0) → below high m ≡ below low m → below high (e ∷ m) ≡ below low (e ∷ m)
    by (inl under) rest =
        let one : nat_lt e.0 high ≡ true = grind (arith, nat_tests) in
        let two : nat_lt e.0 low ≡ true = grind (arith, nat_tests) in
        rw (one, two) (ap (λ r. e ∷ r) rest)
    by (inr over) rest =
        let one : nat_lt e.0 high ≡ false = grind (arith, nat_tests) in
        let two : nat_lt e.0 low ≡ false = grind (arith, nat_tests) in
        rw (one, two) rest

bare_inside : {A : Type 0} (extent : Extent) (low high : ℕ) (m : Places A) → IsBare low high m → IsBare low high (inside extent m)
bare_inside extent low high m bare p over under = found_inside extent m p ∙ ap (λ o. if is_in extent p then o else None) (bare p over under)
    ∙ nothing_either (is_in extent p)

-- one page more
pub below_next : {A : Type 0} (extent : Extent) (n k : ℕ) (m : Places A) → RisingFrom 0 m → n ≤ k * 4096 → IsBare n (k * 4096) m
    → below ((k + 1) * 4096) (inside extent m) ≡ below n (inside extent m) ++ inside extent (inside (page_extent k) m)
below_next {A} extent n k m h less bare =
    let rises : RisingFrom 0 (inside extent m) = rising_filter 0 (λ (e : ℕ × A). is_in extent e.0) m h in
    below_page 0 k (inside extent m) rises
    ∙ ap (λ r. r ++ inside (page_extent k) (inside extent m)) (below_bare 0 n (k * 4096) (inside extent m) rises less
    (bare_inside extent n (k * 4096) m bare))
    ∙ ap (λ r. below n (inside extent m) ++ r) (filter_swap (λ (e : ℕ × A). is_in (page_extent k) e.0) (λ (e : ℕ × A). is_in extent e.0) m)

pub below_last : {A : Type 0} (extent : Extent) (n k : ℕ) (m : Places A) → RisingFrom 0 m → n ≤ k → IsBare n k m → below k (inside extent m)
    ≡ below n (inside extent m)
below_last {A} extent n k m h less bare = below_bare 0 n k (inside extent m) (rising_filter 0 (λ (e : ℕ × A). is_in extent e.0) m h) less
    (bare_inside extent n k m bare)

pub end_two : {A : Type 0} (a b : Places A) → end_of (a ++ b) ≡ max (end_of a) (end_of b)
end_two [] b = omega arith
end_two (e ∷ a) b = let rest = end_two a b in omega (arith, rest)

pub length_fits : {A : Type 0} (n k : ℕ) (m : Places A) → RisingFrom n m → AllBelow k m → n ≤ k → n + length m ≤ k
length_fits n k [] h all less = omega (arith, less)
length_fits n k (e ∷ m) h all less = let rest = length_fits (e.0 + 1) k m h.1 all.1 (omega (arith, all.0)) in omega (arith, rest, h.0)

-- ---- the last page

pub whole_inside : {A : Type 0} (last : ℕ) (m : Places A) → AllBelow (2 ^ 62) m → 2 ^ 62 ≤ last
    → inside (record { first = 0; last = last }) m ≡ m
whole_inside last [] h less = refl
whole_inside {A} last (e ∷ m) h less = ap (λ v. cond v (e ∷ inside (record { first = 0; last = last }) m)
    (inside (record { first = 0; last = last }) m)) (in_whole (record { first = 0; last = last }) e.0 (omega arith)
    (omega (arith, h.0, less))) ∙ ap (λ r. e ∷ r) (whole_inside last m h.1 less)

end_below : {A : Type 0} (k : ℕ) (m : Places A) → AllBelow k m → end_of m ≤ k
end_below k [] h = omega arith
end_below k (e ∷ m) h = let rest = end_below k m h.1 in omega (arith, rest, h.0)

end_over : {A : Type 0} (n : ℕ) (m : Places A) → RisingFrom n m → 0 < end_of m → n < end_of m
end_over n [] h some = absurd (omega (arith, some))
end_over n (e ∷ m) h some = omega (arith, h.0)

pub end_page : {A : Type 0} (k : ℕ) (m : Places A) → RisingFrom 0 m → AllBelow ((k + 1) * 4096) m → 0 < end_of (inside (page_extent k) m)
    → end_of m ≡ end_of (inside (page_extent k) m)
end_page k m h all some =
    let parts : m ≡ below (k * 4096) m ++ inside (page_extent k) m = sym (below_same ((k + 1) * 4096) ((k + 1) * 4096) m all (omega arith))
    ∙ below_page 0 k m h in
    let first = end_below (k * 4096) (below (k * 4096) m) (below_all (k * 4096) (k * 4096) m (omega arith)) in
    let over = end_over (page_extent k).first (inside (page_extent k) m) (rising_inside 0 (page_extent k) m h) some in
    let both = end_two (below (k * 4096) m) (inside (page_extent k) m) in
    ap end_of parts ∙ omega (arith, both, first, over)

-- ---- the end of a range, from the last page down

pub less_gap : {A : Type 0} (extent : Extent) (low high : ℕ) (m : Places A) → AllBelow high (inside extent m) → IsBare low high m
    → AllBelow low (inside extent m)
less_gap extent low high m all bare = bare_less low high (inside extent m) all (bare_inside extent low high m bare)

swapped : {A : Type 0} (extent : Extent) (k : ℕ) (m : Places A) → inside (page_extent k) (inside extent m)
    ≡ inside extent (inside (page_extent k) m)
swapped {A} extent k m = filter_swap (λ (e : ℕ × A). is_in (page_extent k) e.0) (λ (e : ℕ × A). is_in extent e.0) m

no_end : {A : Type 0} (m : Places A) → end_of m ≡ 0 → m ≡ []
no_end [] none = refl
no_end (e ∷ m) none = absurd (omega (arith, none))

-- nothing in the page
pub less_page : {A : Type 0} (extent : Extent) (k : ℕ) (m : Places A) → RisingFrom 0 m → AllBelow ((k + 1) * 4096) (inside extent m)
    → end_of (inside extent (inside (page_extent k) m)) ≡ 0 → AllBelow (k * 4096) (inside extent m)
less_page {A} extent k m h all none =
    let rises : RisingFrom 0 (inside extent m) = rising_filter 0 (λ (e : ℕ × A). is_in extent e.0) m h in
    let parts : inside extent m ≡ below (k * 4096) (inside extent m) ++ [] =
    sym (below_same ((k + 1) * 4096) ((k + 1) * 4096) (inside extent m) all (omega arith)) ∙ below_page 0 k (inside extent m) rises
    ∙ ap (λ r. below (k * 4096) (inside extent m) ++ r) (swapped extent k m ∙ no_end (inside extent (inside (page_extent k) m)) none) in
    subst (λ l. AllBelow (k * 4096) l) (sym parts) (all_two (k * 4096) (below (k * 4096) (inside extent m)) []
    (below_all (k * 4096) (k * 4096) (inside extent m) (omega arith)) tt)

-- something in the page
pub end_there : {A : Type 0} (extent : Extent) (k : ℕ) (m : Places A) → RisingFrom 0 m → AllBelow ((k + 1) * 4096) (inside extent m)
    → 0 < end_of (inside extent (inside (page_extent k) m)) → end_of (inside extent m) ≡ end_of (inside extent (inside (page_extent k) m))
end_there {A} extent k m h all some =
    let rises : RisingFrom 0 (inside extent m) = rising_filter 0 (λ (e : ℕ × A). is_in extent e.0) m h in
    let same = ap end_of (swapped extent k m) in
    end_page k (inside extent m) rises all (omega (arith, some, same)) ∙ same

-- no page more
pub end_gone : {A : Type 0} (extent : Extent) (n high : ℕ) (m : Places A) → RisingFrom 0 m → n ≤ extent.first
    → AllBelow high (inside extent m) → IsBare n high m → end_of (inside extent m) ≡ 0
end_gone {A} extent n high m h low all bare = end_nowhere n (inside extent m)
    (rises_from extent.first n (inside extent m) low (rising_inside 0 extent m h)) (less_gap extent n high m all bare)
