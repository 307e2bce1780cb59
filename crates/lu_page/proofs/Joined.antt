-- What stands in pages: where it stands, how it is found, and what a change of one page makes of it.
use Rattle.std.proofs.Common.{◌≡◌, ℕ, zero, suc, ◌+◌, ◌*◌, ◌/◌, ◌^◌, ◌<◌, ◌≤◌, Bool, true, false, cond, List, [], ◌∷◌, ◌++◌, length, Option}
use Rattle.std.proofs.Common.{Some, None, refl, sym, ap, ◌∙◌, subst, arith, append_assoc}
use Rattle.std.specs.Prelude.{nat_eq, nat_lt, nat_le, filter, ◌==◌, ◌&&◌, if◌then◌else◌, IsSome, is_some}
use Rattle.std.specs.Map.{lookup, set_value, remove_entry}
use Rattle.std.specs.Ordering.{nat_cmp, match_ordering}
use Rattle.std.specs.declared.cmp.Ordering.{Ordering}
use Rattle.std.specs.declared.cmp.Ordering.TheVariants.{Less, Equal, Greater}
use Rattle.std.specs.BTreeMap.{insert_entry, is_at}
use Rattle.std.proofs.lemmas.List.{append-nil}
use Rattle.std.proofs.lemmas.Bool.Decides.{nat_tests}
use Rattle.lu_base.specs.declared.locks.Extent.{Extent}
use Rattle.lu_spec_machine.specs.Objects.{page_extent}
use Rattle.lu_spec_machine.specs.Places.{Places, RisingFrom, found_at, below, from, placed, laid, is_in, inside}
use Rattle.lu_spec_machine.proofs.Places.{or_else, found_on, in_parts, found_inside}
use Rattle.lu_spec_bytes.specs.Maps.{AllBelow}
use Rattle.lu_spec_bytes.proofs.Rising.{none_before, same_map, rising_filter}
use Rattle.lu_page.specs.Edits.{with_item, edited, in_range}
use Rattle.lu_page.specs.Sheets.{Sheet, IsSheet}
use Rattle.lu_page.proofs.Maps.{rises_from, all_up_to, none_past, below_none, below_same}
use Rattle.lu_page.specs.Pages.{joined, IsPage, PagesFrom, IsBare}

-- ---- two maps, one behind the other

pub rising_two : {A : Type 0} (n k : ℕ) (a b : Places A) → n ≤ k → RisingFrom n a → AllBelow k a → RisingFrom k b → RisingFrom n (a ++ b)
rising_two n k [] b less h all g = rises_from k n b less g
rising_two n k (e ∷ a) b less h all g = (h.0, rising_two (e.0 + 1) k a b (omega (arith, all.0)) h.1 all.1 g)

pub all_two : {A : Type 0} (k : ℕ) (a b : Places A) → AllBelow k a → AllBelow k b → AllBelow k (a ++ b)
all_two k [] b h g = g
all_two k (e ∷ a) b h g = (h.0, all_two k a b h.1 g)

pub filter_two : {A : Type 0} (test : ℕ × A → Bool) (a b : Places A) → filter test (a ++ b) ≡ filter test a ++ filter test b
filter_two test [] b = refl
filter_two {A} test (e ∷ a) b = by (test e) (filter_two test a b)
  where
    by : (v : Bool) → filter test (a ++ b) ≡ filter test a ++ filter test b → cond v (e ∷ filter test (a ++ b)) (filter test (a ++ b))
        ≡ cond v (e ∷ filter test a) (filter test a) ++ filter test b
    by true rest = ap (λ more. e ∷ more) rest
    by false rest = rest

from_all : {A : Type 0} (k n : ℕ) (m : Places A) → RisingFrom n m → k ≤ n → from k m ≡ m
from_all k n [] h less = refl
from_all k n (e ∷ m) h less = let here : nat_le k e.0 ≡ true = grind (arith, nat_tests, h.0)
    in rw here (ap (λ more. e ∷ more) (from_all k (e.0 + 1) m h.1 (omega (arith, h.0, less))))

from_none : {A : Type 0} (k n : ℕ) (m : Places A) → AllBelow k m → k ≤ n → from n m ≡ []
from_none k n [] h less = refl
from_none k n (e ∷ m) h less = let here : nat_le n e.0 ≡ false = grind (arith, nat_tests, h.0) in rw here (from_none k n m h.1 less)

-- laid in the first, or in the second
pub laid_first : {A : Type 0} (at k : ℕ) (xs : List A) (a b : Places A) → RisingFrom k b → at + length xs ≤ k → laid at xs (a ++ b)
    ≡ laid at xs a ++ b
laid_first {A} at k xs a b h less =
    let low : below at (a ++ b) ≡ below at a = filter_two (λ (e : ℕ × A). nat_lt e.0 at) a b
    ∙ ap (λ m. below at a ++ m) (below_none at k b h (omega (arith, less))) ∙ append-nil (below at a) in
    let high : from (at + length xs) (a ++ b) ≡ from (at + length xs) a ++ b = filter_two (λ (e : ℕ × A). nat_le (at + length xs) e.0) a b
    ∙ ap (λ m. from (at + length xs) a ++ m) (from_all (at + length xs) k b h less) in
    ap (λ m. m ++ (placed at xs ++ from (at + length xs) (a ++ b))) low
    ∙ ap (λ m. below at a ++ (placed at xs ++ m)) high
    ∙ ap (λ m. below at a ++ m) (sym (append_assoc (placed at xs) (from (at + length xs) a) b))
    ∙ sym (append_assoc (below at a) (placed at xs ++ from (at + length xs) a) b)

pub laid_second : {A : Type 0} (at k : ℕ) (xs : List A) (a b : Places A) → AllBelow k a → k ≤ at → laid at xs (a ++ b) ≡ a ++ laid at xs b
laid_second {A} at k xs a b h less =
    let low : below at (a ++ b) ≡ a ++ below at b = filter_two (λ (e : ℕ × A). nat_lt e.0 at) a b
    ∙ ap (λ m. m ++ below at b) (below_same k at a h less) in
    let high : from (at + length xs) (a ++ b) ≡ from (at + length xs) b = filter_two (λ (e : ℕ × A). nat_le (at + length xs) e.0) a b
    ∙ ap (λ m. m ++ from (at + length xs) b) (from_none k (at + length xs) a h (omega (arith, less))) in
    ap (λ m. m ++ (placed at xs ++ from (at + length xs) (a ++ b))) low
    ∙ ap (λ m. (a ++ below at b) ++ (placed at xs ++ m)) high
    ∙ append_assoc a (below at b) (placed at xs ++ from (at + length xs) b)

-- ---- where it stands

pub pages_rise : {A : Type 0} (n : ℕ) (es : Places (Sheet A)) → PagesFrom n es → RisingFrom n es
pages_rise n [] h = tt
pages_rise n (e ∷ es) h = (h.0, pages_rise (e.0 + 1) es h.2)

pub pages_from : {A : Type 0} (n k : ℕ) (es : Places (Sheet A)) → k ≤ n → PagesFrom n es → PagesFrom k es
pages_from n k [] less h = tt
pages_from n k (e ∷ es) less h = (omega (arith, less, h.0), h.1, h.2)

pub page_rises : {A : Type 0} (k : ℕ) (s : Sheet A) → IsPage k s → RisingFrom (k * 4096) s.here
page_rises k s h = subst (λ q. RisingFrom q s.here) h.first h.sheet.rising

pub page_below : {A : Type 0} (k : ℕ) (s : Sheet A) → IsPage k s → AllBelow ((k + 1) * 4096) s.here
page_below k s h = all_up_to (s.first + 4096) ((k + 1) * 4096) s.here (omega (arith, h.first)) h.sheet.below

pub joined_rises : {A : Type 0} (n : ℕ) (es : Places (Sheet A)) → PagesFrom n es → RisingFrom (n * 4096) (joined es)
joined_rises n [] h = tt
joined_rises n (e ∷ es) h = rising_two (n * 4096) ((e.0 + 1) * 4096) e.1.here (joined es) (omega (arith, h.0))
    (rises_from (e.0 * 4096) (n * 4096) e.1.here (omega (arith, h.0)) (page_rises e.0 e.1 h.1)) (page_below e.0 e.1 h.1)
    (joined_rises (e.0 + 1) es h.2)

pub joined_below : {A : Type 0} (n : ℕ) (es : Places (Sheet A)) → PagesFrom n es → AllBelow (2 ^ 62) (joined es)
joined_below n [] h = tt
joined_below n (e ∷ es) h = all_two (2 ^ 62) e.1.here (joined es)
    (all_up_to ((e.0 + 1) * 4096) (2 ^ 62) e.1.here (omega (arith, h.1.most)) (page_below e.0 e.1 h.1)) (joined_below (e.0 + 1) es h.2)

pub joined_map : {A : Type 0} (es : Places (Sheet A)) → PagesFrom 0 es → RisingFrom 0 (joined es)
joined_map es h = rises_from (0 * 4096) 0 (joined es) (omega arith) (joined_rises 0 es h)

-- ---- what is found

abbrev pub page_found : {A : Type 0} → Option (Sheet A) → ℕ → Option A
page_found None p = None
page_found (Some s) p = found_at s.here p

-- the position is in the page of that number
pub found_joined : {A : Type 0} (n k p : ℕ) (es : Places (Sheet A)) → PagesFrom n es → k * 4096 ≤ p → p < (k + 1) * 4096
    → found_at (joined es) p ≡ page_found (found_at es k) p
found_joined n k p [] h low high = refl
found_joined {A} n k p (e ∷ es) h low high = found_on e.1.here (joined es) p
    ∙ by (nat_eq k e.0) refl (found_joined (e.0 + 1) k p es h.2 low high)
  where
    right : (x : Option A) → or_else x None ≡ x
    right None = refl
    right (Some x) = refl

    beside : nat_eq k e.0 ≡ false → (v : Bool) → nat_lt k e.0 ≡ v → found_at e.1.here p ≡ None
    beside other true less = none_before (e.0 * 4096) p e.1.here (page_rises e.0 e.1 h.1) (omega (arith, high, lower))
      where
        lower : k + 1 ≤ e.0
        lower = grind (arith, nat_tests)
    beside other false less = none_past ((e.0 + 1) * 4096) p e.1.here (page_below e.0 e.1 h.1) (omega (arith, low, higher))
      where
        higher : e.0 + 1 ≤ k
        higher = grind (arith, nat_tests)

    by : (v : Bool) → nat_eq k e.0 ≡ v → found_at (joined es) p ≡ page_found (found_at es k) p
        → or_else (found_at e.1.here p) (found_at (joined es) p) ≡ page_found (if v then Some e.1 else found_at es k) p
    by true same rest =
        let is : k ≡ e.0 = grind (arith, nat_tests) in
        ap (λ o. or_else (found_at e.1.here p) o) (none_before ((e.0 + 1) * 4096) p (joined es) (joined_rises (e.0 + 1) es h.2)
        (omega (arith, high, is))) ∙ right (found_at e.1.here p)
    by false other rest = ap (λ o. or_else o (found_at (joined es) p)) (beside other (nat_lt k e.0) refl) ∙ rest

-- pages that aren't there
pub bare_joined : {A : Type 0} (low high : ℕ) (es : Places (Sheet A)) → PagesFrom 0 es → IsBare low high es
    → IsBare (low * 4096) (high * 4096) (joined es)
bare_joined low high es h bare p over under =
    found_joined 0 (p / 4096) p es h (omega arith) (omega arith)
    ∙ ap (λ o. page_found o p) (bare (p / 4096) (omega (arith, over)) (omega (arith, under)))
