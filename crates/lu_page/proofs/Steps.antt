-- Edits, one page after the other, and items laid, one page after the other.
use Rattle.std.proofs.Common.{◌≡◌, ℕ, zero, suc, ◌+◌, ◌*◌, ◌^◌, ◌<◌, ◌≤◌, ◌⊎◌, inl, inr, max, Bool, true, false, cond, List, [], ◌∷◌, ◌++◌}
use Rattle.std.proofs.Common.{length, take, drop, length-take-le, Option, Some, None, refl, sym, ap, ◌∙◌, subst, arith}
use Rattle.std.specs.Prelude.{nat_eq, nat_lt, nat_le, filter, ◌==◌, ◌&&◌, if◌then◌else◌, not}
use Rattle.std.specs.Ordering.{nat_cmp, ord_min, ord_max, is_lt}
use Rattle.std.specs.declared.cmp.Ordering.TheVariants.{Less, Equal, Greater}
use Rattle.std.proofs.lemmas.Bool.Decides.{nat_tests}
use Rattle.lu_base.specs.declared.locks.Extent.{Extent}
use Rattle.lu_spec_machine.specs.Objects.{page_extent}
use Rattle.lu_spec_machine.specs.Places.{Places, RisingFrom, found_at, below, from, placed, laid, is_in, inside}
use Rattle.lu_spec_bytes.specs.Maps.{AllBelow}
use Rattle.lu_spec_bytes.specs.Runs.{first_position}
use Rattle.lu_page.specs.Edits.{with_item, edited, in_range}
use Rattle.lu_page.specs.Sheets.{Sheet, IsSheet}
use Rattle.lu_page.proofs.Maps.{rises_from, all_up_to, none_past, rising_edited, all_edited}
use Rattle.lu_spec_machine.proofs.Places.{in_parts, in_whole, found_laid, rising_laid, overlay, before_run}
use Rattle.lu_spec_bytes.proofs.Rising.{none_before, same_map, laid_none}
use Rattle.lu_spec_bytes.specs.Changes.{outside, unmarked, zeroed}
use Rattle.std.proofs.Math.Seq.{take-add}
use Rattle.lu_page.specs.Pages.{IsBare, up_to}
use Rattle.lu_page.proofs.Gaps.{bare_tail}

-- ---- edits of maps

pub edited_two : {A : Type 0} (f : ℕ → A → Option A) (a b : Places A) → edited f (a ++ b) ≡ edited f a ++ edited f b
edited_two f [] b = refl
edited_two {A} f (e ∷ a) b = by (f e.0 e.1) (edited_two f a b)
  where
    by : (o : Option A) → edited f (a ++ b) ≡ edited f a ++ edited f b → with_item e.0 o (edited f (a ++ b)) ≡ with_item e.0 o (edited f a)
        ++ edited f b
    by None rest = rest
    by (Some x) rest = ap (λ m. (e.0, x) ∷ m) rest

pub edited_alike : {A : Type 0} (f g : ℕ → A → Option A) (low high : ℕ) (m : Places A) → RisingFrom low m → AllBelow high m
    → ((p : ℕ) (x : A) → low ≤ p → p < high → f p x ≡ g p x) → edited f m ≡ edited g m
edited_alike f g low high [] h all same = refl
edited_alike f g low high (e ∷ m) h all same = ap (λ o. with_item e.0 o (edited f m)) (same e.0 e.1 h.0 all.0)
    ∙ ap (λ r. with_item e.0 (g e.0 e.1) r) (edited_alike f g (e.0 + 1) high m h.1 all.1
    (λ p x more less. same p x (omega (arith, more, h.0)) less))

edited_some : {A : Type 0} (m : Places A) → edited (λ p x. Some x) m ≡ m
edited_some [] = refl
edited_some (e ∷ m) = ap (λ r. e ∷ r) (edited_some m)

-- an edit that keeps all that there is
pub unedited : {A : Type 0} (f : ℕ → A → Option A) (low high : ℕ) (m : Places A) → RisingFrom low m → AllBelow high m
    → ((p : ℕ) (x : A) → low ≤ p → p < high → f p x ≡ Some x) → edited f m ≡ m
unedited f low high m h all same = edited_alike f (λ p x. Some x) low high m h all same ∙ edited_some m

pub out_page : (k p : ℕ) → (p < k * 4096) ⊎ ((k + 1) * 4096 ≤ p) → is_in (page_extent k) p ≡ false
out_page k p beside = by (is_in (page_extent k) p) refl beside
  where
    by : (v : Bool) → is_in (page_extent k) p ≡ v → (p < k * 4096) ⊎ ((k + 1) * 4096 ≤ p) → v ≡ false
    by false is other = refl
    by true is (inl less) = let low = (in_parts (page_extent k) p is).0 in absurd (omega (arith, low, less))
    by true is (inr more) = let high = (in_parts (page_extent k) p is).1 in absurd (omega (arith, high, more))

pub in_page : (k p : ℕ) → k * 4096 ≤ p → p < (k + 1) * 4096 → is_in (page_extent k) p ≡ true
in_page k p low high = in_whole (page_extent k) p low (omega (arith, high))

pub edits_out : {A : Type 0} (f : ℕ → A → Option A) (k p : ℕ) (x : A) → (p < k * 4096) ⊎ ((k + 1) * 4096 ≤ p)
    → in_range (page_extent k) f p x ≡ Some x
edits_out f k p x beside = ap (λ v. if v then f p x else Some x) (out_page k p beside)

pub edits_in : {A : Type 0} (f : ℕ → A → Option A) (k p : ℕ) (x : A) → k * 4096 ≤ p → p < (k + 1) * 4096 → in_range (page_extent k) f p x
    ≡ f p x
edits_in f k p x low high = ap (λ v. if v then f p x else Some x) (in_page k p low high)

-- ---- one page after the other

up_below : {A : Type 0} (n : ℕ) (f : ℕ → A → Option A) (p : ℕ) (x : A) → p < n → up_to n f p x ≡ f p x
up_below n f p x less = let here : nat_lt p n ≡ true = grind (arith, nat_tests) in ap (λ v. if v then f p x else Some x) here

up_past : {A : Type 0} (n : ℕ) (f : ℕ → A → Option A) (p : ℕ) (x : A) → n ≤ p → up_to n f p x ≡ Some x
up_past n f p x less = let here : nat_lt p n ≡ false = grind (arith, nat_tests) in ap (λ v. if v then f p x else Some x) here

bare_rest : {A : Type 0} (low high p : ℕ) (o : Option A) (m : Places A) → IsBare low high (with_item p o m) → IsBare low high m
bare_rest low high p None m bare = bare
bare_rest low high p (Some x) m bare = (bare_tail low high p x m bare).1

-- nothing is edited where nothing stands
pub up_skip : {A : Type 0} (f : ℕ → A → Option A) (low high : ℕ) (m : Places A) → low ≤ high → IsBare low high (edited (up_to low f) m)
    → edited (up_to low f) m ≡ edited (up_to high f) m
up_skip f low high [] less bare = refl
up_skip {A} f low high (e ∷ m) less bare = by (up_skip f low high m less
    (bare_rest low high e.0 (up_to low f e.0 e.1) (edited (up_to low f) m) bare)) (nat_lt e.0 low) refl
  where
    by : edited (up_to low f) m ≡ edited (up_to high f) m → (v : Bool) → nat_lt e.0 low ≡ v
        → with_item e.0 (up_to low f e.0 e.1) (edited (up_to low f) m) ≡ with_item e.0 (up_to high f e.0 e.1) (edited (up_to high f) m)
    by rest true here =
        let under : e.0 < low = grind (arith, nat_tests) in
        ap (λ o. with_item e.0 o (edited (up_to low f) m)) (up_below low f e.0 e.1 under
        ∙ sym (up_below high f e.0 e.1 (omega (arith, under, less)))) ∙ ap (λ r. with_item e.0 (up_to high f e.0 e.1) r) rest
    by rest false here =
        let over : low ≤ e.0 = grind (arith, nat_tests) in
        let stays : up_to low f e.0 e.1 ≡ Some e.1 = up_past low f e.0 e.1 over in
        let far = (bare_tail low high e.0 e.1 (edited (up_to low f) m)
        (subst (λ o. IsBare low high (with_item e.0 o (edited (up_to low f) m))) stays bare)).0 in
        ap (λ o. with_item e.0 o (edited (up_to low f) m)) (stays ∙ sym (up_past high f e.0 e.1 (past over far)))
        ∙ ap (λ r. with_item e.0 (up_to high f e.0 e.1) r) rest
      where
        past : low ≤ e.0 → (e.0 < low) ⊎ (high ≤ e.0) → high ≤ e.0
        past over (inl under) = absurd (omega (arith, under, over))
        past over (inr more) = more

-- one page more
pub up_step : {A : Type 0} (f : ℕ → A → Option A) (k : ℕ) (m : Places A)
    → edited (in_range (page_extent k) f) (edited (up_to (k * 4096) f) m) ≡ edited (up_to ((k + 1) * 4096) f) m
up_step f k [] = refl
up_step {A} f k (e ∷ m) = by (nat_lt e.0 (k * 4096)) (nat_lt e.0 ((k + 1) * 4096)) refl refl (up_step f k m)
  where
    g : ℕ → A → Option A
    g = in_range (page_extent k) f

    early : (o : Option A) → e.0 < k * 4096 → edited g (edited (up_to (k * 4096) f) m) ≡ edited (up_to ((k + 1) * 4096) f) m
        → edited g (with_item e.0 o (edited (up_to (k * 4096) f) m)) ≡ with_item e.0 o (edited (up_to ((k + 1) * 4096) f) m)
    early None less rest = rest
    early (Some x) less rest = ap (λ o. with_item e.0 o (edited g (edited (up_to (k * 4096) f) m))) (edits_out f k e.0 x (inl less))
        ∙ ap (λ r. (e.0, x) ∷ r) rest

    by : (v w : Bool) → nat_lt e.0 (k * 4096) ≡ v → nat_lt e.0 ((k + 1) * 4096) ≡ w → edited g (edited (up_to (k * 4096) f) m)
        ≡ edited (up_to ((k + 1) * 4096) f) m → edited g (with_item e.0 (up_to (k * 4096) f e.0 e.1) (edited (up_to (k * 4096) f) m))
        ≡ with_item e.0 (up_to ((k + 1) * 4096) f e.0 e.1) (edited (up_to ((k + 1) * 4096) f) m)
    by true w here there rest =
        let under : e.0 < k * 4096 = grind (arith, nat_tests) in
        ap (λ o. edited g (with_item e.0 o (edited (up_to (k * 4096) f) m))) (up_below (k * 4096) f e.0 e.1 under)
        ∙ early (f e.0 e.1) under rest ∙ ap (λ o. with_item e.0 o (edited (up_to ((k + 1) * 4096) f) m))
        (sym (up_below ((k + 1) * 4096) f e.0 e.1 (omega (arith, under))))
    by false true here there rest =
        let over : k * 4096 ≤ e.0 = grind (arith, nat_tests) in
        let under : e.0 < (k + 1) * 4096 = grind (arith, nat_tests) in
        ap (λ o. edited g (with_item e.0 o (edited (up_to (k * 4096) f) m))) (up_past (k * 4096) f e.0 e.1 over)
        ∙ ap (λ o. with_item e.0 o (edited g (edited (up_to (k * 4096) f) m)))
        (edits_in f k e.0 e.1 over under ∙ sym (up_below ((k + 1) * 4096) f e.0 e.1 under))
        ∙ ap (λ r. with_item e.0 (up_to ((k + 1) * 4096) f e.0 e.1) r) rest
    by false false here there rest =
        let over : (k + 1) * 4096 ≤ e.0 = grind (arith, nat_tests) in
        ap (λ o. edited g (with_item e.0 o (edited (up_to (k * 4096) f) m))) (up_past (k * 4096) f e.0 e.1 (omega (arith, over)))
        ∙ ap (λ o. with_item e.0 o (edited g (edited (up_to (k * 4096) f) m)))
        (edits_out f k e.0 e.1 (inr over) ∙ sym (up_past ((k + 1) * 4096) f e.0 e.1 over))
        ∙ ap (λ r. with_item e.0 (up_to ((k + 1) * 4096) f e.0 e.1) r) rest

pub up_none : {A : Type 0} (f : ℕ → A → Option A) (n : ℕ) (m : Places A) → RisingFrom 0 m → AllBelow (2 ^ 62) m
    → ((p : ℕ) (x : A) → p < 2 ^ 62 → p < n → f p x ≡ Some x) → m ≡ edited (up_to n f) m
up_none {A} f n m h all keeps = sym (unedited (up_to n f) 0 (2 ^ 62) m h all (λ p x low high. by p x (nat_lt p n) refl high))
  where
    by : (p : ℕ) (x : A) (v : Bool) → nat_lt p n ≡ v → p < 2 ^ 62 → (if v then f p x else Some x) ≡ Some x
    by p x true here high = keeps p x high (grind (arith, nat_tests))
    by p x false here high = refl

pub up_all : {A : Type 0} (f : ℕ → A → Option A) (n : ℕ) (m : Places A) → RisingFrom 0 m → AllBelow (2 ^ 62) m
    → ((p : ℕ) (x : A) → p < 2 ^ 62 → n ≤ p → f p x ≡ Some x) → edited (up_to n f) m ≡ edited f m
up_all {A} f n m h all keeps = edited_alike (up_to n f) f 0 (2 ^ 62) m h all (λ p x low high. by p x (nat_lt p n) refl high)
  where
    by : (p : ℕ) (x : A) (v : Bool) → nat_lt p n ≡ v → p < 2 ^ 62 → (if v then f p x else Some x) ≡ f p x
    by p x true here high = refl
    by p x false here high = sym (keeps p x high (grind (arith, nat_tests)))

-- ---- items laid behind others

overlay_on : {A : Type 0} (at : ℕ) (xs ys : List A) (p : ℕ) (o : Option A) → overlay (at + length xs) ys p (overlay at xs p o)
    ≡ overlay at (xs ++ ys) p o
overlay_on at [] ys p o = let same : at + 0 ≡ at = omega arith in ap (λ q. overlay q ys p o) same
overlay_on {A} at (x ∷ xs) ys p o = by (overlay_on (at + 1) xs ys p o) (nat_eq p at) refl
  where
    moved : at + length (x ∷ xs) ≡ at + 1 + length xs
    moved = omega arith

    by : overlay (at + 1 + length xs) ys p (overlay (at + 1) xs p o) ≡ overlay (at + 1) (xs ++ ys) p o → (v : Bool) → nat_eq p at ≡ v
        → overlay (at + length (x ∷ xs)) ys p (if v then Some x else overlay (at + 1) xs p o)
        ≡ (if v then Some x else overlay (at + 1) (xs ++ ys) p o)
    by rest true here = before_run (at + length (x ∷ xs)) ys p (Some x) (grind (arith, nat_tests))
    by rest false here = ap (λ q. overlay q ys p (overlay (at + 1) xs p o)) moved ∙ rest

pub laid_on : {A : Type 0} (at q : ℕ) (xs ys : List A) (m : Places A) → RisingFrom 0 m → q ≡ at + length xs → laid q ys (laid at xs m)
    ≡ laid at (xs ++ ys) m
laid_on {A} at q xs ys m h e =
    ap (λ r. laid r ys (laid at xs m)) e ∙ same_map 0 (laid (at + length xs) ys (laid at xs m)) (laid at (xs ++ ys) m)
    (rising_laid (at + length xs) ys (laid at xs m) (rising_laid at xs m h)) (rising_laid at (xs ++ ys) m h)
    (λ p less. found_laid (at + length xs) ys (laid at xs m) p ∙ ap (overlay (at + length xs) ys p) (found_laid at xs m p)
    ∙ overlay_on at xs ys p (found_at m p) ∙ sym (found_laid at (xs ++ ys) m p))

-- a part of what is laid
pub lay_part : {A : Type 0} (at q done count : ℕ) (xs : List A) (m : Places A) → RisingFrom 0 m → q ≡ at + done → done ≤ length xs
    → laid q (take count (drop done xs)) (laid at (take done xs) m) ≡ laid at (take (done + count) xs) m
lay_part at q done count xs m h e less = laid_on at q (take done xs) (take count (drop done xs)) m h
    (e ∙ ap (λ n. at + n) (sym (length-take-le done xs less))) ∙ ap (λ ys. laid at ys m) (sym (take-add done count xs))

pub laid_nothing : {A : Type 0} (at : ℕ) (xs : List A) (m : Places A) → RisingFrom 0 m → length xs ≡ 0 → m ≡ laid at xs m
laid_nothing at [] m h none = sym (laid_none at m h)
laid_nothing at (x ∷ xs) m h none = absurd (omega (arith, none))

pub least_right : (a b : ℕ) → ord_min nat_cmp a b ≤ b
least_right a b = by (nat_lt b a) (nat_eq b a) refl refl
  where
    by : (v w : Bool) → nat_lt b a ≡ v → nat_eq b a ≡ w → cond (is_lt (cond v Less (cond w Equal Greater))) b a ≤ b
    by true w less same = omega arith
    by false true less same = grind (arith, nat_tests)
    by false false less same = grind (arith, nat_tests)

-- ---- the end of an edit

pub out_low : (extent : Extent) (p : ℕ) → p < extent.first → is_in extent p ≡ false
out_low extent p less = by (is_in extent p) refl
  where
    by : (v : Bool) → is_in extent p ≡ v → v ≡ false
    by false out = refl
    by true here = let low = (in_parts extent p here).0 in absurd (omega (arith, low, less))

pub out_high : (extent : Extent) (p : ℕ) → extent.last < p → is_in extent p ≡ false
out_high extent p less = by (is_in extent p) refl
  where
    by : (v : Bool) → is_in extent p ≡ v → v ≡ false
    by false out = refl
    by true here = let high = (in_parts extent p here).1 in absurd (omega (arith, high, less))

pub up_ends : {A : Type 0} (f : ℕ → A → Option A) (extent : Extent) (n high : ℕ) (m now : Places A) → RisingFrom 0 m → AllBelow (2 ^ 62) m
    → ((p : ℕ) (x : A) → p < 2 ^ 62 → is_in extent p ≡ false → f p x ≡ Some x) → extent.last < high → now ≡ edited (up_to n f) m
    → IsBare n high now → now ≡ edited f m
up_ends {A} f extent n high m now h all keeps past is bare = by (nat_le n high) refl
  where
    by : (v : Bool) → nat_le n high ≡ v → now ≡ edited f m
    by true less = let le : n ≤ high = grind (arith, nat_tests) in is ∙ up_skip f n high m le (subst (λ m. IsBare n high m) is bare)
        ∙ up_all f high m h all (λ p x below over. keeps p x below (out_high extent p (omega (arith, past, over))))
    by false more = let gt : high < n = grind (arith, nat_tests) in is
        ∙ up_all f n m h all (λ p x below over. keeps p x below (out_high extent p (omega (arith, past, over, gt))))

-- ---- the edits by name

pub removes : {A : Type 0} (extent : Extent) (m : Places A) → edited (λ p x. if is_in extent p then None else Some x) m ≡ outside extent m
removes extent [] = refl
removes {A} extent (e ∷ m) = by (is_in extent e.0) (removes extent m)
  where
    by : (v : Bool) → edited (λ p x. if is_in extent p then None else Some x) m ≡ outside extent m
        → with_item e.0 (if v then None else Some e.1) (edited (λ p x. if is_in extent p then None else Some x) m)
        ≡ cond (not v) (e ∷ outside extent m) (outside extent m)
    by true rest = rest
    by false rest = ap (λ r. e ∷ r) rest

pub outside_below : {A : Type 0} (n last : ℕ) (m : Places A) → AllBelow (2 ^ 62) m → 2 ^ 62 ≤ last
    → outside (record { first = n; last = last }) m ≡ below n m
outside_below n last [] h less = refl
outside_below {A} n last (e ∷ m) h less = by (nat_le n e.0) (nat_lt e.0 n) (nat_le e.0 last) refl refl refl
    (outside_below n last m h.1 less)
  where
    by : (u v w : Bool) → nat_le n e.0 ≡ u → nat_lt e.0 n ≡ v → nat_le e.0 last ≡ w → outside (record { first = n; last = last }) m
        ≡ below n m → cond (not (u && w)) (e ∷ outside (record { first = n; last = last }) m)
        (outside (record { first = n; last = last }) m) ≡ cond v (e ∷ below n m) (below n m)
    by true false true low high end rest = rest
    by false true w low high end rest = ap (λ r. e ∷ r) rest
    by true true w low high end rest = absurd (grind (arith, nat_tests))
    by false false w low high end rest = absurd (grind (arith, nat_tests))
    by true false false low high end rest = absurd (grind (arith, nat_tests, h.0, less))

pub drops : {A : Type 0} (marked : A → Bool) (last : ℕ) (m : Places A) → AllBelow (2 ^ 62) m → 2 ^ 62 ≤ last
    → edited (λ p x. if is_in (record { first = 0; last = last }) p && marked x then None else Some x) m ≡ unmarked marked m
drops marked last [] h less = refl
drops {A} marked last (e ∷ m) h less = by (is_in (record { first = 0; last = last }) e.0)
    (in_whole (record { first = 0; last = last }) e.0 (omega arith) (omega (arith, h.0, less))) (marked e.1) (drops marked last m h.1 less)
  where
    f : ℕ → A → Option A
    f p x = if is_in (record { first = 0; last = last }) p && marked x then None else Some x

    by : (u : Bool) → u ≡ true → (v : Bool) → edited f m ≡ unmarked marked m
        → with_item e.0 (if u && v then None else Some e.1) (edited f m) ≡ cond (not v) (e ∷ unmarked marked m) (unmarked marked m)
    by true here true rest = rest
    by true here false rest = ap (λ r. e ∷ r) rest
    by false here v rest = absurd (cc)

pub drops_in : {A : Type 0} (marked : A → Bool) (extent : Extent) (m : Places A)
    → edited (λ p x. if is_in extent p && marked x then None else Some x) m ≡ filter (λ (e : ℕ × A). not (is_in extent e.0 && marked e.1)) m
drops_in marked extent [] = refl
drops_in {A} marked extent (e ∷ m) = by (is_in extent e.0 && marked e.1) (drops_in marked extent m)
  where
    f : ℕ → A → Option A
    f p x = if is_in extent p && marked x then None else Some x

    rest : Places A
    rest = filter (λ (e : ℕ × A). not (is_in extent e.0 && marked e.1)) m

    by : (v : Bool) → edited f m ≡ rest → with_item e.0 (if v then None else Some e.1) (edited f m) ≡ cond (not v) (e ∷ rest) rest
    by true same = same
    by false same = ap (λ r. e ∷ r) same

pub zeroes : (n : ℕ) (m : Places ℕ) → edited (λ p x. Some (if nat_lt p n then x else 0)) m ≡ zeroed n m
zeroes n [] = refl
zeroes n (e ∷ m) = ap (λ r. (e.0, if nat_lt e.0 n then e.1 else 0) ∷ r) (zeroes n m)
