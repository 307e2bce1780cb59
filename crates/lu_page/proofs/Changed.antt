-- One page changed, made or taken away.
use Rattle.std.proofs.Common.{◌≡◌, ℕ, zero, suc, ◌+◌, ◌*◌, ◌^◌, ◌<◌, ◌≤◌, ◌⊎◌, inl, inr, Bool, true, false, cond, List, [], ◌∷◌, ◌++◌}
use Rattle.std.proofs.Common.{length, Option, Some, None, refl, sym, ap, ◌∙◌, subst, arith}
use Rattle.std.specs.Map.{lookup, set_value, remove_entry}
use Rattle.std.specs.Ordering.{nat_cmp, match_ordering, is_eq}
use Rattle.std.specs.declared.cmp.Ordering.{Ordering}
use Rattle.std.specs.declared.cmp.Ordering.TheVariants.{Less, Equal, Greater}
use Rattle.std.specs.BTreeMap.{insert_entry, is_at}
use Rattle.std.specs.Prelude.{nat_eq, nat_lt, nat_le, filter, ◌==◌, ◌&&◌, if◌then◌else◌, IsSome, is_some}
use Rattle.std.proofs.lemmas.Bool.Decides.{nat_tests}
use Rattle.lu_base.specs.declared.locks.Extent.{Extent}
use Rattle.lu_spec_machine.specs.Objects.{page_extent}
use Rattle.lu_spec_machine.specs.Places.{Places, RisingFrom, found_at, below, from, placed, laid, is_in, inside}
use Rattle.lu_spec_bytes.specs.Maps.{AllBelow}
use Rattle.lu_spec_bytes.specs.Runs.{first_position}
use Rattle.lu_page.specs.Edits.{with_item, edited, in_range}
use Rattle.lu_page.specs.Sheets.{Sheet, IsSheet}
use Rattle.lu_page.proofs.Maps.{rises_from, all_up_to, none_past, rising_edited, all_edited}
use Rattle.lu_spec_machine.proofs.Places.{in_whole, in_parts, found_inside}
use Rattle.lu_spec_bytes.proofs.Rising.{none_before}
use Rattle.lu_page.specs.Pages.{joined, IsPage, PagesFrom, IsBare}
use Rattle.lu_page.proofs.Joined.{rising_two, laid_first, laid_second, pages_rise, pages_from, page_rises, page_below, joined_rises}
use Rattle.lu_page.proofs.Joined.{joined_below}
use Rattle.lu_page.proofs.Steps.{edited_two, edited_alike, unedited, edits_out, edits_in}

none_some : {A : Type 0} (x : A) → None ≡ Some x → ⊥
none_some x e = cc

some_same : {A : Type 0} (x y : A) → Some x ≡ Some y → x ≡ y
some_same x y e = cc

-- ---- std's search for a key

pub page_test : (k j : ℕ) → is_at (nat_cmp k) j ≡ nat_eq k j
page_test k j = by (nat_lt k j) (nat_eq k j) refl refl
  where
    by : (v w : Bool) → nat_lt k j ≡ v → nat_eq k j ≡ w → is_eq (cond v Less (cond w Equal Greater)) ≡ w
    by true true less same = absurd (grind (arith, nat_tests))
    by true false less same = refl
    by false true less same = refl
    by false false less same = refl

pub looked : {A : Type 0} (k : ℕ) (es : Places A) → lookup (is_at (nat_cmp k)) es ≡ found_at es k
looked k [] = refl
looked k (e ∷ es) = ap (λ v. cond v (Some e.1) (lookup (is_at (nat_cmp k)) es)) (page_test k e.0)
    ∙ ap (λ o. cond (nat_eq k e.0) (Some e.1) o) (looked k es)

pub set_is : {A : Type 0} (k : ℕ) (w : A) (es : Places A) → set_value (is_at (nat_cmp k)) es w ≡ set_value (nat_eq k) es w
set_is k w [] = refl
set_is k w (e ∷ es) = ap (λ v. cond v ((e.0, w) ∷ es) (e ∷ set_value (is_at (nat_cmp k)) es w)) (page_test k e.0)
    ∙ ap (λ m. cond (nat_eq k e.0) ((e.0, w) ∷ es) (e ∷ m)) (set_is k w es)

pub removed_is : {A : Type 0} (k : ℕ) (es : Places A) → remove_entry (is_at (nat_cmp k)) es ≡ remove_entry (nat_eq k) es
removed_is k [] = refl
removed_is k (e ∷ es) = ap (λ v. cond v es (e ∷ remove_entry (is_at (nat_cmp k)) es)) (page_test k e.0)
    ∙ ap (λ m. cond (nat_eq k e.0) es (e ∷ m)) (removed_is k es)

-- ---- the page of a number

pub page_is : {A : Type 0} (n k : ℕ) (s : Sheet A) (es : Places (Sheet A)) → PagesFrom n es → found_at es k ≡ Some s → IsPage k s
page_is n k s [] h found = absurd (none_some s found)
page_is {A} n k s (e ∷ es) h found = by (λ there. page_is (e.0 + 1) k s es h.2 there) (nat_eq k e.0) refl found
  where
    by : (found_at es k ≡ Some s → IsPage k s) → (v : Bool) → nat_eq k e.0 ≡ v → (if v then Some e.1 else found_at es k) ≡ Some s
        → IsPage k s
    by rest true here there = let same : e.0 ≡ k = grind (arith, nat_tests)
        in subst (λ s. IsPage k s) (some_same e.1 s there) (subst (λ j. IsPage j e.1) same h.1)
    by rest false here there = rest there

pub set_pages : {A : Type 0} (n k : ℕ) (t : Sheet A) (es : Places (Sheet A)) → PagesFrom n es → IsPage k t
    → PagesFrom n (set_value (nat_eq k) es t)
set_pages n k t [] h page = tt
set_pages {A} n k t (e ∷ es) h page = by (nat_eq k e.0) refl (set_pages (e.0 + 1) k t es h.2 page)
  where
    by : (v : Bool) → nat_eq k e.0 ≡ v → PagesFrom (e.0 + 1) (set_value (nat_eq k) es t)
        → PagesFrom n (cond v ((e.0, t) ∷ es) (e ∷ set_value (nat_eq k) es t))
    by true here rest = let same : k ≡ e.0 = grind (arith, nat_tests) in (h.0, subst (λ j. IsPage j t) same page, h.2)
    by false here rest = (h.0, h.1, rest)

pub set_found : {A : Type 0} (k : ℕ) (s t : A) (es : Places A) → found_at es k ≡ Some s → found_at (set_value (nat_eq k) es t) k ≡ Some t
set_found k s t [] found = absurd (none_some s found)
set_found {A} k s t (e ∷ es) found = by (λ there. set_found k s t es there) (nat_eq k e.0) refl found
  where
    by : (found_at es k ≡ Some s → found_at (set_value (nat_eq k) es t) k ≡ Some t) → (v : Bool) → nat_eq k e.0 ≡ v
        → (if v then Some e.1 else found_at es k) ≡ Some s → found_at (cond v ((e.0, t) ∷ es) (e ∷ set_value (nat_eq k) es t)) k ≡ Some t
    by rest true here there = ap (λ v. if v then Some t else found_at es k) here
    by rest false here there = ap (λ v. if v then Some e.1 else found_at (set_value (nat_eq k) es t) k) here ∙ rest there

pub set_others : {A : Type 0} (k j : ℕ) (t : A) (es : Places A) → IsSome (found_at es j) → IsSome (found_at (set_value (nat_eq k) es t) j)
set_others k j t [] h = h
set_others {A} k j t (e ∷ es) h = by (nat_eq k e.0) (nat_eq j e.0) h (λ rest. set_others k j t es rest)
  where
    by : (v w : Bool) → is_some (if w then Some e.1 else found_at es j) ≡ true
        → (IsSome (found_at es j) → IsSome (found_at (set_value (nat_eq k) es t) j))
        → is_some (found_at (cond v ((e.0, t) ∷ es) (e ∷ set_value (nat_eq k) es t)) j) ≡ true
    by true w is rest = first (nat_eq j e.0) refl
      where
        first : (u : Bool) → nat_eq j e.0 ≡ u → is_some (if u then Some t else found_at es j) ≡ true
        first true there = refl
        first false there = second h
          where
            second : is_some (if nat_eq j e.0 then Some e.1 else found_at es j) ≡ true → is_some (found_at es j) ≡ true
            second is = subst (λ u. is_some (if u then Some e.1 else found_at es j) ≡ true) there is
    by false w is rest = first (nat_eq j e.0) refl
      where
        first : (u : Bool) → nat_eq j e.0 ≡ u → is_some (if u then Some e.1 else found_at (set_value (nat_eq k) es t) j) ≡ true
        first true there = refl
        first false there = rest (subst (λ u. is_some (if u then Some e.1 else found_at es j) ≡ true) there h)

-- ---- edits

pub set_edited : {A : Type 0} (f : ℕ → A → Option A) (n k : ℕ) (s t : Sheet A) (es : Places (Sheet A)) → PagesFrom n es → found_at es k
    ≡ Some s → t.here ≡ edited f s.here → joined (set_value (nat_eq k) es t) ≡ edited (in_range (page_extent k) f) (joined es)
set_edited f n k s t [] h found is = absurd (none_some s found)
set_edited {A} f n k s t (e ∷ es) h found is = by (nat_eq k e.0) refl found (λ there. set_edited f (e.0 + 1) k s t es h.2 there is)
    ∙ sym (edited_two (in_range (page_extent k) f) e.1.here (joined es))
  where
    g : ℕ → A → Option A
    g = in_range (page_extent k) f

    by : (v : Bool) → nat_eq k e.0 ≡ v → (if v then Some e.1 else found_at es k) ≡ Some s
        → (found_at es k ≡ Some s → joined (set_value (nat_eq k) es t) ≡ edited g (joined es))
        → joined (cond v ((e.0, t) ∷ es) (e ∷ set_value (nat_eq k) es t)) ≡ edited g e.1.here ++ edited g (joined es)
    by true here there rest =
        let same : k ≡ e.0 = grind (arith, nat_tests) in
        let sheet : e.1 ≡ s = some_same e.1 s there in
        ap (λ m. m ++ joined es) (is ∙ ap (λ (u : Sheet A). edited f u.here) (sym sheet)
        ∙ edited_alike f g (e.0 * 4096) ((e.0 + 1) * 4096) e.1.here (page_rises e.0 e.1 h.1) (page_below e.0 e.1 h.1)
        (λ p x low high. sym (edits_in f k p x (omega (arith, low, same)) (omega (arith, high, same)))))
        ∙ ap (λ m. edited g e.1.here ++ m) (sym (unedited g ((e.0 + 1) * 4096) (2 ^ 62) (joined es) (joined_rises (e.0 + 1) es h.2)
        (joined_below (e.0 + 1) es h.2) (λ p x low high. edits_out f k p x (inr (omega (arith, low, same))))))
    by false here there rest =
        ap (λ m. e.1.here ++ m) (rest there)
        ∙ ap (λ m. m ++ edited g (joined es)) (sym (unedited g (e.0 * 4096) ((e.0 + 1) * 4096) e.1.here (page_rises e.0 e.1 h.1)
        (page_below e.0 e.1 h.1) (λ p x low high. edits_out f k p x (beside p low high (nat_lt k e.0) refl))))
      where
        beside : (p : ℕ) → e.0 * 4096 ≤ p → p < (e.0 + 1) * 4096 → (v : Bool) → nat_lt k e.0 ≡ v → (p < k * 4096) ⊎ ((k + 1) * 4096 ≤ p)
        beside p low high true less = let lower : k + 1 ≤ e.0 = grind (arith, nat_tests) in inr (omega (arith, low, lower))
        beside p low high false less = let higher : e.0 + 1 ≤ k = grind (arith, nat_tests) in inl (omega (arith, high, higher))

pub none_edited : {A : Type 0} (f : ℕ → A → Option A) (n k : ℕ) (es : Places (Sheet A)) → PagesFrom n es → found_at es k ≡ None → joined es
    ≡ edited (in_range (page_extent k) f) (joined es)
none_edited f n k [] h found = refl
none_edited {A} f n k (e ∷ es) h found = by (λ there. none_edited f (e.0 + 1) k es h.2 there) (nat_eq k e.0) refl found
    ∙ sym (edited_two (in_range (page_extent k) f) e.1.here (joined es))
  where
    g : ℕ → A → Option A
    g = in_range (page_extent k) f

    by : (found_at es k ≡ None → joined es ≡ edited g (joined es)) → (v : Bool) → nat_eq k e.0 ≡ v → (if v then Some e.1 else found_at es k)
        ≡ None → e.1.here ++ joined es ≡ edited g e.1.here ++ edited g (joined es)
    by rest true here there = absurd (none_some e.1 (sym there))
    by rest false here there =
        ap (λ m. e.1.here ++ m) (rest there)
        ∙ ap (λ m. m ++ edited g (joined es)) (sym (unedited g (e.0 * 4096) ((e.0 + 1) * 4096) e.1.here (page_rises e.0 e.1 h.1)
        (page_below e.0 e.1 h.1) (λ p x low high. edits_out f k p x (beside p low high (nat_lt k e.0) refl))))
      where
        beside : (p : ℕ) → e.0 * 4096 ≤ p → p < (e.0 + 1) * 4096 → (v : Bool) → nat_lt k e.0 ≡ v → (p < k * 4096) ⊎ ((k + 1) * 4096 ≤ p)
        beside p low high true less = let lower : k + 1 ≤ e.0 = grind (arith, nat_tests) in inr (omega (arith, low, lower))
        beside p low high false less = let higher : e.0 + 1 ≤ k = grind (arith, nat_tests) in inl (omega (arith, high, higher))

pub page_edited : {A : Type 0} (f : ℕ → A → Option A) (k : ℕ) (s t : Sheet A) → IsPage k s → t
    ≡ record { first = s.first; here = edited f s.here } → IsPage k t
page_edited {A} f k s t h is = subst (λ (t : Sheet A). IsPage k t) (sym is)
    (record {
      first = h.first;
      sheet = record {
        rising = rising_edited f s.first s.here h.sheet.rising;
        below =
            all_edited f (s.first + 4096) s.here h.sheet.below;
      };
      most = h.most;
    })

-- ---- a page taken away

pub removed_pages : {A : Type 0} (n k : ℕ) (es : Places (Sheet A)) → PagesFrom n es → PagesFrom n (remove_entry (nat_eq k) es)
removed_pages n k [] h = tt
removed_pages {A} n k (e ∷ es) h = by (nat_eq k e.0) (removed_pages (e.0 + 1) k es h.2)
  where
    by : (v : Bool) → PagesFrom (e.0 + 1) (remove_entry (nat_eq k) es) → PagesFrom n (cond v es (e ∷ remove_entry (nat_eq k) es))
    by true rest = pages_from (e.0 + 1) n es (omega (arith, h.0)) h.2
    by false rest = (h.0, h.1, rest)

pub removed_joined : {A : Type 0} (k : ℕ) (s : Sheet A) (es : Places (Sheet A)) → found_at es k ≡ Some s → s.here ≡ []
    → joined (remove_entry (nat_eq k) es) ≡ joined es
removed_joined k s [] found bare = refl
removed_joined {A} k s (e ∷ es) found bare = by (nat_eq k e.0) found (λ there. removed_joined k s es there bare)
  where
    by : (v : Bool) → (if v then Some e.1 else found_at es k) ≡ Some s
        → (found_at es k ≡ Some s → joined (remove_entry (nat_eq k) es) ≡ joined es) → joined (cond v es (e ∷ remove_entry (nat_eq k) es))
        ≡ e.1.here ++ joined es
    by true there rest = sym (ap (λ m. m ++ joined es) (ap (λ (u : Sheet A). u.here) (some_same e.1 s there) ∙ bare))
    by false there rest = ap (λ m. e.1.here ++ m) (rest there)

pub bare_page : {A : Type 0} (q : ℕ) (m : Places A) → RisingFrom q m → AllBelow (q + 4096) m
    → first_position (inside (record { first = q; last = q + 4095 }) m) ≡ None → m ≡ []
bare_page q [] h all none = refl
bare_page {A} q (e ∷ m) h all none = by (is_in (record { first = q; last = q + 4095 }) e.0)
    (in_whole (record { first = q; last = q + 4095 }) e.0 h.0 (omega (arith, all.0))) none
  where
    by : (v : Bool) → v ≡ true → first_position (cond v (e ∷ inside (record { first = q; last = q + 4095 }) m)
        (inside (record { first = q; last = q + 4095 }) m)) ≡ None → e ∷ m ≡ []
    by true is none = absurd (none_some e.0 (sym none))
    by false is none = absurd (cc)

-- ---- a page made

pub inserted_pages : {A : Type 0} (n k : ℕ) (t : Sheet A) (es : Places (Sheet A)) → PagesFrom n es → n ≤ k → IsPage k t → found_at es k
    ≡ None → PagesFrom n (insert_entry nat_cmp es k t)
inserted_pages n k t [] h less page found = (less, page, tt)
inserted_pages {A} n k t (e ∷ es) h less page found = by (nat_lt k e.0) (nat_eq k e.0) refl refl found
    (λ more there. inserted_pages (e.0 + 1) k t es h.2 more page there)
  where
    by : (v w : Bool) → nat_lt k e.0 ≡ v → nat_eq k e.0 ≡ w → (if w then Some e.1 else found_at es k) ≡ None
        → (e.0 + 1 ≤ k → found_at es k ≡ None → PagesFrom (e.0 + 1) (insert_entry nat_cmp es k t))
        → PagesFrom n (match_ordering (cond v Less (cond w Equal Greater)) ((k, t) ∷ e ∷ es) ((e.0, t) ∷ es)
        (e ∷ insert_entry nat_cmp es k t))
    by true w under same there rest = (less, page, (grind (arith, nat_tests), h.1, h.2))
    by false true under same there rest = absurd (none_some e.1 (sym there))
    by false false under same there rest = (h.0, h.1, rest (grind (arith, nat_tests)) there)

pub inserted_joined : {A : Type 0} (k : ℕ) (t : Sheet A) (es : Places (Sheet A)) → t.here ≡ [] → found_at es k ≡ None
    → joined (insert_entry nat_cmp es k t) ≡ joined es
inserted_joined k t [] bare found = ap (λ m. m ++ []) bare
inserted_joined {A} k t (e ∷ es) bare found = by (nat_lt k e.0) (nat_eq k e.0) found (λ there. inserted_joined k t es bare there)
  where
    by : (v w : Bool) → (if w then Some e.1 else found_at es k) ≡ None
        → (found_at es k ≡ None → joined (insert_entry nat_cmp es k t) ≡ joined es)
        → joined (match_ordering (cond v Less (cond w Equal Greater)) ((k, t) ∷ e ∷ es) ((e.0, t) ∷ es) (e ∷ insert_entry nat_cmp es k t))
        ≡ e.1.here ++ joined es
    by true w there rest = ap (λ m. m ++ (e.1.here ++ joined es)) bare
    by false true there rest = absurd (none_some e.1 (sym there))
    by false false there rest = ap (λ m. e.1.here ++ m) (rest there)

found_front : {A : Type 0} (j k : ℕ) (t : A) (es : Places A) → IsSome (found_at es j) → IsSome (found_at ((k, t) ∷ es) j)
found_front {A} j k t es h = by (nat_eq j k)
  where
    by : (v : Bool) → is_some (if v then Some t else found_at es j) ≡ true
    by true = refl
    by false = h

found_same : {A : Type 0} (j : ℕ) (e : ℕ × A) (es ds : Places A) → (IsSome (found_at es j) → IsSome (found_at ds j))
    → IsSome (found_at (e ∷ es) j) → IsSome (found_at (e ∷ ds) j)
found_same {A} j e es ds rest h = by (nat_eq j e.0) h
  where
    by : (v : Bool) → is_some (if v then Some e.1 else found_at es j) ≡ true → is_some (if v then Some e.1 else found_at ds j) ≡ true
    by true h = refl
    by false h = rest h

found_other : {A : Type 0} (j k : ℕ) (x t : A) (es : Places A) → IsSome (found_at ((k, x) ∷ es) j) → IsSome (found_at ((k, t) ∷ es) j)
found_other {A} j k x t es h = by (nat_eq j k) h
  where
    by : (v : Bool) → is_some (if v then Some x else found_at es j) ≡ true → is_some (if v then Some t else found_at es j) ≡ true
    by true h = refl
    by false h = h

pub inserted_others : {A : Type 0} (k j : ℕ) (t : A) (es : Places A) → IsSome (found_at es j)
    → IsSome (found_at (insert_entry nat_cmp es k t) j)
inserted_others k j t [] h = absurd (cc)
inserted_others {A} k j t (e ∷ es) h = by (nat_lt k e.0) (nat_eq k e.0) (λ there. inserted_others k j t es there)
  where
    by : (v w : Bool) → (IsSome (found_at es j) → IsSome (found_at (insert_entry nat_cmp es k t) j))
        → IsSome (found_at (match_ordering (cond v Less (cond w Equal Greater)) ((k, t) ∷ e ∷ es) ((e.0, t) ∷ es)
        (e ∷ insert_entry nat_cmp es k t)) j)
    by true w rest = found_front j k t (e ∷ es) h
    by false true rest = found_other j e.0 e.1 t es h
    by false false rest = found_same j e es (insert_entry nat_cmp es k t) rest h

-- ---- items laid

pub set_laid : {A : Type 0} (n k at : ℕ) (xs : List A) (s t : Sheet A) (es : Places (Sheet A)) → PagesFrom n es → found_at es k ≡ Some s
    → t.here ≡ laid at xs s.here → k * 4096 ≤ at → at + length xs ≤ (k + 1) * 4096 → joined (set_value (nat_eq k) es t)
    ≡ laid at xs (joined es)
set_laid n k at xs s t [] h found is low high = absurd (none_some s found)
set_laid {A} n k at xs s t (e ∷ es) h found is low high = by (nat_eq k e.0) refl found
    (λ there. set_laid (e.0 + 1) k at xs s t es h.2 there is low high)
  where
    by : (v : Bool) → nat_eq k e.0 ≡ v → (if v then Some e.1 else found_at es k) ≡ Some s
        → (found_at es k ≡ Some s → joined (set_value (nat_eq k) es t) ≡ laid at xs (joined es))
        → joined (cond v ((e.0, t) ∷ es) (e ∷ set_value (nat_eq k) es t)) ≡ laid at xs (e.1.here ++ joined es)
    by true here there rest =
        let same : k ≡ e.0 = grind (arith, nat_tests) in
        ap (λ m. m ++ joined es) (is ∙ ap (λ (u : Sheet A). laid at xs u.here) (sym (some_same e.1 s there)))
        ∙ sym (laid_first at ((e.0 + 1) * 4096) xs e.1.here (joined es) (joined_rises (e.0 + 1) es h.2) (omega (arith, high, same)))
    by false here there rest = ap (λ m. e.1.here ++ m) (rest there)
        ∙ sym (laid_second at ((e.0 + 1) * 4096) xs e.1.here (joined es) (page_below e.0 e.1 h.1)
        (omega (arith, low, lower (nat_lt k e.0) refl)))
      where
        lower : (v : Bool) → nat_lt k e.0 ≡ v → e.0 + 1 ≤ k
        lower true less = absurd (none_some s (sym (none_before (e.0 + 1) k es (pages_rise (e.0 + 1) es h.2) (grind (arith, nat_tests)))
            ∙ there))
        lower false less = grind (arith, nat_tests)
