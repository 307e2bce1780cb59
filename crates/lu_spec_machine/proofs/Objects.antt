-- Puts and cuts of one object.
use Rattle.std.proofs.Common.{◌≡◌, ◌≢◌, ℕ, zero, suc, ◌+◌, ◌-◌, ◌*◌, ◌<◌, ◌≤◌, min, ◌⊎◌, inl, inr, Bool, true, false, List, [], ◌∷◌, ◌++◌}
use Rattle.std.proofs.Common.{length, Option, Some, None, refl, sym, ap, subst, ◌∙◌, arith}
use Rattle.std.specs.Prelude.{nat_eq, nat_lt, ◌==◌, slice_index, if◌then◌else◌}
use Rattle.std.specs.Option.{unwrap_or}
use Rattle.std.proofs.lemmas.Bool.{eq-eqb}
use Rattle.std.proofs.lemmas.Bool.Decides.{nat_tests}
use Rattle.lu_base.specs.declared.locks.Extent.{Extent}
use Rattle.lu_spec_machine.specs.Places.{found_at, RisingFrom, below, end_of, is_in, inside}
use Rattle.lu_spec_machine.specs.Objects.{Object, put_bytes, cut_bytes, object_size, page_size, page_extent, filled, content}
use Rattle.lu_spec_machine.specs.ByteLaws.{ObjectPuts, ObjectCuts, GetReads}
use Rattle.lu_spec_machine.proofs.Places.{AllBelow, or_else, found_filter, found_on, found_laid, before_run, past_run, at_run, rising_below}
use Rattle.lu_spec_machine.proofs.Places.{below_all, rising_joined, rising_laid, end_past, end_last, in_whole, found_inside, rising_inside}
use Rattle.lu_spec_machine.proofs.Places.{end_inside, none_before}

-- ---- a put

puts : (offset : ℕ) (bs : List ℕ) (object : Object) (k : ℕ) → k < length bs → found_at (put_bytes offset bs object) (offset + k)
    ≡ Some (slice_index bs k)
puts offset [] object k h = absurd (omega (arith, h))
puts offset (b ∷ bs) object k h = found_laid offset (b ∷ bs) object (offset + k) ∙ at_run offset (b ∷ bs) k (found_at object (offset + k)) h

put_leaves : (offset : ℕ) (bs : List ℕ) (object : Object) (q : ℕ) → (q < offset) ⊎ (offset + length bs ≤ q)
    → found_at (put_bytes offset bs object) q ≡ found_at object q
put_leaves offset [] object q h = refl
put_leaves offset (b ∷ bs) object q (inl h) = found_laid offset (b ∷ bs) object q ∙ before_run offset (b ∷ bs) q (found_at object q) h
put_leaves offset (b ∷ bs) object q (inr h) = found_laid offset (b ∷ bs) object q ∙ past_run offset (b ∷ bs) q (found_at object q) h

put_rises : (offset : ℕ) (bs : List ℕ) (object : Object) → RisingFrom 0 object → RisingFrom 0 (put_bytes offset bs object)
put_rises offset [] object h = h
put_rises offset (b ∷ bs) object h = rising_laid offset (b ∷ bs) object h

pub object_puts : ObjectPuts
object_puts offset bs object = record {
  puts = puts offset bs object;
  leaves = put_leaves offset bs object;
  rises =
      put_rises offset bs object;
}

-- ---- a cut

module _ (object : Object) where
  cut_tells : (last q : ℕ) → found_at (cut_bytes (suc last) object) q
      ≡ (if nat_eq q last then Some (unwrap_or (found_at object last) 0) else (if nat_lt q last then found_at object q else None))
  cut_tells last q =
      found_on (below last object) ((last, unwrap_or (found_at object last) 0) ∷ []) q
      ∙ ap (λ x. or_else x (if nat_eq q last then Some (unwrap_or (found_at object last) 0) else None))
      (found_filter (λ p. nat_lt p last) object q) ∙ by (nat_eq q last) (nat_lt q last) refl refl
    where
      else_none : (x : Option ℕ) → or_else x None ≡ x
      else_none None = refl
      else_none (Some x) = refl

      by : (v w : Bool) → nat_eq q last ≡ v → nat_lt q last ≡ w
          → or_else (if w then found_at object q else None) (if v then Some (unwrap_or (found_at object last) 0) else None)
          ≡ (if v then Some (unwrap_or (found_at object last) 0) else (if w then found_at object q else None))
      by true true same less = absurd (grind (arith, nat_tests))
      by true false same less = refl
      by false true same less = else_none (found_at object q)
      by false false same less = refl

  cut_drops : (n q : ℕ) → n ≤ q → found_at (cut_bytes n object) q ≡ None
  cut_drops zero q h = refl
  cut_drops (suc last) q h =
      let one : nat_eq q last ≡ false = grind (arith, nat_tests) in
      let two : nat_lt q last ≡ false = grind (arith, nat_tests) in
      cut_tells last q ∙ rw (one, two) refl

  cut_leaves : (n q : ℕ) → q + 1 < n → found_at (cut_bytes n object) q ≡ found_at object q
  cut_leaves zero q h = absurd (omega (arith, h))
  cut_leaves (suc last) q h =
      let one : nat_eq q last ≡ false = grind (arith, nat_tests) in
      let two : nat_lt q last ≡ true = grind (arith, nat_tests) in
      cut_tells last q ∙ rw (one, two) refl

  cut_ends : (n q : ℕ) → q + 1 ≡ n → found_at (cut_bytes n object) q ≡ Some (unwrap_or (found_at object q) 0)
  cut_ends zero q h = absurd (omega (arith, h))
  cut_ends (suc last) q h =
      let same : q ≡ last = omega (arith, h) in
      let one : nat_eq q last ≡ true = eq-eqb q last same in
      cut_tells last q ∙ rw one (ap (λ p. Some (unwrap_or (found_at object p) 0)) (sym same))

  pub cut_some : (n q : ℕ) → q + 1 ≡ n → found_at (cut_bytes n object) q ≢ None
  cut_some n q h e = none (unwrap_or (found_at object q) 0) (sym (cut_ends n q h) ∙ e)
    where
      none : (b : ℕ) → Some b ≡ None → ⊥
      none b e = absurd (cc)

  cut_keeps : (n q b : ℕ) → q < n → found_at object q ≡ Some b → found_at (cut_bytes n object) q ≡ Some b
  cut_keeps n q b h e = by split
    where
      split : (q + 1 ≡ n) ⊎ (q + 1 < n)
      split = grind (arith, h)

      by : (q + 1 ≡ n) ⊎ (q + 1 < n) → found_at (cut_bytes n object) q ≡ Some b
      by (inl s) = cut_ends n q s ∙ ap (λ o. Some (unwrap_or o 0)) e
      by (inr s) = cut_leaves n q s ∙ e

  end_below : (k : ℕ) (m : Object) (x : ℕ) → AllBelow k m → end_of (m ++ (k, x) ∷ []) ≡ k + 1
  end_below k [] x h = omega arith
  end_below k (e ∷ m) x h = let ih = end_below k m x h.1 in omega (arith, ih, h.0)

  cut_size : (n : ℕ) → object_size (cut_bytes n object) ≡ n
  cut_size zero = refl
  cut_size (suc last) = let e = end_below last (below last object) (unwrap_or (found_at object last) 0) (below_all last object)
      in omega (arith, e)

  cut_rises : (n : ℕ) → RisingFrom 0 object → RisingFrom 0 (cut_bytes n object)
  cut_rises zero h = tt
  cut_rises (suc last) h = rising_joined 0 last (below last object) ((last, unwrap_or (found_at object last) 0) ∷ []) (omega arith)
      (rising_below 0 last object h) (below_all last object) (omega arith, tt)

pub object_cuts : ObjectCuts
object_cuts n object =
    record {
      size = cut_size object n;
      drops = cut_drops object n;
      keeps = cut_keeps object n;
      leaves = cut_leaves object n;
      zero = λ q h e. cut_ends object n q h ∙ ap (λ o. Some (unwrap_or o 0)) e;
      rises = cut_rises object n;
    }

-- ---- what is read

fill_length : (count offset : ℕ) (o : Object) → RisingFrom offset o → length (filled count offset o) ≡ min count (end_of o - offset)
fill_length zero offset o h = omega arith
fill_length (suc count) offset [] h = omega arith
fill_length (suc count) offset (e ∷ o) h = by (e.0 == offset) refl (fill_length count (offset + 1) o)
    (fill_length count (offset + 1) (e ∷ o))
  where
    by : (v : Bool) → (e.0 == offset) ≡ v → (RisingFrom (offset + 1) o → length (filled count (offset + 1) o)
        ≡ min count (end_of o - (offset + 1)))
        → (RisingFrom (offset + 1) (e ∷ o) → length (filled count (offset + 1) (e ∷ o)) ≡ min count (end_of (e ∷ o) - (offset + 1)))
        → length (if v then e.1 ∷ filled count (offset + 1) o else 0 ∷ filled count (offset + 1) (e ∷ o))
        ≡ min (suc count) (end_of (e ∷ o) - offset)
    by true is one two =
        let same : e.0 ≡ offset = grind (arith, nat_tests) in
        let ih = one (subst (λ n. RisingFrom (n + 1) o) same h.1) in
        omega (arith, ih, same)
    by false is one two =
        let other : e.0 ≡ offset → ⊥ = λ q. absurd (cc (is, eq-eqb e.0 offset q)) in
        let above : offset + 1 ≤ e.0 = apart e.0 offset h.0 other in
        let ih = two (above, h.1) in
        omega (arith, ih, above)
      where
        apart : (a b : ℕ) → b ≤ a → (a ≡ b → ⊥) → b + 1 ≤ a
        apart a b h ne = grind (arith, h, ne)

fill_each : (count offset : ℕ) (o : Object) → RisingFrom offset o → (k : ℕ) → k < length (filled count offset o)
    → slice_index (filled count offset o) k ≡ unwrap_or (found_at o (offset + k)) 0
fill_each zero offset o h k less = absurd (omega (arith, less))
fill_each (suc count) offset [] h k less = absurd (omega (arith, less))
fill_each (suc count) offset (e ∷ o) h k less = by (e.0 == offset) refl (λ g j. fill_each count (offset + 1) o g j)
    (λ g j. fill_each count (offset + 1) (e ∷ o) g j) k less
  where
    by : (v : Bool) → (e.0 == offset) ≡ v
        → (RisingFrom (offset + 1) o → (j : ℕ) → j < length (filled count (offset + 1) o) → slice_index (filled count (offset + 1) o) j
        ≡ unwrap_or (found_at o (offset + 1 + j)) 0)
        → (RisingFrom (offset + 1) (e ∷ o) → (j : ℕ) → j < length (filled count (offset + 1) (e ∷ o))
        → slice_index (filled count (offset + 1) (e ∷ o)) j ≡ unwrap_or (found_at (e ∷ o) (offset + 1 + j)) 0)
        → (k : ℕ) → k < length (if v then e.1 ∷ filled count (offset + 1) o else 0 ∷ filled count (offset + 1) (e ∷ o))
        → slice_index (if v then e.1 ∷ filled count (offset + 1) o else 0 ∷ filled count (offset + 1) (e ∷ o)) k
        ≡ unwrap_or (found_at (e ∷ o) (offset + k)) 0
    by true is one two zero less =
        let same : e.0 ≡ offset = grind (arith, nat_tests) in
        let here : nat_eq (offset + 0) e.0 ≡ true = eq-eqb (offset + 0) e.0 (omega (arith, same)) in
        rw here refl
    by true is one two (suc j) less =
        let same : e.0 ≡ offset = grind (arith, nat_tests) in
        let past : nat_eq (offset + suc j) e.0 ≡ false = grind (arith, nat_tests, same) in
        let moved : offset + 1 + j ≡ offset + suc j = omega arith in
        one (subst (λ n. RisingFrom (n + 1) o) same h.1) j (omega (arith, less)) ∙ ap (λ q. unwrap_or (found_at o q) 0) moved ∙ rw past refl
    by false is one two k less = later (apart e.0 offset h.0 (λ q. absurd (cc (is, eq-eqb e.0 offset q)))) k less
      where
        apart : (a b : ℕ) → b ≤ a → (a ≡ b → ⊥) → b + 1 ≤ a
        apart a b h ne = grind (arith, h, ne)

        later : offset + 1 ≤ e.0 → (k : ℕ) → k < length (0 ∷ filled count (offset + 1) (e ∷ o))
            → slice_index (0 ∷ filled count (offset + 1) (e ∷ o)) k ≡ unwrap_or (found_at (e ∷ o) (offset + k)) 0
        later above zero less = sym (ap (λ x. unwrap_or x 0) (none_before (offset + 1) (offset + 0) (e ∷ o) (above, h.1) (omega arith)))
        later above (suc j) less =
            let moved : offset + 1 + j ≡ offset + suc j = omega arith in
            two (above, h.1) j (omega (arith, less)) ∙ ap (λ q. unwrap_or (found_at (e ∷ o) q) 0) moved

module _ (page : ℕ) (lock : Extent) (object : Object) (rises : RisingFrom 0 object) where
  abbrev start : ℕ
  start = page * page_size

  abbrev part : Object
  part = inside (page_extent page) (inside lock object)

  part_rises : RisingFrom start part
  part_rises = rising_inside lock.first (page_extent page) (inside lock object) (rising_inside 0 lock object rises)

  part_found : (q : ℕ) → found_at part q ≡ (if is_in (page_extent page) q then (if is_in lock q then found_at object q else None) else None)
  part_found q = found_inside (page_extent page) (inside lock object) q
      ∙ ap (λ x. if is_in (page_extent page) q then x else None) (found_inside lock object q)

  count_is : length (content page lock object) ≡ end_of part - start
  count_is =
      let e = fill_length page_size start part part_rises in
      let h : end_of part ≤ start + 4095 + 1 = end_inside (page_extent page) (inside lock object) in
      omega (arith, e, h)

  in_page : (k : ℕ) → k < length (content page lock object) → is_in (page_extent page) (start + k) ≡ true
  in_page k less =
      let h : end_of part ≤ start + 4095 + 1 = end_inside (page_extent page) (inside lock object) in
      in_whole (page_extent page) (start + k) (omega arith) (omega (arith, h, less, count_is))

  get_each : (k : ℕ) → k < length (content page lock object) → slice_index (content page lock object) k
      ≡ (if is_in lock (start + k) then unwrap_or (found_at object (start + k)) 0 else 0)
  get_each k less =
      fill_each page_size start part part_rises k less ∙ ap (λ x. unwrap_or x 0)
      (part_found (start + k) ∙ ap (λ v. if v then (if is_in lock (start + k) then found_at object (start + k) else None) else None)
      (in_page k less))
      ∙ by (is_in lock (start + k))
    where
      by : (v : Bool) → unwrap_or (if v then found_at object (start + k) else None) 0
          ≡ (if v then unwrap_or (found_at object (start + k)) 0 else 0)
      by true = refl
      by false = refl

  get_page : length (content page lock object) ≤ page_size
  get_page = let h : end_of part ≤ start + 4095 + 1 = end_inside (page_extent page) (inside lock object) in omega (arith, h, count_is)

  get_past : (q : ℕ) → is_in (page_extent page) q ≡ true → is_in lock q ≡ true → start + length (content page lock object) ≤ q
      → found_at object q ≡ None
  get_past q on under past =
      sym (part_found q ∙ ap (λ v. if v then (if is_in lock q then found_at object q else None) else None) on
      ∙ ap (λ v. if v then found_at object q else None) under)
      ∙ end_past part q (omega (arith, count_is, past))

  get_last : 0 < length (content page lock object) → (is_in lock (start + length (content page lock object) - 1) ≡ true)
      × (found_at object (start + length (content page lock object) - 1) ≢ None)
  get_last some = by (is_in (page_extent page) at) (is_in lock at) refl refl
    where
      at : ℕ
      at = start + length (content page lock object) - 1

      at_is : end_of part - 1 ≡ at
      at_is = omega (arith, some, count_is)

      there : found_at part at ≢ None
      there e = end_last part (omega (arith, some, count_is)) (ap (found_at part) at_is ∙ e)

      by : (v w : Bool) → is_in (page_extent page) at ≡ v → is_in lock at ≡ w → (is_in lock at ≡ true) × (found_at object at ≢ None)
      by true true on under = (under, λ e. there (part_found at ∙ rw (on, under) e))
      by true false on under = absurd (there (part_found at ∙ rw (on, under) refl))
      by false w on under = absurd (there (part_found at ∙ rw on refl))

pub get_reads : GetReads
get_reads page lock object rises =
    record {
      each = get_each page lock object rises;
      whole = get_page page lock object rises;
      past = get_past page lock object rises;
      last = get_last page lock object rises;
    }
