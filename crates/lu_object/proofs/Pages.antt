-- What a `get` reads depends on the bytes in its range alone, and on the part of the range that lies in the page; and it is
-- what a read of that part gives, behind zeros from the page's start.
use Rattle.std.proofs.Common.{◌≡◌, ℕ, zero, suc, ◌+◌, ◌-◌, ◌*◌, ◌/◌, ◌%◌, ◌<◌, ◌≤◌, max, min, Bool, true, false, cond, List, [], ◌∷◌, ◌++◌}
use Rattle.std.proofs.Common.{Option, Some, None, refl, sym, ap, ◌∙◌, subst, arith}
use Rattle.std.specs.Prelude.{nat_le, ◌&&◌, ◌==◌, filter, replicate, if◌then◌else◌}
use Rattle.std.proofs.lemmas.Bool.Decides.{nat_tests}
use Rattle.lu_base.specs.declared.locks.Extent.{Extent}
use Rattle.lu_spec_machine.specs.Places.{Places, found_at, RisingFrom, is_in, inside, end_of}
use Rattle.lu_spec_machine.specs.Objects.{Object, page_size, page_extent, filled, content}
use Rattle.lu_spec_machine.proofs.Places.{found_inside, rising_inside, none_before, in_parts, in_whole, end_inside}
use Rattle.lu_spec_bytes.proofs.Rising.{same_map}
use Rattle.lu_object.specs.Reading.{bytes_from, read_from}
use Rattle.lu_object.proofs.Looked.{looked, filled_looked, looked_gap}

-- the same bytes in a range are one list
pub same_inside : (extent : Extent) (o p : Object) → RisingFrom 0 o → RisingFrom 0 p
    → ((q : ℕ) → is_in extent q ≡ true → found_at o q ≡ found_at p q) → inside extent o ≡ inside extent p
same_inside extent o p one two same =
    same_map extent.first (inside extent o) (inside extent p) (rising_inside 0 extent o one) (rising_inside 0 extent p two)
    (λ q h. found_inside extent o q ∙ by q (is_in extent q) refl ∙ sym (found_inside extent p q))
  where
    by : (q : ℕ) (v : Bool) → is_in extent q ≡ v → (if v then found_at o q else None) ≡ (if v then found_at p q else None)
    by q true is = same q is
    by q false is = refl

pub same_content : (page : ℕ) (extent : Extent) (o p : Object) → RisingFrom 0 o → RisingFrom 0 p
    → ((q : ℕ) → is_in extent q ≡ true → found_at o q ≡ found_at p q) → content page extent o ≡ content page extent p
same_content page extent o p one two same = ap (λ m. filled page_size (page * page_size) (inside (page_extent page) m))
    (same_inside extent o p one two same)

-- ---- the part of the range in the page

-- the offsets in both
abbrev common : Extent → Extent → Extent
common a b = record { first = max a.first b.first; last = min a.last b.last }

in_both : (a b : Extent) (q : ℕ) → is_in (common a b) q ≡ (is_in a q && is_in b q)
in_both a b q = by (nat_le a.first q) (nat_le q a.last) (nat_le b.first q) (nat_le q b.last) refl refl refl refl
  where
    starts : (v w : Bool) → nat_le a.first q ≡ v → nat_le b.first q ≡ w → nat_le (max a.first b.first) q ≡ (v && w)
    starts true true one two = grind (arith, nat_tests)
    starts true false one two = grind (arith, nat_tests)
    starts false w one two = grind (arith, nat_tests)

    ends : (v w : Bool) → nat_le q a.last ≡ v → nat_le q b.last ≡ w → nat_le q (min a.last b.last) ≡ (v && w)
    ends true true one two = grind (arith, nat_tests)
    ends true false one two = grind (arith, nat_tests)
    ends false w one two = grind (arith, nat_tests)

    tests : (t u v w : Bool) → ((t && v) && (u && w)) ≡ ((t && u) && (v && w))
    tests true true true w = refl
    tests true true false w = refl
    tests true false true w = refl
    tests true false false w = refl
    tests false u v w = refl

    by : (t u v w : Bool) → nat_le a.first q ≡ t → nat_le q a.last ≡ u → nat_le b.first q ≡ v → nat_le q b.last ≡ w → is_in (common a b) q
        ≡ (is_in a q && is_in b q)
    by t u v w one two three four = rw (starts t v one three, ends u w two four, one, two, three, four) (tests t u v w)

pub inside_common : (a b : Extent) (m : Places ℕ) → inside a (inside b m)
    ≡ inside a (inside (record { first = max a.first b.first; last = min a.last b.last }) m)
inside_common a b [] = refl
inside_common a b (e ∷ m) = by (is_in a e.0) (is_in b e.0) refl refl (inside_common a b m)
  where
    by : (v w : Bool) → is_in a e.0 ≡ v → is_in b e.0 ≡ w → inside a (inside b m) ≡ inside a (inside (common a b) m)
        → inside a (inside b (e ∷ m)) ≡ inside a (inside (common a b) (e ∷ m))
    by true true one two ih = let both : is_in (common a b) e.0 ≡ true = in_both a b e.0 ∙ rw (one, two) refl
        in rw (two, both, one) (ap (λ es. e ∷ es) ih)
    by true false one two ih = let both : is_in (common a b) e.0 ≡ false = in_both a b e.0 ∙ rw (one, two) refl in rw (two, both) ih
    by false true one two ih = let both : is_in (common a b) e.0 ≡ false = in_both a b e.0 ∙ rw one refl in rw (two, both, one) ih
    by false false one two ih = let both : is_in (common a b) e.0 ≡ false = in_both a b e.0 ∙ rw one refl in rw (two, both) ih

-- ---- a page by a read of the part

inside_within : (a b : Extent) (m : Places ℕ) → a.first ≤ b.first → b.last ≤ a.last → inside a (inside b m) ≡ inside b m
inside_within a b [] low high = refl
inside_within a b (e ∷ m) low high = by (is_in b e.0) refl (inside_within a b m low high)
  where
    by : (v : Bool) → is_in b e.0 ≡ v → inside a (inside b m) ≡ inside b m → inside a (cond v (e ∷ inside b m) (inside b m))
        ≡ cond v (e ∷ inside b m) (inside b m)
    by true is ih =
        let parts = in_parts b e.0 is in
        let on : is_in a e.0 ≡ true = in_whole a e.0 (omega (arith, low, parts.0)) (omega (arith, high, parts.1)) in
        rw on (ap (λ es. e ∷ es) ih)
    by false is ih = ih

nothing_filled : (count offset : ℕ) (m : Object) → filled (suc count) offset m ≡ [] → m ≡ []
nothing_filled count offset [] is = refl
nothing_filled count offset (e ∷ m) is = by (e.0 == offset) is
  where
    by : (v : Bool) → (if v then e.1 ∷ filled count (offset + 1) m else 0 ∷ filled count (offset + 1) (e ∷ m)) ≡ [] → e ∷ m ≡ []
    by true is = absurd (cc (is))
    by false is = absurd (cc (is))

nothing_stands : (count offset : ℕ) (m : Object) → 0 < count → filled count offset m ≡ [] → m ≡ []
nothing_stands zero offset m some is = absurd (omega (arith, some))
nothing_stands (suc count) offset m some is = nothing_filled count offset m is

some_end : (n : ℕ) (m : Object) → RisingFrom n m → (m ≡ [] → ⊥) → n < end_of m
some_end n [] h some = absurd (some refl)
some_end n (e ∷ m) h some = omega (arith, h.0)

module _ (part : Extent) (object : Object) (ordered : part.first ≤ part.last) (page : part.last / page_size ≡ part.first / page_size)
    (rises : RisingFrom 0 object) where
  abbrev at : ℕ
  at = part.first / page_size

  abbrev count : ℕ
  count = part.last - part.first + 1

  same_part : inside (bytes_from part.first count) object ≡ inside part object
  same_part = let ends : part.first + (part.last - part.first + 1 - 1) ≡ part.last = omega (arith, ordered)
      in ap (λ last. inside (record { first = part.first; last = last }) object) ends

  read_part : read_from part.first count object ≡ filled count part.first (inside part object)
  read_part = ap (filled count part.first) same_part

  in_page : inside (page_extent at) (inside part object) ≡ inside part object
  in_page = inside_within (page_extent at) part object (omega (arith, page)) (omega (arith, page))

  pub none_read : read_from part.first count object ≡ [] → content at part object ≡ []
  none_read is =
      let empty : inside part object ≡ [] = nothing_stands count part.first (inside part object) (omega arith) (sym read_part ∙ is) in
      ap (λ m. filled page_size (at * page_size) (inside (page_extent at) m)) empty

  pub some_read : (read_from part.first count object ≡ [] → ⊥) → content at part object ≡ replicate (part.first % page_size) 0
      ++ read_from part.first count object
  some_read some =
      ap (filled page_size (at * page_size)) in_page
      ∙ filled_looked page_size (at * page_size) m rises_page
      ∙ ap (λ n. looked n (at * page_size) m) whole
      ∙ looked_gap (part.first % page_size) (end_of m - part.first) (at * page_size) m (subst (λ n. RisingFrom n m) start rises_part)
      ∙ ap (λ n. replicate (part.first % page_size) 0 ++ looked (end_of m - part.first) n m) (sym start)
      ∙ ap (λ bs. replicate (part.first % page_size) 0 ++ bs) (sym
      (read_part ∙ filled_looked count part.first m rises_part ∙ ap (λ n. looked n part.first m) least))
    where
      m : Object
      m = inside part object

      rises_part : RisingFrom part.first m
      rises_part = rising_inside 0 part object rises

      rises_page : RisingFrom (at * page_size) m
      rises_page = subst (λ o. RisingFrom (at * page_size) o) in_page (rising_inside part.first (page_extent at) m rises_part)

      start : part.first ≡ at * page_size + part.first % page_size
      start = omega arith

      past : part.first < end_of m
      past = some_end part.first m rises_part (λ is. some (read_part ∙ ap (filled count part.first) is ∙ none_filled count part.first))
        where
          none_filled : (n offset : ℕ) → filled n offset [] ≡ []
          none_filled zero offset = refl
          none_filled (suc n) offset = refl

      ends : end_of m ≤ part.last + 1
      ends = end_inside part object

      whole : min page_size (end_of m - at * page_size) ≡ part.first % page_size + (end_of m - part.first)
      whole = omega (arith, past, ends, page, start)

      least : min count (end_of m - part.first) ≡ end_of m - part.first
      least = omega (arith, past, ends, ordered)
