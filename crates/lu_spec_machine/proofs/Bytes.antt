-- The machine's bytes, position by position.
use Rattle.std.proofs.Common.{◌≡◌, ◌≢◌, ℕ, zero, suc, ◌+◌, ◌-◌, ◌<◌, ◌≤◌, ◌⊎◌, inl, inr, List, [], ◌∷◌, Some, None, refl, sym, ap, subst}
use Rattle.std.proofs.Common.{◌∙◌, ⊎_elim, arith, length}
use Rattle.std.specs.Prelude.{slice_index}
use Rattle.std.specs.List.{fold, range_with_len}
use Rattle.std.proofs.lemmas.List.FromFn.{get_or-map-range_with_len, length-map-range_with_len}
use Rattle.lu_layout.specs.Raid0.{Raid0, stripe_of, offset_of, position_of, below_of, IsFileSize}
use Rattle.lu_layout.specs.Sound.{IsLayout}
use Rattle.lu_layout.proofs.Below.{IsCount, IsCount-below_of}
use Rattle.lu_layout.proofs.Places.{stripe_of-position_of, offset_of-position_of, position_of-place, stripe_of-lt, position_of-lt}
use Rattle.lu_layout.proofs.Sizes.{IsFileSize-file_size_of}
use Rattle.lu_spec_machine.specs.Places.{found_at, end_of}
use Rattle.lu_spec_machine.specs.Objects.{Object, put_bytes, cut_bytes, object_size}
use Rattle.lu_spec_machine.specs.Bytes.{FileBytes, object_at, on_object, byte_at, sizes_of, size_of, write, cut, put_piece, cut_piece}
use Rattle.lu_spec_machine.specs.ByteLaws.{SizeIsEnd, WritePuts, CutEnds, PiecePuts, PieceCuts, PiecesArePlain}
use Rattle.lu_spec_machine.proofs.Places.{end_past, end_last}
use Rattle.lu_spec_machine.proofs.Objects.{object_puts, object_cuts, cut_some}

-- ---- the objects of a file

module _ (change : Object → Object) where
  pub on_here : (stripe : ℕ) (m : FileBytes) → object_at (on_object change stripe m) stripe ≡ change (object_at m stripe)
  on_here zero [] = refl
  on_here zero (o ∷ os) = refl
  on_here (suc s) [] = on_here s []
  on_here (suc s) (o ∷ os) = on_here s os

  pub on_other : (stripe other : ℕ) (m : FileBytes) → other ≢ stripe → object_at (on_object change stripe m) other ≡ object_at m other
  on_other zero zero m ne = absurd (ne refl)
  on_other zero (suc i) [] ne = refl
  on_other zero (suc i) (o ∷ os) ne = refl
  on_other (suc s) zero [] ne = refl
  on_other (suc s) zero (o ∷ os) ne = refl
  on_other (suc s) (suc i) [] ne = on_other s i [] (λ e. ne (ap suc e))
  on_other (suc s) (suc i) (o ∷ os) ne = on_other s i os (λ e. ne (ap suc e))

pub pieces_are_plain : PiecesArePlain
pieces_are_plain stripe m =
    record {
      put = λ offset bs. on_here (put_bytes offset bs) stripe m;
      cut = λ size. on_here (cut_bytes size) stripe m;
      other_put = λ other ne offset bs. on_other (put_bytes offset bs) stripe other m ne;
      other_cut = λ other ne size. on_other (cut_bytes size) stripe other m ne;
    }

same_or_other : (a b : ℕ) → (a ≡ b) ⊎ (a ≢ b)
same_or_other zero zero = inl refl
same_or_other zero (suc b) = inr (λ e. absurd (omega (arith, e)))
same_or_other (suc a) zero = inr (λ e. absurd (omega (arith, e)))
same_or_other (suc a) (suc b) = ⊎_elim (λ (e : a ≡ b). inl (ap suc e)) (λ (ne : a ≢ b). inr (λ e. ne (omega (arith, e))))
    (same_or_other a b)

-- ---- the size

module _ (l : Raid0) (m : FileBytes) (layout : IsLayout l) where
  size_at : ℕ → ℕ
  size_at stripe = object_size (object_at m stripe)

  is_size : IsFileSize l (sizes_of l m) (size_of l m)
  is_size = IsFileSize-file_size_of l (sizes_of l m)

  size_is : (i : ℕ) → i < length l.targets → slice_index (sizes_of l m) i ≡ size_at i
  unfolding size_at
  size_is i h = get_or-map-range_with_len (λ stripe. object_size (object_at m stripe)) 0 (length l.targets) i i 0 h (omega arith)

  count_is : length (sizes_of l m) ≡ length l.targets
  count_is = length-map-range_with_len (λ stripe. object_size (object_at m stripe)) 0 (length l.targets)

  -- an object's last byte lies before the end
  covers : (i last : ℕ) → i < length l.targets → object_size (object_at m i) ≡ last + 1 → position_of l i last < size_of l m
  unfolding size_at
  covers i last h e =
      let s : slice_index (sizes_of l m) i ≡ last + 1 = size_is i h ∙ e in
      let g : position_of l i (slice_index (sizes_of l m) i - 1) < size_of l m =
      is_size.covers i (omega (arith, h, count_is)) (omega (arith, s)) in
      let q : slice_index (sizes_of l m) i - 1 ≡ last = omega (arith, s) in
      subst (λ k. position_of l i k < size_of l m) q g

  none_past : (p : ℕ) → size_of l m ≤ p → byte_at l m p ≡ None
  none_past p h = ⊎_elim (λ (g : end_of object ≤ offset_of l p). end_past object (offset_of l p) g)
      (λ (g : offset_of l p < end_of object). absurd (out g)) split
    where
      object : Object
      object = object_at m (stripe_of l p)

      split : (end_of object ≤ offset_of l p) ⊎ (offset_of l p < end_of object)
      split = grind arith

      out : offset_of l p < end_of object → ⊥
      out g =
          let c = covers (stripe_of l p) (end_of object - 1) (stripe_of-lt l p layout) (omega (arith, g)) in
          let at = position_of-place l p layout in
          ⊎_elim (λ (e : offset_of l p ≡ end_of object - 1). let k : position_of l (stripe_of l p) (end_of object - 1) ≡ p =
          ap (position_of l (stripe_of l p)) (sym e) ∙ at in absurd (omega (arith, c, k, h)))
          (λ (less : offset_of l p < end_of object - 1). let k =
          position_of-lt l (stripe_of l p) (offset_of l p) (end_of object - 1) layout less in absurd (omega (arith, c, k, at, h)))
          (near g)
        where
          near : offset_of l p < end_of object → (offset_of l p ≡ end_of object - 1) ⊎ (offset_of l p < end_of object - 1)
          near g = grind (arith, g)

  -- the byte of a stripe's offset
  pub byte_on : (stripe offset : ℕ) → stripe < length l.targets → byte_at l m (position_of l stripe offset)
      ≡ found_at (object_at m stripe) offset
  byte_on stripe offset h =
      ap (λ s. found_at (object_at m s) (offset_of l (position_of l stripe offset))) (stripe_of-position_of l stripe offset layout h)
      ∙ ap (found_at (object_at m stripe)) (offset_of-position_of l stripe offset layout h)

  some_last : 0 < size_of l m → byte_at l m (size_of l m - 1) ≢ None
  unfolding size_at
  some_last some = by is_size.reached
    where
      by : (size_of l m ≡ 0) ⊎ ((i : ℕ) × (i < length (sizes_of l m)) × (0 < slice_index (sizes_of l m) i)
          × (size_of l m ≡ position_of l i (slice_index (sizes_of l m) i - 1) + 1)) → byte_at l m (size_of l m - 1) ≢ None
      by (inl none) = absurd (omega (arith, some, none))
      by (inr r) =
          let h : r.0 < length l.targets = omega (arith, r.1, count_is) in
          let s : slice_index (sizes_of l m) r.0 ≡ object_size (object_at m r.0) = size_is r.0 h in
          let at : size_of l m - 1 ≡ position_of l r.0 (object_size (object_at m r.0) - 1) =
          (let q : size_of l m - 1 ≡ position_of l r.0 (slice_index (sizes_of l m) r.0 - 1) = omega (arith, r.3) in q
          ∙ ap (λ k. position_of l r.0 (k - 1)) s) in
          let some : 0 < end_of (object_at m r.0) = omega (arith, r.2, s) in
          λ e. end_last (object_at m r.0) some (sym (byte_on r.0 (object_size (object_at m r.0) - 1) h) ∙ ap (byte_at l m) (sym at) ∙ e)

pub size_is_end : SizeIsEnd
size_is_end l m layout = record { past = none_past l m layout; last = some_last l m layout }

-- ---- a write

module _ (l : Raid0) (layout : IsLayout l) where
  put_one : ℕ → ℕ → FileBytes → FileBytes
  put_one p b m = put_piece (stripe_of l p) (offset_of l p) (b ∷ []) m

  put_here : (p b : ℕ) (m : FileBytes) → byte_at l (put_piece (stripe_of l p) (offset_of l p) (b ∷ []) m) p ≡ Some b
  put_here p b m =
      ap (λ o. found_at o (offset_of l p)) (on_here (put_bytes (offset_of l p) (b ∷ [])) (stripe_of l p) m)
      ∙ ap (found_at (put_bytes (offset_of l p) (b ∷ []) (object_at m (stripe_of l p)))) (omega arith)
      ∙ (object_puts (offset_of l p) (b ∷ []) (object_at m (stripe_of l p))).puts 0 (omega arith)

  put_other : (p q b : ℕ) (m : FileBytes) → p ≢ q → byte_at l (put_piece (stripe_of l p) (offset_of l p) (b ∷ []) m) q ≡ byte_at l m q
  put_other p q b m ne = ⊎_elim same other (same_or_other (stripe_of l q) (stripe_of l p))
    where
      other : stripe_of l q ≢ stripe_of l p → byte_at l (put_piece (stripe_of l p) (offset_of l p) (b ∷ []) m) q ≡ byte_at l m q
      other d = ap (λ o. found_at o (offset_of l q)) (on_other (put_bytes (offset_of l p) (b ∷ [])) (stripe_of l p) (stripe_of l q) m d)

      same : stripe_of l q ≡ stripe_of l p → byte_at l (put_piece (stripe_of l p) (offset_of l p) (b ∷ []) m) q ≡ byte_at l m q
      same s =
          ap (λ i. found_at (object_at (put_piece (stripe_of l p) (offset_of l p) (b ∷ []) m) i) (offset_of l q)) s
          ∙ ap (λ o. found_at o (offset_of l q)) (on_here (put_bytes (offset_of l p) (b ∷ [])) (stripe_of l p) m)
          ∙ (object_puts (offset_of l p) (b ∷ []) (object_at m (stripe_of l p))).leaves (offset_of l q) apart
          ∙ ap (λ i. found_at (object_at m i) (offset_of l q)) (sym s)
        where
          offsets : offset_of l q ≢ offset_of l p
          offsets e = ne (sym (position_of-place l p layout) ∙ ap (λ i. position_of l i (offset_of l p)) (sym s)
              ∙ ap (position_of l (stripe_of l q)) (sym e) ∙ position_of-place l q layout)

          sides : (a c : ℕ) → a ≢ c → (a < c) ⊎ (c + 1 ≤ a)
          sides a c h = grind (arith, h)

          apart : (offset_of l q < offset_of l p) ⊎ (offset_of l p + length (b ∷ []) ≤ offset_of l q)
          apart = ⊎_elim (λ (h : offset_of l q < offset_of l p). inl h) (λ (h : offset_of l p + 1 ≤ offset_of l q). inr (omega (arith, h)))
              (sides (offset_of l q) (offset_of l p) offsets)

  write_leaves : (offset : ℕ) (bs : List ℕ) (m : FileBytes) (p : ℕ) → (p < offset) ⊎ (offset + length bs ≤ p)
      → byte_at l (write l offset bs m) p ≡ byte_at l m p
  write_leaves offset [] m p h = refl
  write_leaves offset (b ∷ bs) m p h = write_leaves (offset + 1) bs (put_piece (stripe_of l offset) (offset_of l offset) (b ∷ []) m) p
      (further h) ∙ put_other offset p b m (apart h)
    where
      further : (p < offset) ⊎ (offset + length (b ∷ bs) ≤ p) → (p < offset + 1) ⊎ (offset + 1 + length bs ≤ p)
      further (inl g) = inl (omega (arith, g))
      further (inr g) = inr (omega (arith, g))

      apart : (p < offset) ⊎ (offset + length (b ∷ bs) ≤ p) → offset ≢ p
      apart (inl g) e = absurd (omega (arith, g, e))
      apart (inr g) e = absurd (omega (arith, g, e))

  write_puts_at : (offset : ℕ) (bs : List ℕ) (m : FileBytes) (k : ℕ) → k < length bs → byte_at l (write l offset bs m) (offset + k)
      ≡ Some (slice_index bs k)
  write_puts_at offset [] m k h = absurd (omega (arith, h))
  write_puts_at offset (b ∷ bs) m zero h =
      let at : offset + 0 ≡ offset = omega arith in
      ap (byte_at l (write l offset (b ∷ bs) m)) at ∙ write_leaves (offset + 1) bs
      (put_piece (stripe_of l offset) (offset_of l offset) (b ∷ []) m) offset (inl (omega arith)) ∙ put_here offset b m
  write_puts_at offset (b ∷ bs) m (suc k) h =
      let at : offset + suc k ≡ offset + 1 + k = omega arith in
      ap (byte_at l (write l offset (b ∷ bs) m)) at ∙ write_puts_at (offset + 1) bs
      (put_piece (stripe_of l offset) (offset_of l offset) (b ∷ []) m) k (omega (arith, h))

  write_lacks : (offset : ℕ) (bs : List ℕ) (m : FileBytes) (stripe : ℕ) → length l.targets ≤ stripe → object_at (write l offset bs m) stripe
      ≡ object_at m stripe
  write_lacks offset [] m stripe h = refl
  write_lacks offset (b ∷ bs) m stripe h =
      write_lacks (offset + 1) bs (put_piece (stripe_of l offset) (offset_of l offset) (b ∷ []) m) stripe h
      ∙ on_other (put_bytes (offset_of l offset) (b ∷ [])) (stripe_of l offset) stripe m
      (λ e. let g = stripe_of-lt l offset layout in absurd (omega (arith, h, g, e)))

pub write_puts : WritePuts
write_puts l offset bs m layout = record {
  puts = write_puts_at l layout offset bs m;
  leaves = write_leaves l layout offset bs m;
  lacks =
      write_lacks l layout offset bs m;
}

-- ---- cuts

module _ (l : Raid0) (n : ℕ) where
  abbrev cuts : FileBytes → List ℕ → FileBytes
  cuts m stripes = fold (λ k stripe. cut_piece stripe (below_of l stripe n) k) m stripes

  cut_without : (a k : ℕ) (m : FileBytes) (stripe : ℕ) → (stripe < a) ⊎ (a + k ≤ stripe) → object_at (cuts m (range_with_len a k)) stripe
      ≡ object_at m stripe
  cut_without a zero m stripe h = refl
  cut_without a (suc k) m stripe h = cut_without (a + 1) k (cut_piece a (below_of l a n) m) stripe (further h)
      ∙ on_other (cut_bytes (below_of l a n)) a stripe m (apart h)
    where
      further : (stripe < a) ⊎ (a + suc k ≤ stripe) → (stripe < a + 1) ⊎ (a + 1 + k ≤ stripe)
      further (inl g) = inl (omega (arith, g))
      further (inr g) = inr (omega (arith, g))

      apart : (stripe < a) ⊎ (a + suc k ≤ stripe) → stripe ≢ a
      apart (inl g) e = absurd (omega (arith, g, e))
      apart (inr g) e = absurd (omega (arith, g, e))

  cut_within : (a k : ℕ) (m : FileBytes) (stripe : ℕ) → a ≤ stripe → stripe < a + k → object_at (cuts m (range_with_len a k)) stripe
      ≡ cut_bytes (below_of l stripe n) (object_at m stripe)
  cut_within a zero m stripe h g = absurd (omega (arith, h, g))
  cut_within a (suc k) m stripe h g = ⊎_elim here (λ ne. later ne
      (cut_within (a + 1) k (cut_piece a (below_of l a n) m) stripe (above stripe a h ne) (omega (arith, g)))) (same_or_other stripe a)
    where
      here : stripe ≡ a → object_at (cuts m (range_with_len a (suc k))) stripe ≡ cut_bytes (below_of l stripe n) (object_at m stripe)
      here e =
          cut_without (a + 1) k (cut_piece a (below_of l a n) m) stripe (inl (omega (arith, e)))
          ∙ ap (object_at (cut_piece a (below_of l a n) m)) e ∙ on_here (cut_bytes (below_of l a n)) a m
          ∙ ap (λ i. cut_bytes (below_of l i n) (object_at m i)) (sym e)

      above : (b a : ℕ) → a ≤ b → b ≢ a → a + 1 ≤ b
      above b a h ne = grind (arith, h, ne)

      later : stripe ≢ a → object_at (cuts (cut_piece a (below_of l a n) m) (range_with_len (a + 1) k)) stripe
          ≡ cut_bytes (below_of l stripe n) (object_at (cut_piece a (below_of l a n) m) stripe)
          → object_at (cuts m (range_with_len a (suc k))) stripe ≡ cut_bytes (below_of l stripe n) (object_at m stripe)
      later ne ih = ih ∙ ap (cut_bytes (below_of l stripe n)) (on_other (cut_bytes (below_of l a n)) a stripe m ne)

  cut_objects : (m : FileBytes) (stripe : ℕ) → stripe < length l.targets → object_at (cut l n m) stripe
      ≡ cut_bytes (below_of l stripe n) (object_at m stripe)
  cut_objects m stripe h = cut_within 0 (length l.targets) m stripe (omega arith) (omega (arith, h))

  cut_lacks : (m : FileBytes) (stripe : ℕ) → length l.targets ≤ stripe → object_at (cut l n m) stripe ≡ object_at m stripe
  cut_lacks m stripe h = cut_without 0 (length l.targets) m stripe (inr (omega (arith, h)))

  module _ (layout : IsLayout l) (m : FileBytes) (p : ℕ) where
    s : ℕ
    s = stripe_of l p

    o : ℕ
    o = offset_of l p

    c : ℕ
    c = below_of l s n

    count : IsCount l s n c
    unfolding s c
    count = IsCount-below_of l s n layout (stripe_of-lt l p layout)

    here : position_of l s o ≡ p
    unfolding s o
    here = position_of-place l p layout

    cut_at : byte_at l (cut l n m) p ≡ found_at (cut_bytes c (object_at m s)) o
    unfolding s o c
    cut_at = ap (λ x. found_at x (offset_of l p)) (cut_objects m (stripe_of l p) (stripe_of-lt l p layout))

    past_count : n ≤ p → c ≤ o
    past_count h = ⊎_elim (λ (g : c ≤ o). g) (λ (g : o < c). absurd (let k = (count.counts o).0 g in omega (arith, k, here, h))) split
      where
        split : (c ≤ o) ⊎ (o < c)
        split = grind arith

    before_count : p < n → o < c
    before_count h = (count.counts o).1 (omega (arith, here, h))

    cut_drops : n ≤ p → byte_at l (cut l n m) p ≡ None
    cut_drops h = cut_at ∙ (object_cuts c (object_at m s)).drops o (past_count h)

    cut_keeps : (b : ℕ) → p < n → byte_at l m p ≡ Some b → byte_at l (cut l n m) p ≡ Some b
    unfolding s o
    cut_keeps b h e = cut_at ∙ (object_cuts c (object_at m s)).keeps o b (before_count h) e

    cut_zeros : byte_at l m p ≡ None → (byte_at l (cut l n m) p ≡ None) ⊎ (byte_at l (cut l n m) p ≡ Some 0)
    unfolding s o
    cut_zeros e = by (places o c)
      where
        places : (o c : ℕ) → (c ≤ o) ⊎ ((o + 1 ≡ c) ⊎ (o + 1 < c))
        places o c = grind arith

        by : (c ≤ o) ⊎ ((o + 1 ≡ c) ⊎ (o + 1 < c)) → (byte_at l (cut l n m) p ≡ None) ⊎ (byte_at l (cut l n m) p ≡ Some 0)
        by (inl h) = inl (cut_at ∙ (object_cuts c (object_at m s)).drops o h)
        by (inr (inl h)) = inr (cut_at ∙ (object_cuts c (object_at m s)).zero o h e)
        by (inr (inr h)) = inl (cut_at ∙ (object_cuts c (object_at m s)).leaves o h ∙ e)

    -- the last position below n is its stripe's last
    cut_last : n ≡ p + 1 → byte_at l (cut l n m) p ≢ None
    cut_last e q = cut_some (object_at m s) c o exact (sym cut_at ∙ q)
      where
        not_next : o + 1 < c → ⊥
        not_next h =
            let a : position_of l s (o + 1) < n = (count.counts (o + 1)).0 h in
            let b : position_of l s o < position_of l s (o + 1) = position_of-lt l s o (o + 1) layout (omega arith) in
            absurd (omega (arith, a, b, here, e))

        pinned : (o c : ℕ) → o < c → (o + 1 < c → ⊥) → o + 1 ≡ c
        pinned o c h g = ⊎_elim (λ (q : o + 1 ≡ c). q) (λ (q : o + 1 < c). absurd (g q)) (split o c h)
          where
            split : (o c : ℕ) → o < c → (o + 1 ≡ c) ⊎ (o + 1 < c)
            split o c h = grind (arith, h)

        exact : o + 1 ≡ c
        exact = pinned o c (before_count (omega (arith, e))) not_next

size_unique : (l : Raid0) (m : FileBytes) (layout : IsLayout l) (n : ℕ) → ((p : ℕ) → n ≤ p → byte_at l m p ≡ None)
    → ((k : ℕ) → n ≡ k + 1 → byte_at l m k ≢ None) → size_of l m ≡ n
size_unique l m layout n past last = by (split (size_of l m) n)
  where
    split : (s n : ℕ) → (s ≡ n) ⊎ ((s < n) ⊎ (n < s))
    split s n = grind arith

    by : (size_of l m ≡ n) ⊎ ((size_of l m < n) ⊎ (n < size_of l m)) → size_of l m ≡ n
    by (inl e) = e
    by (inr (inl h)) = absurd (last (n - 1) (omega (arith, h)) ((size_is_end l m layout).past (n - 1) (omega (arith, h))))
    by (inr (inr h)) = absurd ((size_is_end l m layout).last (omega (arith, h)) (past (size_of l m - 1) (omega (arith, h))))

pub cut_ends : CutEnds
cut_ends l n m layout =
    record {
      size = size_unique l (cut l n m) layout n (cut_drops l n layout m) (cut_last l n layout m);
      drops = cut_drops l n layout m;
      keeps = cut_keeps l n layout m;
      zeros = cut_zeros l n layout m;
      objects = cut_objects l n m;
      lacks = cut_lacks l n m;
    }

-- ---- pieces

module _ (l : Raid0) (stripe : ℕ) (change : Object → Object) (m : FileBytes) (layout : IsLayout l) (there : stripe < length l.targets) where
  piece_at : (o : ℕ) → byte_at l (on_object change stripe m) (position_of l stripe o) ≡ found_at (change (object_at m stripe)) o
  piece_at o = byte_on l (on_object change stripe m) layout stripe o there ∙ ap (λ x. found_at x o) (on_here change stripe m)

  piece_others : (p : ℕ) → stripe_of l p ≢ stripe → byte_at l (on_object change stripe m) p ≡ byte_at l m p
  piece_others p ne = ap (λ x. found_at x (offset_of l p)) (on_other change stripe (stripe_of l p) m ne)

pub piece_puts : PiecePuts
piece_puts l stripe offset bs m layout there =
    record {
      puts = λ k h. piece_at l stripe (put_bytes offset bs) m layout there (offset + k)
          ∙ (object_puts offset bs (object_at m stripe)).puts k h;
      leaves = λ o h. piece_at l stripe (put_bytes offset bs) m layout there o ∙ (object_puts offset bs (object_at m stripe)).leaves o h
          ∙ sym (byte_on l m layout stripe o there);
      others = piece_others l stripe (put_bytes offset bs) m layout there;
    }

pub piece_cuts : PieceCuts
piece_cuts l stripe q m layout there =
    record {
      drops = λ o h. piece_at l stripe (cut_bytes q) m layout there o ∙ (object_cuts q (object_at m stripe)).drops o h;
      keeps = λ o b h e. piece_at l stripe (cut_bytes q) m layout there o
          ∙ (object_cuts q (object_at m stripe)).keeps o b h (sym (byte_on l m layout stripe o there) ∙ e);
      ends = λ h e. cut_some (object_at m stripe) q (q - 1) (omega (arith, h))
          (sym (piece_at l stripe (cut_bytes q) m layout there (q - 1)) ∙ e);
      others = piece_others l stripe (cut_bytes q) m layout there;
    }
