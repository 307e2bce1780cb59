-- What loops keep: objects that are seen one after another, and the first place of what isn't met.
use Rattle.std.proofs.Common.{◌≡◌, ℕ, ◌+◌, ◌<◌, ◌≤◌, Bool, true, false, List, [], ◌∷◌, ◌++◌, inl, inr, refl, ap, ◌∙◌, sym, subst, ⊎_elim}
use Rattle.std.proofs.Common.{arith}
use Rattle.std.specs.Prelude.{◌==◌, ◌&&◌, ◌||◌, not, nat_eq, nat_le, nat_lt, if◌then◌else◌, Option, Some, None}
use Rattle.std.specs.List.{list_any}
use Rattle.std.specs.Prelude.{slice_index_or, length, take}
use Rattle.std.proofs.Common.{zero-add}
use Rattle.std.proofs.lemmas.List.{take_more, length-take-le, append-nil, append_assoc}
use Rattle.std.proofs.lemmas.List.Folds.{list_any-append}
use Rattle.std.proofs.lemmas.Bool.Decides.{nat_tests}
use Rattle.lu_base.specs.declared.ids.Fid.{Fid}
use Rattle.lu_spec_machine.specs.Machine.{Machine, object_of}
use Rattle.lu_spec_machine.specs.Objects.{object_size}
use Rattle.lu_judge_glimpse.specs.declared.glimpses.Watch.{Watch}
use Rattle.lu_judge_glimpse.specs.declared.wanted.Wanted.{Wanted}
use Rattle.lu_judge_glimpse.specs.Wanted.{clears, lesser, IsLeast}
use Rattle.lu_judge_glimpse.specs.Watched.{seen_after, logged}
use Rattle.lu_judge_glimpse.proofs.Numbers.{eq_is, eq_same, eq_not, and_left, and_right, and_true, lt_more, or_false}
use Rattle.lu_judge_glimpse.specs.Wanted.{wanted_of}
use Rattle.lu_judge_glimpse.proofs.Told.{clears_both, one, last, wanted_more}

-- ---- what is seen

abbrev pick : Bool → Option ℕ → Option ℕ → Option ℕ
pick v one other = if v then one else other

merged : (a b e h : Bool) (one old : Option ℕ) → pick ((a && e) && h) one (pick ((a && b) && h) one old)
    ≡ pick ((a && (b || e)) && h) one old
merged false b e h one old = refl
merged true true true true one old = refl
merged true true true false one old = refl
merged true true false h one old = refl
merged true false true true one old = refl
merged true false true false one old = refl
merged true false false h one old = refl

merged_any : (a b h : Bool) (one old : Option ℕ) → pick (b && h) one (pick (a && h) one old) ≡ pick ((a || b) && h) one old
merged_any true true true one old = refl
merged_any true true false one old = refl
merged_any true false h one old = refl
merged_any false true true one old = refl
merged_any false true false one old = refl
merged_any false false h one old = refl

module _ (m : Machine) (place : ℕ) where
  -- the object of one stripe more
  pub stripe_more : (fid f : Fid) (stripe s n size : ℕ) (old mid new : Option ℕ) → size ≡ object_size (object_of m fid stripe)
      → mid ≡ seen_after m place (fid.0 == f.0 && nat_lt s stripe) f s n old
      → new ≡ (if (fid.0 == f.0 && stripe == s) && size == n then Some place else mid)
      → new ≡ seen_after m place (fid.0 == f.0 && nat_lt s (stripe + 1)) f s n old
  stripe_more fid f stripe s n size old mid new measured so_far is =
      is ∙ ap (λ (v : Bool). pick v (Some place) mid) (key (fid.0 == f.0 && stripe == s) refl)
      ∙ ap (λ (o : Option ℕ). pick ((fid.0 == f.0 && stripe == s) && object_size (object_of m f s) == n) (Some place) o) so_far
      ∙ merged (fid.0 == f.0) (nat_lt s stripe) (stripe == s) (object_size (object_of m f s) == n) (Some place) old
      ∙ ap (λ (v : Bool). pick ((fid.0 == f.0 && v) && object_size (object_of m f s) == n) (Some place) old) (sym (lt_more s stripe))
    where
      key : (v : Bool) → (fid.0 == f.0 && stripe == s) ≡ v → ((fid.0 == f.0 && stripe == s) && size == n)
          ≡ ((fid.0 == f.0 && stripe == s) && object_size (object_of m f s) == n)
      key true both =
          let files : fid.0 ≡ f.0 = eq_is fid.0 f.0 (and_left (fid.0 == f.0) (stripe == s) both) in
          let stripes : stripe ≡ s = eq_is stripe s (and_right (fid.0 == f.0) (stripe == s) both) in
          ap (λ (x : ℕ). (fid.0 == f.0 && stripe == s) && x == n)
          (measured ∙ ap (λ (k : ℕ). object_size (object_of m (record { 0 = k }) stripe)) files
          ∙ ap (λ (k : ℕ). object_size (object_of m f k)) stripes)
      key false none = ap (λ (v : Bool). v && size == n) none ∙ ap (λ (v : Bool). v && object_size (object_of m f s) == n) (sym none)

  -- the objects of one file more
  pub file_more : (ws : List Watch) (w : Watch) (f : Fid) (s n : ℕ) (old mid new : Option ℕ)
      → mid ≡ seen_after m place (logged ws f s) f s n old
      → new ≡ seen_after m place (w.fid.0 == f.0 && nat_lt s w.count) f s n mid
      → new ≡ seen_after m place (logged (ws ++ w ∷ []) f s) f s n old
  file_more ws w f s n old mid new so_far is =
      is ∙ ap (λ (o : Option ℕ). pick ((w.fid.0 == f.0 && nat_lt s w.count) && object_size (object_of m f s) == n) (Some place) o) so_far
      ∙ merged_any (logged ws f s) (w.fid.0 == f.0 && nat_lt s w.count) (object_size (object_of m f s) == n) (Some place) old
      ∙ ap (λ (v : Bool). pick (v && object_size (object_of m f s) == n) (Some place) old)
      (sym (list_any-append (λ (x : Watch). x.fid.0 == f.0 && nat_lt s x.count) ws (w ∷ [])
      ∙ ap (λ (v : Bool). logged ws f s || v) (or_false (w.fid.0 == f.0 && nat_lt s w.count))))

-- ---- the first that isn't met

module _ (met : Wanted → Bool) (xs : List Wanted) (w : Wanted) where
  one_more : (j : ℕ) → clears met j (xs ++ w ∷ []) ≡ (clears met j xs && ((not (w.place == j) || met w) && true))
  one_more j = clears_both met j xs (w ∷ [])

  or_true : (a : Bool) → (a || true) ≡ true
  or_true true = refl
  or_true false = refl

  and_one : (a : Bool) → (a && true) ≡ a
  and_one true = refl
  and_one false = refl

  -- it is met
  met_same : met w ≡ true → (j : ℕ) → clears met j (xs ++ w ∷ []) ≡ clears met j xs
  met_same is j = one_more j ∙ ap (λ (v : Bool). clears met j xs && ((not (w.place == j) || v) && true)) is
      ∙ ap (λ (v : Bool). clears met j xs && (v && true)) (or_true (not (w.place == j))) ∙ and_one (clears met j xs)

  pub least_met : (first : Option ℕ) → met w ≡ true → IsLeast met xs first → IsLeast met (xs ++ w ∷ []) first
  least_met None is least = λ j. met_same is j ∙ least j
  least_met (Some p) is least = (met_same is p ∙ least.0, λ j less. met_same is j ∙ least.1 j less)

  -- it isn't
  unmet_here : met w ≡ false → clears met w.place (xs ++ w ∷ []) ≡ false
  unmet_here is = one_more w.place ∙ ap (λ (v : Bool). clears met w.place xs && ((not (w.place == w.place) || v) && true)) is
      ∙ ap (λ (v : Bool). clears met w.place xs && ((not v || false) && true)) (eq_same w.place) ∙ none (clears met w.place xs)
    where
      none : (a : Bool) → (a && false) ≡ false
      none true = refl
      none false = refl

  unmet_other : (j : ℕ) → (w.place ≡ j → ⊥) → clears met j (xs ++ w ∷ []) ≡ clears met j xs
  unmet_other j ne = one_more j ∙ ap (λ (v : Bool). clears met j xs && ((not v || met w) && true)) (eq_not w.place j ne)
      ∙ and_one (clears met j xs)

  unmet_still : (j : ℕ) → clears met j xs ≡ false → clears met j (xs ++ w ∷ []) ≡ false
  unmet_still j is = one_more j ∙ ap (λ (v : Bool). v && ((not (w.place == j) || met w) && true)) is

  pub least_unmet : (first : Option ℕ) → met w ≡ false → IsLeast met xs first → IsLeast met (xs ++ w ∷ []) (lesser first w.place)
  least_unmet None is least = (unmet_here is, λ j less. unmet_other j (λ same. omega (arith, less, same)) ∙ least j)
  least_unmet (Some p) is least = by (nat_le p w.place) refl
    where
      by : (v : Bool) → nat_le p w.place ≡ v → IsLeast met (xs ++ w ∷ []) (if v then Some p else Some w.place)
      by true e =
          let before : p ≤ w.place = grind (arith, nat_tests, e) in
          (unmet_still p least.0, λ j less. unmet_other j (λ same. omega (arith, less, same, before)) ∙ least.1 j less)
      by false e =
          let before : w.place < p = grind (arith, nat_tests, e) in
          (unmet_here is, λ j less. unmet_other j (λ same. omega (arith, less, same)) ∙ least.1 j (omega (arith, less, before)))

-- one more of a list
pub least_step : (met : Wanted → Bool) (ws so_far next : List Wanted) (w : Wanted) (met_here : Bool) (first : Option ℕ) → next ≡ so_far ++ w
    ∷ [] → met_here ≡ met w → IsLeast met so_far first
    → (met_here ≡ true → IsLeast met next first) × (met_here ≡ false → IsLeast met next (lesser first w.place))
least_step met ws so_far next w met_here first more same least = (
  λ is. subst (λ (xs : List Wanted). IsLeast met xs first) (sym more) (least_met met so_far w first (sym same ∙ is) least),
  λ is. subst (λ (xs : List Wanted). IsLeast met xs (lesser first w.place)) (sym more)
      (least_unmet met so_far w first (sym same ∙ is) least),
)

-- one size more that is told
pub want_step : (known : ℕ → ℕ → Bool) (place : ℕ) (file : Option Fid) (sizes : List ℕ) (i size : ℕ) (here : Bool)
    (old so_far : List Wanted) → i < length sizes → here ≡ known i size
    → so_far ≡ old ++ wanted_of known place file 0 (take i sizes)
    → (here ≡ true → size ≡ slice_index_or sizes i 0 → so_far ≡ old ++ wanted_of known place file 0 (take (i + 1) sizes))
    × (here ≡ false → size ≡ slice_index_or sizes i 0 → (next : List Wanted) → next ≡ so_far ++ one place file i size ∷ [] → next ≡ old
    ++ wanted_of known place file 0 (take (i + 1) sizes))
want_step known place file sizes i size here old so_far below same is = (
  λ seen there. is ∙ ap (λ (ws : List Wanted). old ++ ws) (sym (more there
      ∙ ap (λ (v : Bool). wanted_of known place file 0 (take i sizes) ++ (if v then [] else one place file i size ∷ [])) (sym same ∙ seen)
      ∙ append-nil (wanted_of known place file 0 (take i sizes)))),
  λ unseen there next pushed.
      pushed ∙ ap (λ (ws : List Wanted). ws ++ one place file i size ∷ []) is
      ∙ append_assoc old (wanted_of known place file 0 (take i sizes)) (one place file i size ∷ [])
      ∙ ap (λ (ws : List Wanted). old ++ ws) (sym (more there ∙ ap
      (λ (v : Bool). wanted_of known place file 0 (take i sizes) ++ (if v then [] else one place file i size ∷ []))
      (sym same ∙ unseen))),
)
  where
    more : size ≡ slice_index_or sizes i 0 → wanted_of known place file 0 (take (i + 1) sizes) ≡ wanted_of known place file 0 (take i sizes)
        ++ last known place file size i
    more there =
        ap (wanted_of known place file 0) (take_more sizes i 0 below)
        ∙ wanted_more known place file 0 (take i sizes) (slice_index_or sizes i 0)
        ∙ ap (λ (s : ℕ). wanted_of known place file 0 (take i sizes) ++ last known place file (slice_index_or sizes i 0) s)
        (zero-add (length (take i sizes)) ∙ length-take-le i sizes (omega (arith, below)))
        ∙ ap (λ (n : ℕ). wanted_of known place file 0 (take i sizes) ++ last known place file n i) (sym there)
