-- A change of one object is a change of the file's bytes: writes of a unit, cuts, and pieces.
use Rattle.std.proofs.Common.{◌≡◌, ◌≢◌, ℕ, zero, suc, ◌+◌, ◌%◌, ◌<◌, ◌≤◌, Bool, true, false, List, [], ◌∷◌, ◌++◌, length, Some, refl, sym}
use Rattle.std.proofs.Common.{ap, ◌∙◌, subst, arith}
use Rattle.std.specs.Prelude.{nat_eq, if◌then◌else◌}
use Rattle.std.specs.List.{fold, range_with_len}
use Rattle.std.proofs.lemmas.Bool.Decides.{nat_tests}
use Rattle.std.proofs.lemmas.List.Sums.{fold-append}
use Rattle.lu_base.specs.declared.ids.Fid.{Fid}
use Rattle.lu_base.specs.declared.locks.Resource.{Resource}
use Rattle.lu_layout.specs.Raid0.{Raid0, stripe_of, offset_of, below_of}
use Rattle.lu_spec_machine.specs.Bytes.{FileBytes, object_at, on_object, put_piece, cut_piece, write}
use Rattle.lu_spec_machine.specs.Objects.{Object, put_bytes}
use Rattle.lu_spec_machine.specs.Places.{found_at, RisingFrom}
use Rattle.lu_spec_machine.proofs.Bytes.{on_here, on_other}
use Rattle.lu_spec_machine.proofs.Objects.{object_puts}
use Rattle.lu_spec_machine.proofs.Places.{overlay, found_laid, before_run}
use Rattle.lu_spec_bytes.proofs.Rising.{same_map}
use Rattle.lu_ost.specs.Stored.{same_is, found_with}
use Rattle.lu_service.specs.Contents.{same_resource, object_in, with_object}
use Rattle.lu_posix.specs.Files.{object, ShowsFile, Others}
use Rattle.lu_posix.proofs.Units.{stripe_stays, offset_grows}

-- ---- one object among others

same_own : (fid : Fid) (s stripe : ℕ) → stripe ≡ s → same_resource (object fid s) (object fid stripe) ≡ true
same_own fid s stripe is = grind (arith, nat_tests)

-- the file's bytes once its object of a stripe is x
pub shows_with : (objects : List (Resource × Object)) (fid : Fid) (s : ℕ) (x : Object) (file after : FileBytes) → ShowsFile objects fid file
    → object_at after s ≡ x → ((stripe : ℕ) → stripe ≢ s → object_at after stripe ≡ object_at file stripe)
    → ShowsFile (with_object (object fid s) x objects) fid after
shows_with objects fid s x file after shows own others stripe = found_with (object fid s) x objects (object fid stripe)
    ∙ by (same_resource (object fid s) (object fid stripe)) refl
  where
    by : (v : Bool) → same_resource (object fid s) (object fid stripe) ≡ v → (if v then x else object_in objects (object fid stripe))
        ≡ object_at after stripe
    by true is =
        let same : s ≡ stripe = ap (λ (r : Resource). r.stripe) (same_is (object fid s) (object fid stripe) is) in
        sym own ∙ ap (object_at after) same
    by false is = shows stripe ∙ sym (others stripe (λ e. absurd (cc (is, same_own fid s stripe e))))

pub others_with : (objects : List (Resource × Object)) (fid : Fid) (s : ℕ) (x : Object)
    → Others fid objects (with_object (object fid s) x objects)
others_with objects fid s x r ne = found_with (object fid s) x objects r ∙ by (same_resource (object fid s) r) refl
  where
    by : (v : Bool) → same_resource (object fid s) r ≡ v → (if v then x else object_in objects r) ≡ object_in objects r
    by true is = absurd (ne (ap (λ (q : Resource). q.fid.0) (sym (same_is (object fid s) r is))))
    by false is = refl

pub others_after : (fid : Fid) (a b c : List (Resource × Object)) → Others fid a b → Others fid b c → Others fid a c
others_after fid a b c one two r ne = two r ne ∙ one r ne

-- what reaches one object
pub shows_piece : (change : Object → Object) (objects : List (Resource × Object)) (fid : Fid) (s : ℕ) (file : FileBytes)
    → ShowsFile objects fid file
    → ShowsFile (with_object (object fid s) (change (object_in objects (object fid s))) objects) fid (on_object change s file)
shows_piece change objects fid s file shows =
    shows_with objects fid s (change (object_in objects (object fid s))) file (on_object change s file) shows
    (on_here change s file ∙ ap change (sym (shows s)))
    (λ stripe ne. on_other change s stripe file ne)

-- ---- writes

pub write_parts : (l : Raid0) (p : ℕ) (xs ys : List ℕ) (file : FileBytes) → write l p (xs ++ ys) file
    ≡ write l (p + length xs) ys (write l p xs file)
write_parts l p [] ys file = ap (λ (q : ℕ). write l q ys file) (omega arith)
write_parts l p (x ∷ xs) ys file =
    let next : p + 1 + length xs ≡ p + length (x ∷ xs) = omega arith in
    let after : FileBytes = put_piece (stripe_of l p) (offset_of l p) (x ∷ []) file in
    write_parts l (p + 1) xs ys after ∙ ap (λ (q : ℕ). write l q ys (write l (p + 1) xs after)) next

-- a put is its first byte and then the rest
put_parts : (at b : ℕ) (bs : List ℕ) (o : Object) → RisingFrom 0 o → put_bytes (at + 1) bs (put_bytes at (b ∷ []) o)
    ≡ put_bytes at (b ∷ bs) o
put_parts at b [] o rises = refl
put_parts at b (c ∷ cs) o rises =
    same_map 0 (put_bytes (at + 1) (c ∷ cs) (put_bytes at (b ∷ []) o)) (put_bytes at (b ∷ c ∷ cs) o)
    ((object_puts (at + 1) (c ∷ cs) (put_bytes at (b ∷ []) o)).rises ((object_puts at (b ∷ []) o).rises rises))
    ((object_puts at (b ∷ c ∷ cs) o).rises rises)
    (λ q _. found_laid (at + 1) (c ∷ cs) (put_bytes at (b ∷ []) o) q ∙ ap (overlay (at + 1) (c ∷ cs) q) (found_laid at (b ∷ []) o q)
    ∙ by q (nat_eq q at) refl ∙ sym (found_laid at (b ∷ c ∷ cs) o q))
  where
    by : (q : ℕ) (v : Bool) → nat_eq q at ≡ v → overlay (at + 1) (c ∷ cs) q (overlay at (b ∷ []) q (found_at o q))
        ≡ overlay at (b ∷ c ∷ cs) q (found_at o q)
    by q true is =
        ap (λ (v : Bool). overlay (at + 1) (c ∷ cs) q (if v then Some b else found_at o q)) is
        ∙ before_run (at + 1) (c ∷ cs) q (Some b) (grind (arith, nat_tests))
        ∙ ap (λ (v : Bool). if v then Some b else overlay (at + 1) (c ∷ cs) q (found_at o q)) (sym is)
    by q false is =
        ap (λ (v : Bool). overlay (at + 1) (c ∷ cs) q (if v then Some b else found_at o q)) is
        ∙ ap (λ (v : Bool). if v then Some b else overlay (at + 1) (c ∷ cs) q (found_at o q)) (sym is)

module _ (l : Raid0) (p : ℕ) where
  -- a byte of the unit is put beside the others
  next_put : (k b : ℕ) (file : FileBytes) → p % l.size + k < l.size → put_piece (stripe_of l (p + k)) (offset_of l (p + k)) (b ∷ []) file
      ≡ put_piece (stripe_of l p) (offset_of l p + k) (b ∷ []) file
  next_put k b file within =
      ap (λ (s : ℕ). put_piece s (offset_of l (p + k)) (b ∷ []) file) (stripe_stays l p k within)
      ∙ ap (λ (q : ℕ). put_piece (stripe_of l p) q (b ∷ []) file) (offset_grows l p k within)

  own_from : (bs : List ℕ) (k : ℕ) (file : FileBytes) → p % l.size + k + length bs ≤ l.size → RisingFrom 0 (object_at file (stripe_of l p))
      → object_at (write l (p + k) bs file) (stripe_of l p) ≡ put_bytes (offset_of l p + k) bs (object_at file (stripe_of l p))
  own_from [] k file within rises = refl
  own_from (b ∷ bs) k file within rises =
      let s = stripe_of l p in
      let q = offset_of l p + k in
      let after : FileBytes = put_piece s q (b ∷ []) file in
      let here : object_at after s ≡ put_bytes q (b ∷ []) (object_at file s) = on_here (put_bytes q (b ∷ [])) s file in
      let rising : RisingFrom 0 (object_at after s) = subst (λ (o : Object). RisingFrom 0 o) (sym here)
      ((object_puts q (b ∷ []) (object_at file s)).rises rises) in
      let next : p + k + 1 ≡ p + (k + 1) = omega arith in
      let at : offset_of l p + (k + 1) ≡ q + 1 = omega arith in
      ap (λ (m : FileBytes). object_at (write l (p + k + 1) bs m) s) (next_put k b file (omega (arith, within)))
      ∙ ap (λ (r : ℕ). object_at (write l r bs after) s) next
      ∙ own_from bs (k + 1) after (omega (arith, within)) rising
      ∙ ap (λ (r : ℕ). put_bytes r bs (object_at after s)) at
      ∙ ap (λ (o : Object). put_bytes (q + 1) bs o) here
      ∙ put_parts q b bs (object_at file s) rises

  other_from : (bs : List ℕ) (k : ℕ) (file : FileBytes) (stripe : ℕ) → p % l.size + k + length bs ≤ l.size → stripe ≢ stripe_of l p
      → object_at (write l (p + k) bs file) stripe ≡ object_at file stripe
  other_from [] k file stripe within ne = refl
  other_from (b ∷ bs) k file stripe within ne =
      let s = stripe_of l p in
      let q = offset_of l p + k in
      let after : FileBytes = put_piece s q (b ∷ []) file in
      let next : p + k + 1 ≡ p + (k + 1) = omega arith in
      ap (λ (m : FileBytes). object_at (write l (p + k + 1) bs m) stripe) (next_put k b file (omega (arith, within)))
      ∙ ap (λ (r : ℕ). object_at (write l r bs after) stripe) next
      ∙ other_from bs (k + 1) after stripe (omega (arith, within)) ne
      ∙ on_other (put_bytes q (b ∷ [])) s stripe file ne

  -- a write in one unit is a put of its stripe
  pub shows_unit : (objects : List (Resource × Object)) (fid : Fid) (stripe offset : ℕ) (bs : List ℕ) (file : FileBytes)
      → p % l.size + length bs ≤ l.size → stripe ≡ stripe_of l p → offset ≡ offset_of l p
      → RisingFrom 0 (object_in objects (object fid stripe)) → ShowsFile objects fid file
      → ShowsFile (with_object (object fid stripe) (put_bytes offset bs (object_in objects (object fid stripe))) objects) fid
      (write l p bs file)
  shows_unit objects fid stripe offset bs file within s o rises shows =
      let here : p ≡ p + 0 = omega arith in
      let first : offset_of l p + 0 ≡ offset = omega (arith, o) in
      let rising : RisingFrom 0 (object_at file (stripe_of l p)) =
      subst (λ (x : Object). RisingFrom 0 x) (shows stripe ∙ ap (object_at file) s) rises in
      shows_with objects fid stripe (put_bytes offset bs (object_in objects (object fid stripe))) file (write l p bs file) shows
      (ap (object_at (write l p bs file)) s
      ∙ ap (λ (q : ℕ). object_at (write l q bs file) (stripe_of l p)) here
      ∙ own_from bs 0 file (omega (arith, within)) rising
      ∙ ap (λ (q : ℕ). put_bytes q bs (object_at file (stripe_of l p))) first
      ∙ ap (λ (i : ℕ). put_bytes offset bs (object_at file i)) (sym s)
      ∙ ap (λ (x : Object). put_bytes offset bs x) (sym (shows stripe)))
      (λ other ne. ap (λ (q : ℕ). object_at (write l q bs file) other) here
      ∙ other_from bs 0 file other (omega (arith, within)) (λ e. ne (e ∙ sym s)))

-- ---- cuts

-- the first so many stripes are cut
abbrev pub cuts : Raid0 → ℕ → ℕ → FileBytes → FileBytes
cuts l n count file = fold (λ k stripe. cut_piece stripe (below_of l stripe n) k) file (range_with_len 0 count)

range_more : (a n : ℕ) → range_with_len a (suc n) ≡ range_with_len a n ++ (a + n) ∷ []
range_more a zero = ap (λ (k : ℕ). k ∷ []) (omega arith)
range_more a (suc n) = ap (λ (ks : List ℕ). a ∷ ks) (range_more (a + 1) n
    ∙ ap (λ (k : ℕ). range_with_len (a + 1) n ++ k ∷ []) (omega arith))

pub cuts_more : (l : Raid0) (n count : ℕ) (file : FileBytes) → cuts l n (count + 1) file
    ≡ cut_piece count (below_of l count n) (cuts l n count file)
cuts_more l n count file =
    let at : 0 + count ≡ count = omega arith in
    let one : count + 1 ≡ suc count = omega arith in
    ap (λ (c : ℕ). cuts l n c file) one
    ∙ ap (λ (ks : List ℕ). fold (λ k stripe. cut_piece stripe (below_of l stripe n) k) file ks)
    (range_more 0 count ∙ ap (λ (k : ℕ). range_with_len 0 count ++ k ∷ []) at)
    ∙ fold-append (λ k stripe. cut_piece stripe (below_of l stripe n) k) file (range_with_len 0 count) (count ∷ [])
