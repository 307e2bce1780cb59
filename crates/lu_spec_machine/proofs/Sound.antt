-- Each act keeps that a file has at least as many links as names lead to it, and that no file with a number
-- above the last has links.
use Rattle.std.proofs.Common.{◌≡◌, ℕ, ◌+◌, ◌-◌, ◌<◌, ◌≤◌, ◌⊎◌, true, false, List, [], ◌∷◌, Some, None, refl, ap, ◌∙◌, ⊎_elim, arith}
use Rattle.std.specs.Prelude.{if◌then◌else◌}
use Rattle.std.proofs.lemmas.Bool.{cond_both}
use Rattle.std.proofs.lemmas.Bool.Decides.{nat_tests}
use Rattle.lu_base.specs.declared.ids.Fid.{Fid}
use Rattle.lu_base.specs.declared.ids.Txn.{Txn}
use Rattle.lu_base.specs.declared.ids.Who.{Who}
use Rattle.lu_layout.specs.Raid0.{Raid0}
use Rattle.lu_spec_machine.specs.declared.child.Child.{Child}
use Rattle.lu_spec_machine.specs.declared.child.Child.TheVariants.{Dir, File}
use Rattle.lu_spec_machine.specs.Tree.{Tree, same_fid, fid_of, child, file}
use Rattle.lu_spec_machine.specs.Change.{Change, Leads, Drops, Parted, MakesDir, MakesFile, SetMode, SetLinks, Leaves, new_file, change}
use Rattle.lu_spec_machine.specs.Change.{changed}
use Rattle.lu_spec_machine.specs.Plan.{Outcome}
use Rattle.lu_spec_machine.specs.Table.{made_by}
use Rattle.lu_spec_machine.proofs.Keys.{fid_tells}
use Rattle.lu_spec_machine.proofs.Effects.{file_put, name_after}
use Rattle.lu_spec_machine.proofs.Count.{is_file, found_file, named, named_after, found_named}
use Rattle.lu_spec_machine.proofs.Leads.{here, at_same}
use Rattle.lu_spec_machine.proofs.Outcomes.{Comes, refused, learns, mkdir, create, link, unlink, rmdir, move, replace_dir, replace_file}
use Rattle.lu_spec_machine.proofs.Outcomes.{chmod, opens, closes}

abbrev pub links : Tree → Fid → ℕ
links t f = (file t f).links

abbrev on_links : Change → Fid → ℕ → ℕ
on_links (MakesFile f l) g k = if same_fid f g then 1 else k
on_links (SetLinks f n) g k = if same_fid f g then n else k
on_links _ g k = k

links_after : (t : Tree) (x : Change) (g : Fid) → links (change t x) g ≡ on_links x g (links t g)
links_after t (MakesFile f l) g = let h = file_put f (new_file l) g t.files in grind (arith, nat_tests, h)
links_after t (SetMode (Dir d) k) g = refl
links_after t (SetMode (File f) k) g = let h = file_put f (record { mode = k; links = (file t f).links; layout = (file t f).layout }) g
    t.files in grind (arith, nat_tests, fid_tells, h)
links_after t (SetLinks f k) g = let h = file_put f (record { mode = (file t f).mode; links = k; layout = (file t f).layout }) g t.files
    in grind (arith, nat_tests, fid_tells, h)
links_after t _ g = refl

pub record Sound (t : Tree) (last : ℕ) : Type 0 where
  pub counted : (f : Fid) → named f t.dirs ≤ links t f
  pub fresh : (f : Fid) → last < f.0 → links t f ≡ 0

abbrev pub IsAlive : Tree → Child → Type 0
IsAlive t (Dir d) = Unit {0}
IsAlive t (File f) = 0 < links t f

is_own : (f : Fid) → is_file f (File f) ≡ 1
is_own f = grind (arith, nat_tests)

pub alive : (t : Tree) (last : ℕ) → Sound t last → (d : Fid) (n : List ℕ) (c : Child) → child t d n ≡ Some c → IsAlive t c
alive t last s d n (Dir f) is = tt
alive t last s d n (File f) is =
    let a = found_named t f d n in
    let b : found_file f (child t d n) ≡ 1 = ap (found_file f) is ∙ is_own f in
    omega (arith, a, b, s.counted f)

same_or_not : (f g : Fid) → (f.0 ≡ g.0) ⊎ (f.0 ≡ g.0 → ⊥)
same_or_not f g = grind arith

module _ (t : Tree) (last : ℕ) (number : Txn) (who : Who) (s : Sound t last) (new : last < number.0) where
  abbrev Kept : List Change → Type 0
  Kept xs = Sound (changed t xs) number.0

  same : Sound t number.0
  same = record { counted = s.counted; fresh = λ f lt. s.fresh f (omega arith) }

  -- a file that is there has a number that was used
  used : (f : Fid) → 0 < links t f → f.0 ≤ last
  used f a = ⊎_elim (λ (le : f.0 ≤ last). le) (λ (lt : last < f.0). absurd (omega (arith, s.fresh f lt))) (split f.0)
    where
      split : (g : ℕ) → (g ≤ last) ⊎ (last < g)
      split g = grind arith

  mkdir_kept : (d : Fid) (n : List ℕ) → Kept (MakesDir (made_by number) ∷ Leads d n (Dir (made_by number)) ∷ [])
  mkdir_kept d n =
      let x = MakesDir (made_by number) in
      let u = change t x in
      record {
        counted = λ f. omega (
          arith,
          named_after t x f,
          named_after u (Leads d n (Dir (made_by number))) f,
          s.counted f,
          links_after t x f,
          links_after u (Leads d n (Dir (made_by number))) f,
        );
        fresh = λ f lt. s.fresh f (omega arith);
      }

  create_kept : (d : Fid) (n : List ℕ) (l : Raid0) → Kept (MakesFile (made_by number) l ∷ Leads d n (File (made_by number)) ∷ [])
  create_kept d n l =
      let x = MakesFile (made_by number) l in
      let u = change t x in
      let y = Leads d n (File (made_by number)) in
      record {
        counted = λ f.
            let a = named_after t x f in
            let b = named_after u y f in
            let k : links (change u y) f ≡ on_links x f (links t f) = links_after t x f in
            let z = s.fresh (made_by number) new in
            ⊎_elim
            (λ (e : number.0 ≡ f.0). let q : made_by number ≡ f = ap (λ i. record { 0 = i }) e
            in grind (arith, nat_tests, a, b, k, s.counted f, z, ap (links t) q))
            (λ (ne : number.0 ≡ f.0 → ⊥). grind (arith, nat_tests, a, b, k, s.counted f))
            (same_or_not (made_by number) f);
        fresh = λ f lt. let k : links (change u y) f ≡ on_links x f (links t f) = links_after t x f
            in grind (arith, nat_tests, k, s.fresh f (omega arith));
      }

  link_kept : (d : Fid) (n : List ℕ) (f : Fid) → 0 < links t f → Kept (Leads d n (File f) ∷ SetLinks f (links t f + 1) ∷ [])
  link_kept d n f live =
      let y = Leads d n (File f) in
      let u = change t y in
      let x = SetLinks f (links t f + 1) in
      record {
        counted = λ g.
            let a = named_after t y g in
            let b = named_after u x g in
            let k : links (change u x) g ≡ on_links x g (links t g) = links_after u x g in
            ⊎_elim
            (λ (e : f.0 ≡ g.0). let q : f ≡ g = ap (λ i. record { 0 = i }) e
            in grind (arith, nat_tests, a, b, k, s.counted g, ap (links t) q))
            (λ (ne : f.0 ≡ g.0 → ⊥). grind (arith, nat_tests, a, b, k, s.counted g))
            (same_or_not f g);
        fresh = λ g lt.
            let k : links (change u x) g ≡ on_links x g (links t g) = links_after u x g in
            grind (arith, nat_tests, k, s.fresh g (omega arith), used f live);
      }

  -- a name goes, and another change of links follows
  dropped : (d : Fid) (n : List ℕ) (f : Fid) (c : Child) → child t d n ≡ Some c
      → named f (change t (Drops d n)).dirs + is_file f c ≤ named f t.dirs
  dropped d n f c is = let a = named_after t (Drops d n) f in let b : found_file f (child t d n) ≡ is_file f c = ap (found_file f) is
      in omega (arith, a, b)

  unlink_kept : (d : Fid) (n : List ℕ) (f : Fid) → child t d n ≡ Some (File f)
      → Kept (Drops d n ∷ Parted f ∷ SetLinks f (links t f - 1) ∷ [])
  unlink_kept d n f is =
      let u = change t (Drops d n) in
      let x = SetLinks f (links t f - 1) in
      record {
        counted = λ g.
            let a = dropped d n g (File f) is in
            let b = named_after u x g in
            let k : links (change u x) g ≡ on_links x g (links t g) = links_after u x g in
            ⊎_elim
            (λ (e : f.0 ≡ g.0). let q : f ≡ g = ap (λ i. record { 0 = i }) e
            in grind (arith, nat_tests, a, b, k, s.counted g, ap (links t) q))
            (λ (ne : f.0 ≡ g.0 → ⊥). grind (arith, nat_tests, a, b, k, s.counted g))
            (same_or_not f g);
        fresh = λ g lt.
            let k : links (change u x) g ≡ on_links x g (links t g) = links_after u x g in
            grind (arith, nat_tests, k, s.fresh g (omega arith), used f (alive t last s d n (File f) is));
      }

  rmdir_kept : (d : Fid) (n : List ℕ) (e : Fid) → child t d n ≡ Some (Dir e) → Kept (Drops d n ∷ Parted e ∷ Leaves e ∷ [])
  rmdir_kept d n e is =
      let u = change t (Drops d n) in
      record {
        counted = λ g. let k : links (change u (Leaves e)) g ≡ links t g = links_after u (Leaves e) g
            in omega (arith, dropped d n g (Dir e) is, named_after u (Leaves e) g, k, s.counted g);
        fresh = λ g lt. let k : links (change u (Leaves e)) g ≡ links t g = links_after u (Leaves e) g in k ∙ s.fresh g (omega arith);
      }

  -- what stands at the new name is there still when the old one is gone
  still : (d : Fid) (n : List ℕ) (e : Fid) (m : List ℕ) (c g : Child) → child t d n ≡ Some c → child t e m ≡ Some g
      → same_fid (fid_of g) (fid_of c) ≡ false → child (change t (Drops d n)) e m ≡ Some g
  still d n e m c g is there apart =
      name_after t (Drops d n) e m
      ∙ cond_both (here d n e m) None (child t e m) (λ o. o ≡ Some g) (λ b. absurd (differ (clash b))) (λ b. there)
    where
      differ : fid_of g ≡ fid_of c → ⊥
      differ q = let f = fid_tells (fid_of g) (fid_of c) in grind (arith, f, apart, q)

      clash : here d n e m ≡ true → fid_of g ≡ fid_of c
      clash b = let h = at_same d n e m b in let k : g ≡ c = cc in ap fid_of k

  moved_named : (d : Fid) (n : List ℕ) (e : Fid) (m : List ℕ) (f : Fid) (c : Child) → child t d n ≡ Some c
      → named f (change (change t (Drops d n)) (Leads e m c)).dirs + found_file f (child (change t (Drops d n)) e m) ≤ named f t.dirs
  moved_named d n e m f c is = let a = dropped d n f c is in let b = named_after (change t (Drops d n)) (Leads e m c) f
      in omega (arith, a, b)

  move_kept : (d : Fid) (n : List ℕ) (e : Fid) (m : List ℕ) (c : Child) → child t d n ≡ Some c
      → Kept (Drops d n ∷ Leads e m c ∷ Parted (fid_of c) ∷ [])
  move_kept d n e m c is = record {
    counted = λ f. omega (arith, moved_named d n e m f c is, s.counted f);
    fresh =
        λ f lt. s.fresh f (omega arith);
  }

  move_dir_kept : (d : Fid) (n : List ℕ) (e : Fid) (m : List ℕ) (c : Child) (g : Fid) → child t d n ≡ Some c
      → Kept (Drops d n ∷ Leads e m c ∷ Parted (fid_of c) ∷ Parted g ∷ Leaves g ∷ [])
  move_dir_kept d n e m c g is =
      let u = change (change t (Drops d n)) (Leads e m c) in
      record {
        counted = λ f. let k : links (change u (Leaves g)) f ≡ links t f = links_after u (Leaves g) f
            in omega (arith, moved_named d n e m f c is, named_after u (Leaves g) f, k, s.counted f);
        fresh = λ f lt. let k : links (change u (Leaves g)) f ≡ links t f = links_after u (Leaves g) f in k ∙ s.fresh f (omega arith);
      }

  move_file_kept : (d : Fid) (n : List ℕ) (e : Fid) (m : List ℕ) (c : Child) (g : Fid) → child t d n ≡ Some c → child t e m ≡ Some (File g)
      → same_fid g (fid_of c) ≡ false
      → Kept (Drops d n ∷ Leads e m c ∷ Parted (fid_of c) ∷ Parted g ∷ SetLinks g (links t g - 1) ∷ [])
  move_file_kept d n e m c g is there apart =
      let u = change (change t (Drops d n)) (Leads e m c) in
      let x = SetLinks g (links t g - 1) in
      record {
        counted = λ f.
            let a = moved_named d n e m f c is in
            let o : found_file f (child (change t (Drops d n)) e m) ≡ is_file f (File g) =
            ap (found_file f) (still d n e m c (File g) is there apart) in
            let b = named_after u x f in
            let k : links (change u x) f ≡ on_links x f (links t f) = links_after u x f in
            ⊎_elim
            (λ (q : g.0 ≡ f.0). let r : g ≡ f = ap (λ i. record { 0 = i }) q
            in grind (arith, nat_tests, a, o, b, k, s.counted f, ap (links t) r))
            (λ (q : g.0 ≡ f.0 → ⊥). grind (arith, nat_tests, a, o, b, k, s.counted f))
            (same_or_not g f);
        fresh = λ f lt.
            let k : links (change u x) f ≡ on_links x f (links t f) = links_after u x f in
            grind (arith, nat_tests, k, s.fresh f (omega arith), used g (alive t last s e m (File g) there));
      }

  mode_kept : (c : Child) (m : ℕ) → Kept (SetMode c m ∷ [])
  mode_kept c m =
      record {
        counted = λ f. let k : links (change t (SetMode c m)) f ≡ links t f = links_after t (SetMode c m) f
            in omega (arith, named_after t (SetMode c m) f, k, s.counted f);
        fresh = λ f lt. let k : links (change t (SetMode c m)) f ≡ links t f = links_after t (SetMode c m) f in k ∙ s.fresh f (omega arith);
      }

  pub sound_after : (o : Outcome) → Comes t number who o → Kept o.changes
  sound_after _ (refused e) = same
  sound_after _ (learns answer grants is) = same
  sound_after _ (mkdir d n free) = mkdir_kept d n
  sound_after _ (create d n l free) = create_kept d n l
  sound_after _ (link d n f free h) = link_kept d n f (alive t last s h.0 h.1.0 (File f) h.1.1)
  sound_after _ (unlink d n f is) = unlink_kept d n f is
  sound_after _ (rmdir d n e is none) = rmdir_kept d n e is
  sound_after _ (move d n c e m is free) = move_kept d n e m c is
  sound_after _ (replace_dir d n f e m g is at ne none) = move_dir_kept d n e m (Dir f) g is
  sound_after _ (replace_file d n f e m g is at ne) = move_file_kept d n e m (File f) g is at ne
  sound_after _ (chmod c mode r) = mode_kept c mode
  sound_after _ (opens f named) = record { counted = s.counted; fresh = λ f lt. s.fresh f (omega arith) }
  sound_after _ (closes opened) = record { counted = s.counted; fresh = λ f lt. s.fresh f (omega arith) }
