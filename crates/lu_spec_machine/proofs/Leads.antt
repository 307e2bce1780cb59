-- What a name leads to changes only where the inode's Parent is written: what LOOKUP locks rest on.
use Rattle.std.proofs.Common.{◌≡◌, ℕ, Bool, true, false, List, Some, None, refl, ap, ◌∙◌, arith}
use Rattle.std.specs.Prelude.{◌&&◌, if◌then◌else◌}
use Rattle.std.proofs.lemmas.Bool.Decides.{nat_tests}
use Rattle.lu_base.specs.declared.ids.Fid.{Fid}
use Rattle.lu_base.specs.declared.ids.Txn.{Txn}
use Rattle.lu_base.specs.declared.ids.Who.{Who}
use Rattle.lu_part.specs.declared.parts.Part.TheVariants.{Parent}
use Rattle.lu_spec_machine.specs.declared.child.Child.{Child}
use Rattle.lu_spec_machine.specs.declared.child.Child.TheVariants.{Dir, File}
use Rattle.lu_spec_machine.specs.Name.{same_name}
use Rattle.lu_spec_machine.specs.Tree.{Tree, same_fid, child, fid_of}
use Rattle.lu_spec_machine.specs.Change.{Change, Leads, Drops, MakesDir, MakesFile, SetMode, Leaves, change, changed, written}
use Rattle.lu_spec_machine.specs.Table.{made_by}
use Rattle.lu_spec_machine.specs.Plan.{Outcome}
use Rattle.lu_spec_machine.specs.Footprint.{Apart, outcome_of}
use Rattle.lu_spec_machine.specs.Laws.{LeadsStay}
use Rattle.lu_spec_machine.proofs.Keys.{fid_tells, name_tells}
use Rattle.lu_spec_machine.proofs.Effects.{name_after}
use Rattle.lu_spec_machine.proofs.Outcomes.{Comes, refused, learns, mkdir, create, link, unlink, rmdir, move, replace_dir, replace_file}
use Rattle.lu_spec_machine.proofs.Outcomes.{chmod, opens, closes}
use Rattle.lu_spec_machine.proofs.Stated.{comes}

-- the place of another name
abbrev pub here : Fid → List ℕ → Fid → List ℕ → Bool
here e m d n = same_fid e d && same_name m n

pub at_same : (e : Fid) (m : List ℕ) (d : Fid) (n : List ℕ) → here e m d n ≡ true → (e ≡ d) × (m ≡ n)
at_same e m d n b = let f = fid_tells e d in let g = name_tells m n in (grind (arith, f, b), grind (arith, g, b))

module _ (t : Tree) where
  -- the inode is not the one moved
  pub other : (e : Fid) (m : List ℕ) (d : Fid) (n : List ℕ) (b c : Child) → child t e m ≡ Some b → child t d n ≡ Some c
      → same_fid (fid_of b) (fid_of c) ≡ false → here e m d n ≡ false
  other e m d n b c there is apart = by (here e m d n) refl
    where
      differ : fid_of b ≡ fid_of c → ⊥
      differ q = let f = fid_tells (fid_of b) (fid_of c) in grind (arith, f, apart, q)

      by : (v : Bool) → here e m d n ≡ v → v ≡ false
      by false p = refl
      by true p = let h = at_same e m d n p in let k : b ≡ c = cc in absurd (differ (ap fid_of k))

  pub empty_other : (e : Fid) (m : List ℕ) (d : Fid) (n : List ℕ) (c : Child) → child t e m ≡ None → child t d n ≡ Some c → here e m d n
      ≡ false
  empty_other e m d n c there is = by (here e m d n) refl
    where
      by : (v : Bool) → here e m d n ≡ v → v ≡ false
      by false p = refl
      by true p = let h = at_same e m d n p in absurd (cc)

pub led : (u : Tree) (e : Fid) (m : List ℕ) (b : Child) (d : Fid) (n : List ℕ) (c : Child) → child u d n ≡ Some c → here e m d n ≡ false
    → child (change u (Leads e m b)) d n ≡ Some c
led u e m b d n c is apart = name_after u (Leads e m b) d n ∙ ap (λ v. if v then Some b else child u d n) apart ∙ is

left : (u : Tree) (e : Fid) (m : List ℕ) (d : Fid) (n : List ℕ) (c : Child) → child u d n ≡ Some c → here e m d n ≡ false
    → child (change u (Drops e m)) d n ≡ Some c
left u e m d n c is apart = name_after u (Drops e m) d n ∙ ap (λ v. if v then None else child u d n) apart ∙ is

module _ (t : Tree) (number : Txn) (who : Who) where
  abbrev pub Stay : List Change → Type 0
  Stay xs = (d : Fid) (n : List ℕ) (c : Child) → child t d n ≡ Some c → (number.0 ≡ d.0 → ⊥) → Apart (written xs) (Parent (fid_of c))
      → child (changed t xs) d n ≡ Some c

  elsewhere : (d : Fid) → (number.0 ≡ d.0 → ⊥) → same_fid (made_by number) d ≡ false
  elsewhere d ne = grind (arith, nat_tests, ne)

  pub stays : (o : Outcome) → Comes t number who o → Stay o.changes
  stays _ (refused e) d n c is ne a = is
  stays _ (learns answer grants h) d n c is ne a = is
  stays _ (mkdir e m free) d n c is ne a =
      led (change t (MakesDir (made_by number))) e m (Dir (made_by number)) d n c
      (name_after t (MakesDir (made_by number)) d n ∙ ap (λ v. if v then None else child t d n) (elsewhere d ne) ∙ is)
      (empty_other t e m d n c free is)
  stays _ (create e m l free) d n c is ne a = led (change t (MakesFile (made_by number) l)) e m (File (made_by number)) d n c is
      (empty_other t e m d n c free is)
  stays _ (link e m f free named) d n c is ne a = led t e m (File f) d n c is (empty_other t e m d n c free is)
  stays _ (unlink e m f at) d n c is ne a = left t e m d n c is (other t e m d n (File f) c at is a.1.0)
  stays _ (rmdir e m f at none) d n c is ne a = name_after (change t (Drops e m)) (Leaves f) d n
      ∙ left t e m d n c is (other t e m d n (Dir f) c at is a.1.0)
  stays _ (move e m b k l at free) d n c is ne a = led (change t (Drops e m)) k l b d n c
      (left t e m d n c is (other t e m d n b c at is a.1.1.0)) (empty_other t k l d n c free is)
  stays _ (replace_dir e m f k l g at there apart none) d n c is ne a =
      name_after (change (change t (Drops e m)) (Leads k l (Dir f))) (Leaves g) d n
      ∙ led (change t (Drops e m)) k l (Dir f) d n c (left t e m d n c is (other t e m d n (Dir f) c at is a.1.1.0))
      (other t k l d n (Dir g) c there is a.1.1.1.0)
  stays _ (replace_file e m f k l g at there apart) d n c is ne a =
      led (change t (Drops e m)) k l (File f) d n c (left t e m d n c is (other t e m d n (File f) c at is a.1.1.0))
      (other t k l d n (File g) c there is a.1.1.1.0)
  stays _ (chmod b mode r) d n c is ne a = name_after t (SetMode b mode) d n ∙ is
  stays _ (opens f named) d n c is ne a = is
  stays _ (closes opened) d n c is ne a = is

pub leads_stay : LeadsStay
leads_stay osts t a d n c is ne apart = stays t a.number a.who (outcome_of osts t a) (comes osts t a) d n c is ne apart
