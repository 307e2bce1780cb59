-- Where a path leads: part by part, in a tree with fewer names, and in one with a name more.
use Rattle.std.proofs.Common.{◌≡◌, ℕ, List, [], ◌∷◌, ◌++◌, ◌⊎◌, inl, inr, ⊎_elim, Option, Some, None, refl, sym, ap, subst, ◌∙◌}
use Rattle.std.specs.Option.{option_and_then}
use Rattle.lu_base.specs.declared.ids.Fid.{Fid}
use Rattle.lu_spec_machine.specs.declared.child.Child.{Child}
use Rattle.lu_spec_machine.specs.declared.child.Child.TheVariants.{Dir, File}
use Rattle.lu_spec_machine.specs.Tree.{Tree, child}
use Rattle.lu_spec_machine.specs.Paths.{leads_to}
use Rattle.lu_proof_lawful.specs.Covered.Makes.{Path}

-- ---- part by part

pub goes_on : (t : Tree) (at : Child) (p q : Path) (b c : Child) → leads_to t at p ≡ Some b → leads_to t b q ≡ Some c
    → leads_to t at (p ++ q) ≡ Some c
goes_on t at [] q b c h k = let same : b ≡ at = cc in subst (λ (v : Child). leads_to t v q ≡ Some c) same k
goes_on t (File f) (n ∷ p) q b c h k = absurd (cc)
goes_on t (Dir d) (n ∷ p) q b c h k = by (child t d n) h (λ x. goes_on t x p q b c)
  where
    by : (o : Option Child) → option_and_then (λ x. leads_to t x p) o ≡ Some b
        → ((x : Child) → leads_to t x p ≡ Some b → leads_to t b q ≡ Some c → leads_to t x (p ++ q) ≡ Some c)
        → option_and_then (λ x. leads_to t x (p ++ q)) o ≡ Some c
    by None g more = absurd (cc)
    by (Some x) g more = more x g k

pub comes_by : (t : Tree) (at : Child) (p q : Path) (c : Child) → leads_to t at (p ++ q) ≡ Some c → (b : Child) × (leads_to t at p ≡ Some b)
    × (leads_to t b q ≡ Some c)
comes_by t at [] q c h = (at, refl, h)
comes_by t (File f) (n ∷ p) q c h = absurd (cc)
comes_by t (Dir d) (n ∷ p) q c h = by (child t d n) h (λ x. comes_by t x p q c)
  where
    by : (o : Option Child) → option_and_then (λ x. leads_to t x (p ++ q)) o ≡ Some c
        → ((x : Child) → leads_to t x (p ++ q) ≡ Some c → (b : Child) × (leads_to t x p ≡ Some b) × (leads_to t b q ≡ Some c))
        → (b : Child) × (option_and_then (λ x. leads_to t x p) o ≡ Some b) × (leads_to t b q ≡ Some c)
    by None g more = absurd (cc)
    by (Some x) g more = more x g

-- one name
pub one_name : (t : Tree) (d : Fid) (n : List ℕ) (c : Child) → leads_to t (Dir d) (n ∷ []) ≡ Some c → child t d n ≡ Some c
one_name t d n c h = by (child t d n) h
  where
    by : (o : Option Child) → option_and_then (λ x. Some x) o ≡ Some c → o ≡ Some c
    by None g = absurd (cc)
    by (Some x) g = g

-- ---- with fewer names

module _ (t u : Tree) (less : (d : Fid) (n : List ℕ) (c : Child) → child u d n ≡ Some c → child t d n ≡ Some c) where
  -- a path that leads somewhere led there before
  pub leads_still : (at : Child) (path : Path) (c : Child) → leads_to u at path ≡ Some c → leads_to t at path ≡ Some c
  leads_still at [] c h = h
  leads_still (File f) (n ∷ ns) c h = absurd (cc)
  leads_still (Dir d) (n ∷ ns) c h = by (child u d n) refl h (λ b. leads_still b ns c)
    where
      by : (o : Option Child) → child u d n ≡ o → option_and_then (λ b. leads_to u b ns) o ≡ Some c
          → ((b : Child) → leads_to u b ns ≡ Some c → leads_to t b ns ≡ Some c) → leads_to t (Dir d) (n ∷ ns) ≡ Some c
      by None is g more = absurd (cc)
      by (Some b) is g more = ap (option_and_then (λ b. leads_to t b ns)) (less d n b is) ∙ more b g

-- ---- with one name more

-- in the second tree a name leads where it led in the first, or it is the name n of d and leads to b
abbrev pub IsOneMore : Tree → Tree → Fid → List ℕ → Child → Type 0
IsOneMore t u d n b = (e : Fid) (m : List ℕ) (c : Child) → child u e m ≡ Some c → ((d ≡ e) × (n ≡ m) × (c ≡ b)) ⊎ (child t e m ≡ Some c)

module _ (t u : Tree) (d : Fid) (n : List ℕ) (b : Child) (more : IsOneMore t u d n b) where
  -- by the names that were there, or as far as that name by these, and on from b
  abbrev pub Leads_by : Child → Path → Child → Type 0
  Leads_by at path c = (leads_to t at path ≡ Some c) ⊎ ((front : Path) × (rest : Path) × (path ≡ front ++ n ∷ rest)
      × (leads_to t at front ≡ Some (Dir d)) × (leads_to u b rest ≡ Some c))

  pub leads_by : (at : Child) (path : Path) (c : Child) → leads_to u at path ≡ Some c → Leads_by at path c
  leads_by at [] c h = inl h
  leads_by (File g) (m ∷ ms) c h = absurd (cc)
  leads_by (Dir e) (m ∷ ms) c h = by (child u e m) refl h (λ x. leads_by x ms c)
    where
      new_here : (x : Child) → d ≡ e → n ≡ m → x ≡ b → leads_to u x ms ≡ Some c → Leads_by (Dir e) (m ∷ ms) c
      new_here x p q r g = inr (
        [],
        ms,
        ap (λ (k : List ℕ). k ∷ ms) (sym q),
        ap (λ (k : Fid). Some (Dir k)) (sym p),
        subst (λ (v : Child). leads_to u v ms ≡ Some c) r g,
      )

      old_here : (x : Child) → child t e m ≡ Some x → Leads_by x ms c → Leads_by (Dir e) (m ∷ ms) c
      old_here x is (inl g) = inl (ap (option_and_then (λ y. leads_to t y ms)) is ∙ g)
      old_here x is (inr g) = inr (m ∷ g.0, g.1, ap (λ (z : Path). m ∷ z) g.2, ap (option_and_then (λ y. leads_to t y g.0)) is ∙ g.3, g.4)

      by : (o : Option Child) → child u e m ≡ o → option_and_then (λ x. leads_to u x ms) o ≡ Some c
          → ((x : Child) → leads_to u x ms ≡ Some c → Leads_by x ms c) → Leads_by (Dir e) (m ∷ ms) c
      by None is g on = absurd (cc)
      by (Some x) is g on = ⊎_elim (λ (p : (d ≡ e) × (n ≡ m) × (x ≡ b)). new_here x p.0 p.1 p.2 g)
          (λ (p : child t e m ≡ Some x). old_here x p (on x g)) (more e m x is)
