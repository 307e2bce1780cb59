-- One name more, in a tree where each path that leads somewhere was made and no two lead to one directory: it stays so, where what the
-- name leads to was nowhere, and the paths by that name are made too.
use Rattle.std.proofs.Common.{◌≡◌, ℕ, ◌≤◌, List, [], ◌∷◌, ◌++◌, ◌⊎◌, inl, inr, ⊎_elim, Some, sym, ap, subst, ◌∙◌, arith}
use Rattle.lu_base.specs.declared.ids.Fid.{Fid}
use Rattle.lu_spec_machine.specs.declared.child.Child.{Child}
use Rattle.lu_spec_machine.specs.declared.child.Child.TheVariants.{Dir}
use Rattle.lu_spec_machine.specs.Tree.{Tree, fid_of, child}
use Rattle.lu_spec_machine.specs.Table.{root}
use Rattle.lu_spec_machine.specs.Paths.{leads_to, at_path}
use Rattle.lu_spec_machine.proofs.Made.{Named}
use Rattle.lu_proof_lawful.specs.Covered.Makes.{Path}
use Rattle.lu_proof_lawful.proofs.Invariants.Ways.{leads_still, IsOneMore, leads_by}

-- fewer names
pub named_fewer : (Made : Path → Type 0) (bound : ℕ) (t u : Tree)
    → ((d : Fid) (n : List ℕ) (c : Child) → child u d n ≡ Some c → child t d n ≡ Some c) → Named Made bound t → Named Made bound u
named_fewer Made bound t u less h =
    record {
      made = λ path c is. h.made path c (leads_still t u less root path c is);
      one = λ p q d a b. h.one p q d (leads_still t u less root p (Dir d) a) (leads_still t u less root q (Dir d) b);
      low = λ d n c is. h.low d n c (less d n c is);
      least = h.least;
    }

module _ (t u : Tree) (d : Fid) (n : List ℕ) (b : Child) (more : IsOneMore t u d n b) where
  -- the paths that are made by a name of the directory that front leads to
  abbrev pub IsBy : Path → Path → Type 0
  IsBy front path = (rest : Path) × (path ≡ front ++ n ∷ rest) × ((c : Child) × (leads_to u b rest ≡ Some c))

  -- no two paths lead from b to one directory, and none of these was anywhere
  abbrev pub IsNew : Type 0
  IsNew =
      record {
        single : (p q : Path) (x : Fid) → leads_to u b p ≡ Some (Dir x) → leads_to u b q ≡ Some (Dir x) → p ≡ q;
        alone : (p q : Path) (x : Fid) → at_path t p ≡ Some (Dir x) → leads_to u b q ≡ Some (Dir x) → ⊥;
      }

  module _ (Made : Path → Type 0) (bound wide : ℕ) (h : Named Made bound t) (le : bound ≤ wide) (low : (fid_of b).0 ≤ wide) (front : Path)
      (leads : at_path t front ≡ Some (Dir d)) (new : IsNew) where
    abbrev pub More : Path → Type 0
    More path = Made path ⊎ IsBy front path

    abbrev By : Path → Child → Type 0
    By path c = (early : Path) × (rest : Path) × (path ≡ early ++ n ∷ rest) × (leads_to t root early ≡ Some (Dir d))
        × (leads_to u b rest ≡ Some c)

    -- it begins with that front
    by_front : (path : Path) (c : Child) (g : By path c) → path ≡ front ++ n ∷ g.1
    by_front path c g = g.2 ∙ ap (λ (z : Path). z ++ n ∷ g.1) (h.one g.0 front d g.3 leads)

    pub named_graft : Named More wide u
    named_graft =
        record {
          made = λ path c is. ⊎_elim
              (λ (g : leads_to t root path ≡ Some c). ⊎_elim (λ (e : path ≡ []). inl e) (λ (m : Made path). inr (inl m)) (h.made path c g))
              (λ (g : By path c). inr (inr (g.1, by_front path c g, (c, g.4))))
              (leads_by t u d n b more root path c is);
          one = λ p q x a c. ⊎_elim
              (λ (g : leads_to t root p ≡ Some (Dir x)). ⊎_elim
              (λ (k : leads_to t root q ≡ Some (Dir x)). h.one p q x g k)
              (λ (k : By q (Dir x)). absurd (new.alone p k.1 x g k.4))
              (leads_by t u d n b more root q (Dir x) c))
              (λ (g : By p (Dir x)). ⊎_elim
              (λ (k : leads_to t root q ≡ Some (Dir x)). absurd (new.alone q g.1 x k g.4))
              (λ (k : By q (Dir x)). by_front p (Dir x) g ∙ ap (λ (z : Path). front ++ n ∷ z) (new.single g.1 k.1 x g.4 k.4)
              ∙ sym (by_front q (Dir x) k))
              (leads_by t u d n b more root q (Dir x) c))
              (leads_by t u d n b more root p (Dir x) a);
          low = λ e m c is. ⊎_elim
              (λ (g : (d ≡ e) × (n ≡ m) × (c ≡ b)). subst (λ (v : Child). (fid_of v).0 ≤ wide) (sym g.2) low)
              (λ (g : child t e m ≡ Some c). let k = h.low e m c g in omega arith)
              (more e m c is);
          least = let k = h.least in omega arith;
        }
