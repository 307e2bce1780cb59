-- What stays of a tree that files leave: all but parts of those.
use Rattle.std.proofs.Common.{◌≡◌, inl, inr, true≢false, Bool, true, false, cond, List, [], ◌∷◌, Some, refl, sym, ap, subst, ◌∙◌}
use Rattle.std.specs.Map.{lookup}
use Rattle.std.specs.Option.{unwrap_or}
use Rattle.lu_base.specs.declared.ids.Fid.{Fid}
use Rattle.lu_part.specs.declared.parts.Part.{Part}
use Rattle.lu_part.specs.declared.parts.Part.TheVariants as part
use Rattle.lu_spec_machine.specs.Tree.{Tree, Inode, Opened, Attributes, no_file, same_fid}
use Rattle.lu_spec_machine.specs.Footprint as footprint
use Rattle.lu_spec_machine.specs.Footprint.{inode_of}
use Rattle.lu_spec_machine.specs.Trim.{is_alive, living, trim}
use Rattle.lu_spec_machine.proofs.Keys.{Told, fid_tells}
use Rattle.lu_mdt.specs.Footprints.{HasLeft}

-- ---- looked up among the living

same_is : (f g : Fid) → Told same_fid f g → same_fid f g ≡ true → f ≡ g
same_is f g (inl told) is = told.1
same_is f g (inr told) is = absurd (true≢false (sym is ∙ told.0))

module _ (opens : List Opened) (f : Fid) where
  -- the file isn't there, or it is alive
  abbrev Stays : List (Fid × Inode) → Type 0
  Stays es = (i : Inode) → lookup (same_fid f) es ≡ Some i → is_alive opens (f, i) ≡ false → ⊥

  abbrev Found : List (Fid × Inode) → Type 0
  Found es = lookup (same_fid f) (living opens es) ≡ lookup (same_fid f) es

  found_head : (e : Fid × Inode) (es : List (Fid × Inode)) → Stays (e ∷ es) → (same_fid f e.0 ≡ false → Found es) → Found (e ∷ es)
  found_head e es stays rest = by (same_fid f e.0) refl (is_alive opens e) refl
    where
      by : (v : Bool) → same_fid f e.0 ≡ v → (w : Bool) → is_alive opens e ≡ w → Found (e ∷ es)
      by true m true a =
          ap (λ w. lookup (same_fid f) (cond w (e ∷ living opens es) (living opens es))) a
          ∙ ap (λ v. cond v (Some e.1) (lookup (same_fid f) (living opens es))) m
          ∙ sym (ap (λ v. cond v (Some e.1) (lookup (same_fid f) es)) m)
      by true m false a =
          absurd (stays e.1 (ap (λ v. cond v (Some e.1) (lookup (same_fid f) es)) m)
          (subst (λ (g : Fid). is_alive opens (g, e.1) ≡ false) (sym (same_is f e.0 (fid_tells f e.0) m)) a))
      by false m true a =
          ap (λ w. lookup (same_fid f) (cond w (e ∷ living opens es) (living opens es))) a
          ∙ ap (λ v. cond v (Some e.1) (lookup (same_fid f) (living opens es))) m
          ∙ rest m
          ∙ sym (ap (λ v. cond v (Some e.1) (lookup (same_fid f) es)) m)
      by false m false a =
          ap (λ w. lookup (same_fid f) (cond w (e ∷ living opens es) (living opens es))) a
          ∙ rest m
          ∙ sym (ap (λ v. cond v (Some e.1) (lookup (same_fid f) es)) m)

  found : (es : List (Fid × Inode)) → Stays es → Found es
  found [] stays = refl
  found (e ∷ es) stays =
      found_head e es stays
      (λ no. found es (λ i at dead. stays i (ap (λ v. cond v (Some e.1) (lookup (same_fid f) es)) no ∙ at) dead))

-- ---- part by part

abbrev attributes_of : Inode → Attributes
attributes_of i = record { mode = i.mode; links = i.links }

pub same_trimmed : (t : Tree) (p : Part) → (HasLeft t (inode_of p) → ⊥) → footprint.Same t (trim t) p
same_trimmed t (part.Name d n) stays = refl
same_trimmed t (part.List d) stays = refl
same_trimmed t (part.Attr f) stays =
    (refl, ap (λ o. attributes_of (unwrap_or o no_file)) (sym (found t.opens f t.files (λ i at dead. stays (i, at, dead)))))
same_trimmed t (part.Layout f) stays =
    ap (λ o. (unwrap_or o no_file).layout) (sym (found t.opens f t.files (λ i at dead. stays (i, at, dead))))
same_trimmed t (part.Parent f) stays = tt
same_trimmed t (part.Bytes f stripe extent) stays = tt

pub then_same : (t u v : Tree) (p : Part) → footprint.Same t u p → footprint.Same u v p → footprint.Same t v p
then_same t u v (part.Name d n) h k = h ∙ k
then_same t u v (part.List d) h k = h ∙ k
then_same t u v (part.Attr f) h k = (h.0 ∙ k.0, h.1 ∙ k.1)
then_same t u v (part.Layout f) h k = h ∙ k
then_same t u v (part.Parent f) h k = tt
then_same t u v (part.Bytes f stripe extent) h k = tt

pub back_same : (t u : Tree) (p : Part) → footprint.Same t u p → footprint.Same u t p
back_same t u (part.Name d n) h = sym h
back_same t u (part.List d) h = sym h
back_same t u (part.Attr f) h = (sym h.0, sym h.1)
back_same t u (part.Layout f) h = sym h
back_same t u (part.Parent f) h = tt
back_same t u (part.Bytes f stripe extent) h = tt
