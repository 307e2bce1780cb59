-- The laws of footprints of a service of names, from those of the tree.
use Rattle.std.proofs.Common.{◌≡◌, refl, subst}
use Rattle.lu_base.specs.declared.ids.Who.{Who}
use Rattle.lu_part.specs.declared.parts.Part.{Part}
use Rattle.lu_part.specs.declared.parts.Part.TheVariants as part
use Rattle.lu_spec_machine.specs.Footprint as footprint
use Rattle.lu_spec_machine.specs.Footprint.{Operation, Apart, forget, inode_of}
use Rattle.lu_spec_machine.proofs.Stated.{others_stay as tree_stays, new_from_old as tree_from_old, forget_drops_opens as tree_forgets}
use Rattle.lu_service.specs.Acts.{Agree}
use Rattle.lu_service.specs.Contents.{Contents, Same}
use Rattle.lu_service.specs.Names.{names, after, forgotten}
use Rattle.lu_mdt.specs.Footprints.{Loses, OthersStay, NewFromOld, ForgetDropsOpens}
use Rattle.lu_mdt.specs.Lawful.{same_parts}
use Rattle.lu_mdt.proofs.Trimmed.{same_trimmed, then_same, back_same}

-- two services whose trees hold the same there, and which hold the same bytes
up : (s t : Contents) (p : Part) → s.objects ≡ t.objects → footprint.Same s.tree t.tree p → Same s t p
up s t (part.Name d n) e h = h
up s t (part.List d) e h = h
up s t (part.Attr f) e h = h
up s t (part.Layout f) e h = h
up s t (part.Parent f) e h = h
up s t (part.Bytes f stripe extent) e h = subst (λ o. Same s (record s { objects = o }) (part.Bytes f stripe extent)) e (λ q is. refl)

pub others_stay : OthersStay
others_stay s a p apart new stays =
    let t = footprint.after s.osts s.tree a in
    up s (after s a) p refl (then_same s.tree t (after s a).tree p (tree_stays s.osts s.tree a p apart new) (same_trimmed t p stays))

module _ (s t : Contents) (a : Operation) where
  -- on the trees
  trees_agree : (p : Part) → Agree names s t a → footprint.Same s.tree t.tree p
      → footprint.Same (footprint.after s.osts s.tree a) (footprint.after t.osts t.tree a) p
  trees_agree p agree same =
      subst (λ n. footprint.Same (footprint.after s.osts s.tree a) (footprint.after n t.tree a) p) agree.osts
      (tree_from_old s.osts s.tree t.tree a p (same_parts s t (names.touches s a) agree.touched) same)

  both_trimmed : (p : Part) → Agree names s t a → footprint.Same s.tree t.tree p → (Loses s a (inode_of p) → ⊥)
      → (Loses t a (inode_of p) → ⊥) → footprint.Same (after s a).tree (after t a).tree p
  both_trimmed p agree same here there =
      let v = footprint.after s.osts s.tree a in
      let w = footprint.after t.osts t.tree a in
      then_same (after s a).tree v (after t a).tree p (back_same v (after s a).tree p (same_trimmed v p here))
      (then_same v w (after t a).tree p (trees_agree p agree same) (same_trimmed w p there))

pub new_from_old : NewFromOld
new_from_old s t a (part.Name d n) agree same here there = both_trimmed s t a (part.Name d n) agree same here there
new_from_old s t a (part.List d) agree same here there = both_trimmed s t a (part.List d) agree same here there
new_from_old s t a (part.Attr f) agree same here there = both_trimmed s t a (part.Attr f) agree same here there
new_from_old s t a (part.Layout f) agree same here there = both_trimmed s t a (part.Layout f) agree same here there
new_from_old s t a (part.Parent f) agree same here there = tt
new_from_old s t a (part.Bytes f stripe extent) agree same here there = same

-- opens are no part
same_forgotten : (s : Contents) (who : Who) (p : Part) → footprint.Same s.tree (forget s.tree who) p
same_forgotten s who (part.Name d n) = refl
same_forgotten s who (part.List d) = refl
same_forgotten s who (part.Attr f) = (refl, refl)
same_forgotten s who (part.Layout f) = refl
same_forgotten s who (part.Parent f) = tt
same_forgotten s who (part.Bytes f stripe extent) = tt

pub forget_drops_opens : ForgetDropsOpens
forget_drops_opens s who =
    let t = forget s.tree who in
    record {
      own = (tree_forgets s.tree who).own;
      others = (tree_forgets s.tree who).others;
      parts = λ p stays. up s (forgotten s who) p refl (then_same s.tree t (forgotten s who).tree p (same_forgotten s who p)
          (same_trimmed t p stays));
    }
