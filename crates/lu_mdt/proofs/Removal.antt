-- Taking transactions out of what a service of names has performed: what a past leaves there is the tree of which the
-- law stands proved, in which each file leaves with its last name and its last open.
use Rattle.std.proofs.Common.{◌≡◌, ℕ, Bool, List, [], ◌∷◌, refl, sym, ap, subst, ◌∙◌}
use Rattle.lu_part.specs.declared.parts.Part.{Part}
use Rattle.lu_spec_machine.specs.Tree.{Tree}
use Rattle.lu_spec_machine.specs.Footprint as footprint
use Rattle.lu_spec_machine.specs.Footprint.{Operation, Every, Apart, forget}
use Rattle.lu_spec_machine.specs.Removal.{Item, Forgets, pick, ClearOf, UntouchedOf, FreeOf}
use Rattle.lu_spec_machine.specs.Removal.{Acts as Performed}
use Rattle.lu_spec_machine.specs.Trim.{trim, trimmed}
use Rattle.lu_spec_machine.proofs.Trim.{trimmed_removal}
use Rattle.lu_service.specs.declared.services.Kind.TheVariants.{Mdt}
use Rattle.lu_service.specs.Contents.{Contents}
use Rattle.lu_service.specs.Names.{names, fresh}
use Rattle.lu_service.specs.Removal.{left, without, Clear, Untouched, Free, CanGo, Removes}

module _ (osts : ℕ) where
  abbrev of : List Item → Contents
  of past = left names (fresh osts) past

  -- ---- what a past leaves

  osts_of : (past : List Item) → (of past).osts ≡ osts
  osts_of [] = refl
  osts_of (Performed a ∷ past) = osts_of past
  osts_of (Forgets who ∷ past) = osts_of past

  tree_of : (past : List Item) → (of past).tree ≡ trimmed osts past
  tree_of [] = refl
  tree_of (Performed a ∷ past) =
      ap (λ n. trim (footprint.after n (of past).tree a)) (osts_of past) ∙ ap (λ t. trim (footprint.after osts t a)) (tree_of past)
  tree_of (Forgets who ∷ past) = ap (λ t. trim (forget t who)) (tree_of past)

  -- what is said of a service's contents is said of the tree, and the other way round
  of_tree : (P : ℕ → Tree → Type 0) (past : List Item) → P (of past).osts (of past).tree → P osts (trimmed osts past)
  of_tree P past h = subst (P osts) (tree_of past) (subst (λ n. P n (of past).tree) (osts_of past) h)

  of_contents : (P : ℕ → Tree → Type 0) (past : List Item) → P osts (trimmed osts past) → P (of past).osts (of past).tree
  of_contents P past h = subst (λ n. P n (of past).tree) (sym (osts_of past)) (subst (P osts) (sym (tree_of past)) h)

  module _ (keep : ℕ → Bool) where
    abbrev ClearTree : List Item → Part → Type 0
    ClearTree past p = ClearOf osts keep (trimmed osts) past p

    clear : (past : List Item) (p : Part) → Clear names (fresh osts) keep past p → ClearTree past p
    clear [] p h = h
    clear (Performed a ∷ past) p h =
        ((λ gone. of_tree (λ n t. Apart (footprint.writes n t a) p) past (h.0 gone)), clear past p h.1)
    clear (Forgets who ∷ past) p h = clear past p h

    all_clear : (past : List Item) (ps : List Part) → Every (Clear names (fresh osts) keep past) ps → Every (ClearTree past) ps
    all_clear past [] h = h
    all_clear past (p ∷ ps) h = (clear past p h.0, all_clear past ps h.1)

    untouched : (past : List Item) (a : Operation) → Untouched names (fresh osts) keep past a → UntouchedOf osts keep (trimmed osts) past a
    untouched past a h =
        of_tree (λ n t. Every (ClearTree past) (footprint.touches n t a)) past (all_clear past (names.touches (of past) a) h)

    free : (past : List Item) → Free names (fresh osts) keep past → FreeOf osts keep (trimmed osts) past
    free [] h = h
    free (Performed a ∷ past) h = ((λ kept. untouched past a (h.0 kept)), free past h.1)
    free (Forgets who ∷ past) h = free past h

    -- ---- the law

    abbrev Both : (n : ℕ) (t : Tree) (m : ℕ) (u : Tree) → Operation → Type 0
    Both n t m u a =
        record {
          answer : footprint.answer n t a ≡ footprint.answer m u a;
          touches : footprint.touches n t a ≡ footprint.touches m u a;
          writes : footprint.writes n t a ≡ footprint.writes m u a;
          grants : footprint.grants n t a ≡ footprint.grants m u a;
          changes : footprint.changes n t a ≡ footprint.changes m u a;
        }

    module _ (past : List Item) (a : Operation) where
      abbrev gone : Contents
      gone = without names (fresh osts) keep past

      both : CanGo names Mdt (fresh osts) keep past → Untouched names (fresh osts) keep past a
          → Both (of past).osts (of past).tree gone.osts gone.tree a
      both can h =
          of_contents (λ n t. Both n t gone.osts gone.tree a) past
          (of_contents (λ n t. Both osts (trimmed osts past) n t a) (pick keep past)
          (trimmed_removal osts keep can.root past can.rising (free past can.free) a (untouched past a h)))

pub names_removal : (osts : ℕ) → Removes names Mdt (fresh osts)
names_removal osts =
    record {
      answer = λ keep past can a takes h. (both osts keep past a can h).answer;
      alike = λ keep past can a takes h.
          let b = both osts keep past a can h in
          record { touches = b.touches; writes = b.writes; grants = b.grants; changes = b.changes };
      read = λ keep past can r page extent h. refl;
    }
