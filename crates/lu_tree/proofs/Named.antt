-- A file to which a name leads is there and has a link.
use Rattle.std.proofs.Common.{◌≡◌, ◌<◌, Option, Some, None, refl, sym, subst, ap, ◌∙◌, inl, inr, arith}
use Rattle.std.specs.Prelude.{IsSome}
use Rattle.std.specs.Map.{lookup}
use Rattle.std.specs.Option.{unwrap_or}
use Rattle.std.proofs.lemmas.Bool.Decides.{nat_tests}
use Rattle.lu_base.specs.declared.ids.Fid.{Fid}
use Rattle.lu_spec_machine.specs.declared.child.Child.{Child}
use Rattle.lu_spec_machine.specs.declared.child.Child.TheVariants.{Dir, File}
use Rattle.lu_spec_machine.specs.Tree.{Tree, Inode, no_file, same_fid, file, child}
use Rattle.lu_spec_machine.proofs.Count.{is_file, found_file, found_named}
use Rattle.lu_tree.specs.Ends.{IsReached}
use Rattle.lu_tree.specs.Lives.{IsThere}
use Rattle.lu_tree.specs.State.{IsCounted}

pub reached_linked : (t : Tree) (f : Fid) → IsCounted t → IsReached t (File f) → 0 < (file t f).links
reached_linked t f counted (inl e) = absurd (cc)
reached_linked t f counted (inr h) =
    let a = found_named t f h.0 h.1 in
    let own : is_file f (File f) ≡ 1 = grind (arith, nat_tests) in
    let b : found_file f (child t h.0 h.1) ≡ 1 = ap (found_file f) h.2 ∙ own in
    omega (arith, a, b, counted f)

pub reached_there : (t : Tree) (f : Fid) → IsCounted t → IsReached t (File f) → lookup (same_fid f) t.files ≡ None → ⊥
reached_there t f counted reached none =
    let a = reached_linked t f counted reached in
    let c = ap (λ (o : Option Inode). (unwrap_or o no_file).links) none in
    absurd (omega (arith, a, c))

is_there : (t : Tree) (f : Fid) → (lookup (same_fid f) t.files ≡ None → ⊥) → IsThere t (File f)
is_there t f some = by (lookup (same_fid f) t.files) refl
  where
    by : (o : Option Inode) → lookup (same_fid f) t.files ≡ o → IsSome (lookup (same_fid f) t.files)
    by None p = absurd (some p)
    by (Some x) p = subst IsSome (sym p) refl

pub child_there : (t : Tree) (c : Child) → IsCounted t → IsReached t c → IsThere t c
child_there t (Dir d) counted reached = tt
child_there t (File f) counted reached = is_there t f (reached_there t f counted reached)
