-- The map loses an empty directory.
use Rattle.std.proofs.Common.{refl, ap, ◌∙◌}
use Rattle.lu_spec_machine.specs.Tree.{Tree, listing}
use Rattle.lu_spec_machine.specs.Change.{Leaves, change}
use Rattle.lu_tree.proofs.Dirs.{left, still_ordered, with_dirs}
use Rattle.lu_tree.proofs.Views.{tree_of}
use Rattle.lu_tree.proofs.inodes.Inodes.leave.Goals as goal

pub invariant_of-self : goal.invariant_of-self
invariant_of-self c =
    still_ordered _ (Leaves c.args.dir) _ c.self.invariant
    (c.remove.ensures.entries ∙ left _ c.self.invariant c.args.dir (ap (λ (t : Tree). listing t c.args.dir) c.self.view_is ∙ c.requires))
    refl

pub returns : goal.returns
returns c =
    record {
      gone =
          ap (with_dirs (tree_of c.self.inside))
          (c.remove.ensures.entries ∙ left _ c.self.invariant c.args.dir
          (ap (λ (t : Tree). listing t c.args.dir) c.self.view_is ∙ c.requires))
          ∙ ap (λ (t : Tree). change t (Leaves c.args.dir)) c.self.view_is;
    }
