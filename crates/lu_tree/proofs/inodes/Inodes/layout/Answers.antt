-- A file that has a name is there.
use Rattle.std.proofs.Common.{sym, subst, ◌∙◌}
use Rattle.lu_spec_machine.specs.declared.child.Child.TheVariants.{File}
use Rattle.lu_spec_machine.specs.Tree.{Tree}
use Rattle.lu_tree.specs.Ends.{IsReached}
use Rattle.lu_tree.specs.State.{IsCounted}
use Rattle.lu_tree.proofs.Maps.{fid_found}
use Rattle.lu_tree.proofs.Named.{reached_there}
use Rattle.lu_tree.proofs.Views.{tree_of}
use Rattle.lu_tree.proofs.inodes.Inodes.layout.Goals as goal

pub unreachable-requires : goal.unreachable-requires
unreachable-requires c =
    reached_there (tree_of c.self.inside) c.args.fid (subst IsCounted (sym c.self.view_is) c.requires.counted)
    (subst (λ (t : Tree). IsReached t (File c.args.fid)) (sym c.self.view_is) c.requires.reached)
    (sym (fid_found c.args.fid c.self.inside.files.entries) ∙ sym c.in_default.ensures.value)
