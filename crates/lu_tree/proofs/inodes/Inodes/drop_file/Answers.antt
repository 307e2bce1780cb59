-- The map loses the file.
use Rattle.std.proofs.Common.{ap, ◌∙◌}
use Rattle.lu_spec_machine.specs.Tree.{Tree}
use Rattle.lu_tree.specs.Lives.{without_file}
use Rattle.lu_tree.proofs.Maps.{fid_gone}
use Rattle.lu_tree.proofs.Views.{tree_of}
use Rattle.lu_tree.proofs.inodes.Inodes.drop_file.Goals as goal

pub returns : goal.returns
returns c =
    record {
      gone =
          ap (λ fs. record (tree_of c.self.inside) { files = fs })
          (c.remove.ensures.entries ∙ fid_gone c.args.fid c.self.inside.files.entries c.self.invariant.files)
          ∙ ap (λ (t : Tree). without_file t c.args.fid) c.self.view_is;
    }
