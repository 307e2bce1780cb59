-- The map has the new file.
use Rattle.std.proofs.Common.{ap, ◌∙◌}
use Rattle.std.specs.BTreeMap.{insert_entry}
use Rattle.lu_spec_machine.specs.Change.{MakesFile, change, new_file}
use Rattle.lu_spec_machine.specs.Tree.{Tree, fid_cmp}
use Rattle.lu_tree.proofs.Maps.{fid_put}
use Rattle.lu_tree.proofs.Views.{tree_of}
use Rattle.lu_tree.proofs.inodes.Inodes.make_file.Goals as goal

pub returns-clause-made : goal.returns-clause-made
returns-clause-made c =
    ap (λ fs. record (tree_of c.self.inside) { files = fs })
    (c.in_ok-insert.ensures.entries ∙ ap (insert_entry fid_cmp c.self.inside.files.entries c.args.fid) c.new.ensures.new
    ∙ fid_put c.args.fid (new_file c.args.layout) c.self.inside.files.entries c.self.invariant.files)
    ∙ ap (λ (t : Tree). change t (MakesFile c.args.fid c.args.layout)) c.self.view_is
