-- The file has the new mode, and each other one is as it was.
use Rattle.std.proofs.Common.{sym, ap, ◌∙◌}
use Rattle.std.specs.Map.{set_value}
use Rattle.lu_spec_machine.specs.declared.child.Child.TheVariants.{File}
use Rattle.lu_spec_machine.specs.Change.{SetMode, change}
use Rattle.lu_spec_machine.specs.Tree.{Tree}
use Rattle.lu_tree.proofs.FileMaps.{remoded}
use Rattle.lu_tree.proofs.Views.{tree_of}
use Rattle.lu_tree.proofs.inodes.Inodes.set_file_mode.Goals as goal

pub returns : goal.returns
returns c =
    record {
      set =
          ap (λ fs. record (tree_of c.self.inside) { files = fs })
          ((c.get_mut.follows.holds c.set_mode.new.self).0 ∙ ap (set_value _ c.self.inside.files.entries) c.set_mode.ensures.set
          ∙ remoded (tree_of c.self.inside) c.self.invariant c.args.fid c.in-Some.file.now (sym c.in-Some.ensures.value) c.args.mode)
          ∙ ap (λ (t : Tree). change t (SetMode (File c.args.fid) c.args.mode)) c.self.view_is;
    }
