-- The file has the new number, and each other one is as it was.
use Rattle.std.proofs.Common.{sym, ap, ◌∙◌}
use Rattle.std.specs.Map.{set_value}
use Rattle.lu_spec_machine.specs.Change.{SetLinks, change}
use Rattle.lu_spec_machine.specs.Tree.{Tree}
use Rattle.lu_tree.proofs.FileMaps.{relinked}
use Rattle.lu_tree.proofs.Views.{tree_of}
use Rattle.lu_tree.proofs.inodes.Inodes.set_links.Goals as goal

pub returns : goal.returns
returns c =
    record {
      set =
          ap (λ fs. record (tree_of c.self.inside) { files = fs })
          ((c.get_mut.follows.holds c.set_links.new.self).0 ∙ ap (set_value _ c.self.inside.files.entries) c.set_links.ensures.set
          ∙ relinked (tree_of c.self.inside) c.self.invariant c.args.fid c.in-Some.file.now (sym c.in-Some.ensures.value) c.args.links)
          ∙ ap (λ (t : Tree). change t (SetLinks c.args.fid c.args.links)) c.self.view_is;
    }
