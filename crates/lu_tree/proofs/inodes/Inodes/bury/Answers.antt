-- Of the files only this one may leave.
use Rattle.std.proofs.Common.{sym, ap, subst, ◌∙◌}
use Rattle.lu_spec_machine.specs.Order.{IsOrdered}
use Rattle.lu_spec_machine.specs.Tree.{Tree}
use Rattle.lu_tree.specs.Lives.{without_file}
use Rattle.lu_tree.proofs.Living.{gone, stays}
use Rattle.lu_tree.proofs.Maps.{fid_gone}
use Rattle.lu_tree.proofs.Views.{tree_of}
use Rattle.lu_tree.proofs.inodes.Inodes.bury.Goals as goal

pub returns-then-is_dead : goal.returns-then-is_dead
returns-then-is_dead c =
    record {
      buried =
          ap (λ fs. record (tree_of c.self.inside) { files = fs })
          (c.remove.ensures.entries ∙ fid_gone c.args.fid c.self.inside.files.entries c.self.invariant.files)
          ∙ ap (λ (t : Tree). without_file t c.args.fid) c.self.view_is
          ∙ gone c.args.self.now c.args.fid (subst IsOrdered c.self.view_is c.self.invariant) c.requires.others
          (sym c.is_dead.ensures.dead ∙ c.if-is_dead.true);
    }

pub returns-else-is_dead : goal.returns-else-is_dead
returns-else-is_dead c = record {
  buried = stays c.args.self.now c.args.fid (subst IsOrdered c.self.view_is c.self.invariant)
      c.requires.others (sym c.is_dead.ensures.dead ∙ c.if-is_dead.false);
}
