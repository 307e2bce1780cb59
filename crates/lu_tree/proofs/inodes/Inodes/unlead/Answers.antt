-- The directory has the name no longer, and each other one is as it was.
use Rattle.std.proofs.Common.{refl, sym, ap, ◌∙◌}
use Rattle.std.specs.Map.{set_value}
use Rattle.lu_spec_machine.specs.Tree.{Tree}
use Rattle.lu_spec_machine.specs.Change.{Drops, change}
use Rattle.lu_tree.proofs.Dirs.{dropped, still_ordered, with_dirs}
use Rattle.lu_tree.proofs.Views.{tree_of}
use Rattle.lu_tree.proofs.inodes.Inodes.unlead.Goals as goal

pub invariant_of-self : goal.invariant_of-self
invariant_of-self c =
    still_ordered _ (Drops c.args.dir c.args.name.now) _ c.self.invariant
    ((c.get_mut.follows.holds c.remove.new.self).0 ∙ ap (set_value _ c.self.inside.dirs.entries) c.remove.ensures.gone
    ∙ dropped _ c.self.invariant c.args.dir c.args.name.now c.in-Some.folder.now (sym c.in-Some.ensures.value)) refl

pub returns : goal.returns
returns c =
    record {
      gone =
          ap (with_dirs (tree_of c.self.inside))
          ((c.get_mut.follows.holds c.remove.new.self).0 ∙ ap (set_value _ c.self.inside.dirs.entries) c.remove.ensures.gone
          ∙ dropped _ c.self.invariant c.args.dir c.args.name.now c.in-Some.folder.now (sym c.in-Some.ensures.value))
          ∙ ap (λ (t : Tree). change t (Drops c.args.dir c.args.name.now)) c.self.view_is;
    }
