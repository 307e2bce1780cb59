-- The map has the new directory.
use Rattle.std.proofs.Common.{refl, ap, ◌∙◌}
use Rattle.std.specs.BTreeMap.{insert_entry}
use Rattle.lu_spec_machine.specs.Tree.{Tree, fid_cmp}
use Rattle.lu_spec_machine.specs.Change.{MakesDir, change}
use Rattle.lu_tree.proofs.Dirs.{made, still_ordered, with_dirs}
use Rattle.lu_tree.proofs.Views.{tree_of}
use Rattle.lu_tree.proofs.inodes.Inodes.make_dir.Goals as goal

pub invariant_of-self-2 : goal.invariant_of-self-2
invariant_of-self-2 c = still_ordered _ (MakesDir c.args.dir) _ c.self.invariant
    (c.in_ok-insert.ensures.entries ∙ ap (insert_entry fid_cmp c.self.inside.dirs.entries c.args.dir) c.new.ensures.new
    ∙ made _ c.self.invariant c.args.dir) refl

pub returns-clause-made : goal.returns-clause-made
returns-clause-made c =
    ap (with_dirs (tree_of c.self.inside)) (c.in_ok-insert.ensures.entries
    ∙ ap (insert_entry fid_cmp c.self.inside.dirs.entries c.args.dir) c.new.ensures.new ∙ made _ c.self.invariant c.args.dir)
    ∙ ap (λ (t : Tree). change t (MakesDir c.args.dir)) c.self.view_is
