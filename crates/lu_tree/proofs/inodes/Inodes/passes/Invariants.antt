-- Whether the rest of the walk passes the directory is whether the whole one does.
use Rattle.std.proofs.Common.{◌≡◌, drop}
use Rattle.lu_spec_machine.specs.declared.child.Child.TheVariants.{Dir}
use Rattle.lu_spec_machine.specs.Table.{root, passes}
use Rattle.lu_tree.specs.Walks.{trail}
use Rattle.lu_tree.proofs.inodes.Inodes.passes.Given as goal

abbrev pub invariant-loop-name : goal.invariant-loop-name
invariant-loop-name l = passes (Dir l.dir) (trail l.self l.at (drop l.name-index l.path)) ≡ passes l.fn.child (trail l.self root l.path)
