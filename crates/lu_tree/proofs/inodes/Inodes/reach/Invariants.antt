-- The rest of the walk comes to what the whole one does.
use Rattle.std.proofs.Common.{◌≡◌, drop}
use Rattle.lu_spec_machine.specs.Table.{root}
use Rattle.lu_tree.specs.Walks.{reach}
use Rattle.lu_tree.proofs.inodes.Inodes.reach.Given as goal

abbrev pub invariant-loop-name : goal.invariant-loop-name
invariant-loop-name l = reach l.self l.at (drop l.name-index l.path) ≡ reach l.self root l.path
