-- The names so far and those of the rest of the walk are those of the whole one.
use Rattle.std.proofs.Common.{◌≡◌, ◌++◌, drop}
use Rattle.lu_spec_machine.specs.Table.{root}
use Rattle.lu_tree.specs.Walks.{looks}
use Rattle.lu_tree.proofs.inodes.Inodes.push_looks.Given as goal

abbrev pub invariant-loop-name : goal.invariant-loop-name
invariant-loop-name l = l.parts ++ looks l.self l.at (drop l.name-index l.path) ≡ l.initial.parts ++ looks l.self root l.path
