-- The locks so far, and those on the last inode and on the rest of the walk, are those of the whole one.
use Rattle.std.proofs.Common.{◌≡◌, ◌++◌, drop}
use Rattle.lu_spec_machine.specs.Table.{root, wants}
use Rattle.lu_tree.specs.Walks.{trail, only}
use Rattle.lu_tree.proofs.inodes.Inodes.wants.Given as goal

abbrev pub invariant-loop-name : goal.invariant-loop-name
invariant-loop-name l = l.wants ++ wants l.more (only l.pending ++ trail l.self l.at (drop l.name-index l.path))
    ≡ wants l.more (trail l.self root l.path)
