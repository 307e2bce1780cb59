-- What the fields show.
use Rattle.lu_spec_machine.specs.Tree.{Tree}
use Rattle.lu_tree.specs.declared.inodes.Inodes.TheInside.{Inside}

abbrev pub tree_of : Inside → Tree
tree_of a = record { dirs = a.dirs.entries; files = a.files.entries; opens = a.opens.items }
