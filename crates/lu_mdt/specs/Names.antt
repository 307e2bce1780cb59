-- The names of a file system as a service shows them.
use Rattle.std.specs.Prelude.{[]}
use Rattle.lu_service.specs.Contents.{Contents}
use Rattle.lu_tree.specs.State.{TreeState}

-- what a tree of the program shows
abbrev pub shown : TreeState → Contents
shown s = record { osts = s.osts; last = s.last; tree = s.tree; objects = [] }
