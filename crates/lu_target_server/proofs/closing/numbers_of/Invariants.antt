-- The numbers so far.
use Rattle.std.proofs.Common.{◌≡◌, map, take}
use Rattle.lu_target_redo.specs.Shown.{deed_of}
use Rattle.lu_target_server.specs.Closing.{numbers_of}
use Rattle.lu_target_server.proofs.closing.numbers_of.Given as goal

abbrev pub invariant-loop-deed : goal.invariant-loop-deed
invariant-loop-deed l = l.numbers ≡ numbers_of (map deed_of (take l.deed-index l.deed-items))
