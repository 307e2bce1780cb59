use Rattle.std.proofs.Common.{◌≡◌, ◌∷◌, ◌++◌, take}
use Rattle.std.specs.List.{join_with_byte}
use Rattle.lu_trace.proofs.texts.lists.put_joined.Given as goal

abbrev pub invariant-loop-name : goal.invariant-loop-name
invariant-loop-name l = l.out ≡ l.fn.out ++ join_with_byte l.between (l.first ∷ take l.name-index l.rest)
