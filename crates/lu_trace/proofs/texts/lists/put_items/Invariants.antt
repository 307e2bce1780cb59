use Rattle.std.proofs.Common.{◌≡◌, ◌∷◌, ◌++◌, take, map}
use Rattle.std.specs.List.{join_with_byte}
use Rattle.lu_trace.proofs.texts.lists.put_items.Given as goal

abbrev pub invariant-loop-item : goal.invariant-loop-item
invariant-loop-item g l = l.out ≡ l.fn.out ++ join_with_byte 44 (g.W.Writes.text l.first ∷ map g.W.Writes.text (take l.item-index l.rest))
