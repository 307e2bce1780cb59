-- The items copied so far are the first of the list.
use Rattle.std.proofs.Common.{◌≡◌, take}
use Rattle.lu_base.proofs.sequence.SequenceDuplicate.copy.Given as goal

abbrev pub invariant-loop-item : goal.invariant-loop-item
invariant-loop-item g l = l.items.items ≡ take l.item-index l.item-items
