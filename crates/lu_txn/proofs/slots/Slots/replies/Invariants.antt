-- The replies of the slots so far, and those of the slots that are left.
use Rattle.std.proofs.Common.{◌≡◌, ◌++◌, length}
use Rattle.std.specs.Prelude.{All}
use Rattle.lu_msg.specs.Limits.{tag_count}
use Rattle.lu_txn.specs.Slots.{kept_in}
use Rattle.lu_txn.proofs.slots.Slots.replies.Given as goal

abbrev pub invariant-loop-slot : goal.invariant-loop-slot
invariant-loop-slot l = (l.replies ++ kept_in l.slot-iterator ≡ kept_in l.self)
    × All (λ slot. length slot.replies ≡ tag_count) l.slot-iterator
