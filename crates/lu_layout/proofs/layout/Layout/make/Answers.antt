use Rattle.std.proofs.Common.{arith, rules}
use Rattle.lu_layout.proofs.Made.{AreSlots-filled, AreDistinct-from_no_repeat}
use Rattle.lu_layout.proofs.layout.Layout.make.Goals as goal

pub invariant_of-result : goal.invariant_of-result
invariant_of-result c =
    rw (c.copy_from_slice.ensures.after)
    (AreSlots-filled
    c.args.size
    c.args.stripes.now
    (omega arith, omega arith, omega arith)
    (search rules, omega arith, AreDistinct-from_no_repeat _ (search rules)))
