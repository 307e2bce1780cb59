-- The replies so far are kept.
use Rattle.std.proofs.Common.{◌≡◌, take}
use Rattle.lu_txn.specs.Slots.{with_replies}
use Rattle.lu_txn.proofs.slots.Slots.keep_all.Given as goal

abbrev pub invariant-loop-kept : goal.invariant-loop-kept
invariant-loop-kept l = l.self ≡ with_replies (take l.kept-index l.initial.replies) l.initial.self
