-- The replies that are added, and those at the tags that are left.
use Rattle.std.proofs.Common.{◌≡◌, ◌++◌}
use Rattle.std.specs.Prelude.{drop}
use Rattle.lu_txn.specs.Slots.{tagged}
use Rattle.lu_txn.proofs.slots.Slot.add_to.Given as goal

abbrev pub invariant-loop-tag : goal.invariant-loop-tag
invariant-loop-tag l =
    l.replies ++ tagged l.self.who l.tag (drop l.tag l.self.replies) ≡ l.initial.replies ++ tagged l.self.who 0 l.self.replies
