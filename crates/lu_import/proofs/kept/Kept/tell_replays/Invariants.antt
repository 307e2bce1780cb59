-- The replays so far, and those that are left.
use Rattle.std.proofs.Common.{◌≡◌, ◌++◌}
use Rattle.lu_import.specs.Adding.{replays_of}
use Rattle.lu_import.specs.Recovery.{replays}
use Rattle.lu_import.proofs.kept.Kept.tell_replays.Given as goal

abbrev pub invariant-loop-txn : goal.invariant-loop-txn
invariant-loop-txn l = l.sends ++ replays l.teller (replays_of l.txn-iterator) ≡ l.initial.sends ++ replays l.teller l.self.replays
