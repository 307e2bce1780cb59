-- What is left are those above the number, and some that aren't.
use Rattle.std.proofs.Common.{◌≡◌, ℕ, nat_lt, filter, length}
use Rattle.lu_import.specs.Kept.{Replay}
use Rattle.lu_import.specs.Adding.{replays_of}
use Rattle.lu_import.proofs.kept.settle_replays.Given as goal

abbrev pub invariant-loop-number : goal.invariant-loop-number
invariant-loop-number l = filter (λ (r : Replay). nat_lt l.number.0 r.txn.0) (replays_of l.replays.entries)
    ≡ filter (λ (r : Replay). nat_lt l.number.0 r.txn.0) (replays_of l.initial.replays.entries)

abbrev pub decreases-loop-number : goal.decreases-loop-number
decreases-loop-number l = length l.replays.entries
