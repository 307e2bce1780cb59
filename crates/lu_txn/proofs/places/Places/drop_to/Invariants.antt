-- Later places stay.
use Rattle.std.proofs.Common.{◌≡◌, ℕ, ◌<◌, true, length}
use Rattle.lu_part.specs.Places.{has}
use Rattle.lu_txn.proofs.places.Places.drop_to.Given as goal

abbrev pub invariant-loop-front : goal.invariant-loop-front
invariant-loop-front l = (later : ℕ) → l.place < later → has l.initial.self-inside.queue.items later ≡ true
    → has l.self-inside.queue.items later ≡ true

abbrev pub decreases-loop-front : goal.decreases-loop-front
decreases-loop-front l = length l.self-inside.queue.items
