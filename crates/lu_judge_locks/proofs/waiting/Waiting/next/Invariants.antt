-- Nothing lasts of what was passed.
use Rattle.std.proofs.Common.{◌≡◌, ◌-◌, length, drop}
use Rattle.std.specs.Prelude.{filter}
use Rattle.lu_judge_locks.specs.Lists.{arrival_of, lasts}
use Rattle.lu_judge_locks.proofs.waiting.Waiting.next.Given as goal

abbrev pub invariant-loop-at : goal.invariant-loop-at
invariant-loop-at l =
    filter (λ p. lasts l.self.lists l.target (arrival_of p)) (drop l.at l.queue)
    ≡ filter (λ p. lasts l.self.lists l.target (arrival_of p)) (drop l.from l.queue)

abbrev pub decreases-loop-at : goal.decreases-loop-at
decreases-loop-at l = length l.queue - l.at
