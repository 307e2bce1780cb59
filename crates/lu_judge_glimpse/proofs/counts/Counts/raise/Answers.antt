use Rattle.std.proofs.Common.{◌<◌, ℕ, subst}
use Rattle.std.specs.HashMap.{get_by}
use Rattle.std.specs.Prelude.{◌==◌}
use Rattle.lu_judge_glimpse.proofs.Put.{raised}
use Rattle.lu_judge_glimpse.proofs.counts.Counts.raise.Goals as goal

pub returns-in_ok-insert-clause-still : goal.returns-in_ok-insert-clause-still
returns-in_ok-insert-clause-still c = λ other.
    raised c.args.place other c.args.count (λ k. get_by (λ j. k == j) c.args.self.now.by_place) _ (c.in_ok-insert.ensures.updates.0 other)
    (subst (λ (n : ℕ). n < c.args.count) c.get.ensures.count c.if-get-count.true)
