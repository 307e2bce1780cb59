use Rattle.lu_judge.specs.Verdicts.{KeepsBefore}
use Rattle.lu_judge.proofs.Orders.{rank_of}
use Rattle.lu_judge.proofs.verdicts.verdict_on.Given as goal

abbrev pub invariant-loop-line : goal.invariant-loop-line
invariant-loop-line l = KeepsBefore l.trace l.law

abbrev pub decreases-loop-line : goal.decreases-loop-line
decreases-loop-line l = rank_of l.law
