-- The target plays.
use Rattle.lu_test_nodes.specs.Plays.{Plays}
use Rattle.lu_test_nodes.proofs.targets.play_on.Given as goal

abbrev pub invariant-loop-next : goal.invariant-loop-next
invariant-loop-next g l = Plays l.fn.run l.node.target
