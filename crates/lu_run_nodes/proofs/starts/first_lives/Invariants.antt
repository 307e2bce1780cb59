use Rattle.std.proofs.Common.{◌≡◌}
use Rattle.lu_spec_target.specs.States.{lives_from}
use Rattle.lu_run_nodes.proofs.starts.first_lives.Given as goal

-- those of the clients so far
abbrev pub invariant-loop-client : goal.invariant-loop-client
invariant-loop-client l = l.lives ≡ lives_from 0 l.client
