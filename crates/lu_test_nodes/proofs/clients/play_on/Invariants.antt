-- So many events came, and each was a turn at most.
use Rattle.std.proofs.Common.{◌≤◌}
use Rattle.lu_client.specs.Numbers.{HasAsked}
use Rattle.lu_test_nodes.proofs.clients.play_on.Given as goal

abbrev pub invariant-loop-next : goal.invariant-loop-next
invariant-loop-next l = record {
  asked : HasAsked l.count l.client.client.imports;
  few : l.count ≤ 1000;
}
