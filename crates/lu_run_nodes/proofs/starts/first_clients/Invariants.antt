use Rattle.std.proofs.Common.{◌≡◌, ℕ, ◌<◌, [], length, slice_index_or}
use Rattle.lu_spec_run.specs.Scenarios.{head_of}
use Rattle.lu_run_nodes.specs.States.{ClientSeat}
use Rattle.lu_run_nodes.specs.Shown.{ShowsClient}
use Rattle.lu_run_nodes.proofs.starts.first_clients.Given as goal

-- those so far are clients before their first turns
abbrev pub invariant-loop-number : goal.invariant-loop-number
invariant-loop-number l = record {
  count : length l.clients.items ≡ l.number;
  shows : (c : ℕ) (d : ClientSeat) → c < l.number → ShowsClient (head_of l.head) 0 [] c (slice_index_or l.clients.items c d);
}
