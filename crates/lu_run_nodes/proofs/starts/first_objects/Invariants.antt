use Rattle.std.proofs.Common.{◌≡◌, ℕ, ◌+◌, ◌<◌, ◌≤◌, ◌++◌, List, [], length, slice_index_or}
use Rattle.std.specs.Prelude.{All}
use Rattle.lu_spec_run.specs.Scenarios.{head_of}
use Rattle.lu_run_nodes.specs.States.{TargetSeat}
use Rattle.lu_run_nodes.specs.Shown.{IsUnstarted}
use Rattle.lu_run_nodes.proofs.starts.first_objects.Given as goal

-- those so far are down with empty disks, which were taken off the end, and there is a disk for each of the others
abbrev pub invariant-loop-target : goal.invariant-loop-target
invariant-loop-target g l = record {
  count : length l.objects.items + 1 ≡ l.target;
  enough : l.head.osts + 1 ≤ length l.disks.items + l.target;
  rest : (taken : List g.row.D.Denot) × (l.fn.disks.items ≡ l.disks.items ++ taken) × (length taken + 1 ≡ l.target);
  empty : All (λ d. g.D.Disk.batches d ≡ []) l.disks.items;
  unstarted : (i : ℕ) (d : TargetSeat) → i < length l.objects.items
      → IsUnstarted (head_of l.head) (i + 1) (slice_index_or l.objects.items i d);
}
