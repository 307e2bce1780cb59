-- The disks so far are so many, empty, and haven't failed.
use Rattle.std.proofs.Common.{◌≡◌, [], length}
use Rattle.std.specs.Prelude.{All}
use Rattle.lu_top.specs.Outcomes.{held_by}
use Rattle.lu_test_program.proofs.running.new_disks.Given as goal

abbrev pub invariant-loop-number : goal.invariant-loop-number
invariant-loop-number l =
    let held = held_by (λ d. d.batches) (λ d. d.faults) l.disks.items in
    record {
      count : length held ≡ l.number;
      empty : All (λ d. d.batches ≡ []) held;
      calm : All (λ d. d.faults ≡ 0) held;
    }
