-- The numbers rise by one.
use Rattle.std.proofs.Common.{◌≡◌, ◌+◌}
use Rattle.lu_test_target.specs.Told.{AreNext}
use Rattle.lu_test_target.proofs.batches.batches_of.Given as goal

abbrev pub invariant-loop-row : goal.invariant-loop-row
invariant-loop-row l = record { number : l.number ≡ 4294967296 + l.row-index; told : AreNext (l.number + 1) l.batches }
