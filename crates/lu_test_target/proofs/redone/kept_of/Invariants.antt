-- The numbers rise by one.
use Rattle.std.proofs.Common.{◌≡◌, ◌+◌}
use Rattle.lu_test_target.specs.Kept.{AreKept}
use Rattle.lu_test_target.proofs.redone.kept_of.Given as goal

abbrev pub invariant-loop-row : goal.invariant-loop-row
invariant-loop-row l = record { number : l.number ≡ 4294967296 + l.row-index; kept : AreKept (l.number + 1) l.kept }
