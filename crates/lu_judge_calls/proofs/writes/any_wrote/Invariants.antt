-- None of those at the end is such a write.
use Rattle.std.proofs.Common.{◌≡◌, ◌≤◌, false, length, drop}
use Rattle.std.specs.List.{list_any}
use Rattle.lu_spec_laws.specs.Words.Pieces.{wrote}
use Rattle.lu_judge_calls.specs.Marks.{marks_of, has_mark}
use Rattle.lu_judge_calls.proofs.writes.any_wrote.Given as goal

abbrev pub invariant-loop-left : goal.invariant-loop-left
invariant-loop-left l = record {
  within : l.left ≤ length l.writes;
  none : list_any (has_mark l.limit (wrote l.position l.byte)) (marks_of (drop l.left l.writes)) ≡ false;
}

abbrev pub decreases-loop-left : goal.decreases-loop-left
decreases-loop-left l = l.left
