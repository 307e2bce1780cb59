-- None of those at the end is such a cut.
use Rattle.std.proofs.Common.{◌≡◌, ◌≤◌, ◌<◌, false, length, drop}
use Rattle.std.specs.List.{list_any}
use Rattle.lu_judge_calls.specs.Marks.{marks_of, has_mark, cuts_within}
use Rattle.lu_judge_calls.proofs.cuts.any_cut.Given as goal

abbrev pub invariant-loop-left : goal.invariant-loop-left
invariant-loop-left l = record {
  within : l.left ≤ length l.cuts;
  stripe : l.stripe < length l.layout.targets;
  none : list_any (has_mark l.limit (cuts_within l.layout l.stripe l.below)) (marks_of (drop l.left l.cuts)) ≡ false;
}

abbrev pub decreases-loop-left : goal.decreases-loop-left
decreases-loop-left l = l.left
