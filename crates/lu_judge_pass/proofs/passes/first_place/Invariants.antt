use Rattle.std.proofs.Common.{◌≡◌, ◌≤◌, ◌-◌, length}
use Rattle.lu_judge_pass.specs.Firsts.{HoldsBelow, before}
use Rattle.lu_judge_pass.proofs.passes.first_place.Given as goal

abbrev pub invariant-loop-place : goal.invariant-loop-place
invariant-loop-place g l = record {
  about : g.J.Judge.about l.tables ≡ g.J.Judge.about l.initial.tables;
  given : HoldsBelow (g.J.Judge.given (g.J.Judge.about l.initial.tables)) l.lines (length l.lines);
  within : l.place ≤ length l.lines;
  shows : g.J.Judge.shows l.tables (before l.lines l.place);
  holds : HoldsBelow (g.J.Judge.law (g.J.Judge.about l.initial.tables)) l.lines l.place;
}

abbrev pub decreases-loop-place : goal.decreases-loop-place
decreases-loop-place g l = length l.lines - l.place
