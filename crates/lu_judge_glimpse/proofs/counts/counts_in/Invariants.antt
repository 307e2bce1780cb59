use Rattle.std.proofs.Common.{◌≡◌, ℕ, ◌<◌, ◌≤◌, ◌-◌, length}
use Rattle.std.specs.Prelude.{slice_index_or}
use Rattle.lu_trace.specs.declared.entries.Line.{Line}
use Rattle.lu_judge_pass.specs.Firsts.{before}
use Rattle.lu_judge_glimpse.specs.Begins.{Counted, ShowsBegins}
use Rattle.lu_judge_glimpse.proofs.counts.counts_in.Given as goal

abbrev pub invariant-loop-place : goal.invariant-loop-place
invariant-loop-place l = record {
  within : l.place ≤ length l.lines;
  begins : ShowsBegins l.begins (before l.lines l.place);
  counted : (k : ℕ) → k < l.place → (d : Line) → Counted l.counts (before l.lines k) (slice_index_or l.lines k d);
}

abbrev pub decreases-loop-place : goal.decreases-loop-place
decreases-loop-place l = length l.lines - l.place
