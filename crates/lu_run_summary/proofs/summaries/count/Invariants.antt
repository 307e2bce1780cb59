use Rattle.std.proofs.Common.{◌≡◌, take}
use Rattle.lu_run_summary.specs.Summaries.{count_of}
use Rattle.lu_run_summary.proofs.summaries.count.Given as goal

-- those before this line are counted
abbrev pub invariant-loop-line : goal.invariant-loop-line
invariant-loop-line l = l.count ≡ count_of l.counted (take l.line-index l.lines)
