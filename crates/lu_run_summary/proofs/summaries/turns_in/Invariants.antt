use Rattle.std.proofs.Common.{◌≡◌, ◌≤◌, ◌+◌, drop}
use Rattle.lu_run_summary.specs.Summaries.{turns_after, turns_in}
use Rattle.lu_run_summary.proofs.summaries.turns_in.Given as goal

-- those counted and those of the lines that are left are all
abbrev pub invariant-loop-line : goal.invariant-loop-line
invariant-loop-line l = (l.turns + turns_after l.last (drop l.line-index l.lines) ≡ turns_in l.lines) × (l.turns ≤ l.line-index)
