use Rattle.std.proofs.Common.{◌≡◌, ◌++◌, take}
use Rattle.lu_trace.specs.Traces.{lines_text}
use Rattle.lu_trace.proofs.texts.put_lines.Given as goal

abbrev pub invariant-loop-line : goal.invariant-loop-line
invariant-loop-line l = l.out ≡ l.fn.out ++ lines_text (take l.line-index l.lines)
