-- The lines so far are those of entries.
use Rattle.std.proofs.Common.{map, take}
use Rattle.lu_judge_reader.specs.Reads.{AreRead}
use Rattle.lu_judge_reader.proofs.reader.read_lines.Given as goal

abbrev pub invariant-loop-place : goal.invariant-loop-place
invariant-loop-place l = AreRead l.entries (map (λ line. line.now) (take l.place l.lines))
