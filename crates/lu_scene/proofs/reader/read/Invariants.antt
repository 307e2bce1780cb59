-- What is still to be read, after what was read, is what all of the text says.
use Rattle.std.proofs.Common.{◌≡◌, ◌+◌, map, drop}
use Rattle.lu_scene.specs.Lines.{lines_of, lines_after, nothing}
use Rattle.lu_scene.proofs.reader.read.Given as goal

abbrev pub invariant-loop-place : goal.invariant-loop-place
invariant-loop-place l =
    lines_after (l.place + 1) l.progress (drop l.place (map (λ line. line.now) l.line-items)) ≡ lines_after 1 nothing (lines_of l.text)
