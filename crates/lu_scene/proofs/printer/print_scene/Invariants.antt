-- The text so far is that of the head and the first lines.
use Rattle.std.proofs.Common.{◌≡◌, ◌++◌, map, take}
use Rattle.lu_scene.specs.Print.{lines_text, head_words, line_words}
use Rattle.lu_scene.proofs.printer.print_scene.Given as goal

abbrev pub invariant-loop-line : goal.invariant-loop-line
invariant-loop-line l = l.out ≡ lines_text (head_words l.fn.scene.head ++ map line_words (take l.line-index l.line-items))
