-- What was drawn, and what is left to draw, make the whole.
use Rattle.std.proofs.Common.{◌≡◌, ◌++◌, ◌-◌}
use Rattle.std.specs.List.{flat_map}
use Rattle.lu_scene.specs.Storms.{words, word_lines}
use Rattle.lu_scene.proofs.storms.push_words.Given as goal

abbrev pub invariant-loop-place : goal.invariant-loop-place
invariant-loop-place l =
    (l.lines ++ flat_map word_lines (words (l.count - l._place) l.generator))
    ≡ (l.initial.lines ++ flat_map word_lines (words l.count l.seed))
