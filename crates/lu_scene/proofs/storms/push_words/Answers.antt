use Rattle.std.proofs.Common.{◌∙◌, ap, sym, ◌++◌, ◌-◌, ◌+◌}
use Rattle.std.specs.List.{flat_map}
use Rattle.lu_scene.specs.Storms.{words, word_lines}
use Rattle.lu_scene.proofs.Drawn.{lines_left}
use Rattle.lu_scene.proofs.storms.push_words.Goals as goal

pub loop-place-preserved : goal.loop-place-preserved
loop-place-preserved c =
    let place = c.loop-place._place in
    let lines = c.loop-place.lines in
    ap (λ xs. xs ++ flat_map word_lines (words (c.args.count - (place + 1)) c.next_word.new.self)) (c.in_ok-push_word.ensures.added)
    ∙ ap (λ p. lines ++ word_lines p.0 ++ flat_map word_lines (words (c.args.count - (place + 1)) p.1)) (c.next_word.ensures)
    ∙ sym (lines_left place c.args.count c.loop-place.generator lines c.loop-place-test.true)
    ∙ c.loop-place.invariant
