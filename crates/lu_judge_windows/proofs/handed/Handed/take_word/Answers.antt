use Rattle.std.proofs.Common.{Bool, ap, ◌∙◌}
use Rattle.std.specs.Prelude.{◌&&◌, ◌||◌}
use Rattle.lu_spec_machine.specs.Tree.{same_life}
use Rattle.lu_judge_windows.specs.Handed.{is_back_in}
use Rattle.lu_judge_windows.proofs.HandedLines.{word_shown}
use Rattle.lu_judge_windows.proofs.handed.Handed.take_word.Goals as goal

pub returns : goal.returns
returns c = record {
  shows = λ b handed seen shown.
      word_shown c.args.self.now c.note_back.new.self b c.args.who c.args.replays c.args.locks seen handed shown c.put.new.self
      c.put-2.new.self c.in_ok-note_back.ensures.others c.in_ok-put.ensures.put c.in_ok-put-2.ensures.put
      (λ w. c.in_ok-note_back.ensures.back w ∙ ap (λ (x : Bool). (x && same_life c.args.who w) || is_back_in c.args.self.now w)
      c.has_handed-is_back.ensures.all);
}
