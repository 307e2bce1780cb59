use Rattle.std.proofs.Common.{◌∙◌, ap, ◌++◌}
use Rattle.std.proofs.lemmas.List.{append_assoc}
use Rattle.lu_scene.specs.Storms.{drawn_lines, run_if}
use Rattle.lu_scene.proofs.storms.push_word.Goals as goal

pub returns : goal.returns
returns c =
    record {
      added =
          c.in_ok-push_run.ensures.added
          ∙ ap (λ xs. xs ++ run_if c.of-draw.result.runs) c.in_ok-push.ensures.added
          ∙ append_assoc c.args.lines.now (drawn_lines c.of-draw.result) (run_if c.of-draw.result.runs)
          ∙ ap (λ d. c.args.lines.now ++ (drawn_lines d ++ run_if d.runs)) c.of-draw.ensures;
    }
