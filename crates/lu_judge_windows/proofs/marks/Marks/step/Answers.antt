use Rattle.std.proofs.Common.{ap, ◌∙◌}
use Rattle.std.specs.Prelude.{◌==◌}
use Rattle.std.specs.HashMap.{get_by}
use Rattle.lu_judge_windows.specs.declared.marks.Mark.{Mark}
use Rattle.lu_judge_windows.specs.Marks.{after_entry}
use Rattle.lu_judge_windows.proofs.MarkLines.{mark_put}
use Rattle.lu_judge_windows.proofs.marks.Marks.step.Goals as goal

pub returns-in_ok-insert-in-Target : goal.returns-in_ok-insert-in-Target
returns-in_ok-insert-in-Target c = record {
  shows = λ past shown.
      mark_put past c.args.line.now.at c.args.line.now.entry c.in-Target.target c.after-mark.result
      (λ k. get_by (λ j. k == j) c.args.self.now.by_target) (λ k. get_by (λ j. k == j) c.insert.new.self) c.in-Target.is
      (c.after-mark.ensures.after ∙ ap (λ (m : Mark). after_entry m c.args.line.now.entry) c.get.ensures.mark)
      (λ k. c.in_ok-insert-in-Target.ensures.updates.0 k) shown;
}
