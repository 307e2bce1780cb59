use Rattle.std.proofs.Common.{Bool, ap, sym, ◌∙◌}
use Rattle.std.specs.Prelude.{◌||◌}
use Rattle.lu_judge_windows.specs.Handed.{is_back_in}
use Rattle.lu_judge_windows.proofs.Ahead.{completed}
use Rattle.lu_judge_windows.proofs.handed.Handed.has_all_after.Goals as goal

pub returns-then-completes : goal.returns-then-completes
returns-then-completes c = record {
  all = λ handed shown.
      sym (completed c.args.self.now c.args.boot c.args.message.now handed c.args.who shown
      ∙ ap (λ (x : Bool). x || is_back_in c.args.self.now c.args.who) (sym c.completes.ensures.completes ∙ c.if-completes.true));
}

pub returns : goal.returns
returns c = record {
  all = λ handed shown.
      c.has_all.ensures.back
      ∙ sym (completed c.args.self.now c.args.boot c.args.message.now handed c.args.who shown
      ∙ ap (λ (x : Bool). x || is_back_in c.args.self.now c.args.who) (sym c.completes.ensures.completes ∙ c.if-completes.false));
}
