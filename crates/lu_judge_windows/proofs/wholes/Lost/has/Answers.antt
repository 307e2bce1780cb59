use Rattle.std.proofs.Common.{◌∙◌}
use Rattle.lu_judge_windows.proofs.LossLines.{lost_shown}
use Rattle.lu_judge_windows.proofs.wholes.Lost.has.Goals as goal

pub returns : goal.returns
returns c = record {
  lost = λ whole shown. c.has.ensures.lost ∙ lost_shown c.args.self.now.losses whole shown.losses c.args.target c.args.number;
}
