use Rattle.std.proofs.Common.{◌∙◌}
use Rattle.lu_judge_pass.proofs.Presents.{hears_line}
use Rattle.lu_judge_pass.specs.Ledgers.{HasTurn}
use Rattle.lu_judge_pass.proofs.present.Present.step.Goals as goal

pub returns-in-Heard : goal.returns-in-Heard
returns-in-Heard c = record {
  shows = λ past ordered follows sent shown.
      let entered : HasTurn c.enter.new.self past c.args.line.now.at = c.enter.ensures.enters past ordered follows shown in
      rw c.in-Heard.is (
        c.hear.ensures.newest ∙ entered.0,
        rw c.hear.ensures.taken entered.1,
        hears_line past c.args.line.now.at c.in-Heard.target c.in-Heard.xid _ _ entered.2 c.hear.ensures.heard,
      );
}
