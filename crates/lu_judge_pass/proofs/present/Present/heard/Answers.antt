use Rattle.std.proofs.Common.{sym, ◌∙◌}
use Rattle.lu_judge_pass.proofs.Strangers.{none_heard_in}
use Rattle.lu_judge_pass.proofs.Presents.{is_same, is_other}
use Rattle.lu_judge_pass.proofs.present.Present.heard.Goals as goal

pub returns-then-is : goal.returns-then-is
returns-then-is c = record {
  heard = λ past shown ordered follows. (is_same c.args.self.now past c.args.at shown (sym c.is.ensures.present ∙ c.if-is.true)).2;
}

pub returns-else-is : goal.returns-else-is
returns-else-is c = record {
  heard = λ past shown ordered follows.
      sym (none_heard_in c.args.at past (is_other c.args.self.now past c.args.at ordered follows shown
      (sym c.is.ensures.present ∙ c.if-is.false)));
}
