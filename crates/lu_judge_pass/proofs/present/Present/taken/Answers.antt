use Rattle.std.proofs.Common.{sym, ◌∙◌}
use Rattle.lu_judge_pass.proofs.Strangers.{none_taken}
use Rattle.lu_judge_pass.proofs.Presents.{is_same, is_other}
use Rattle.lu_judge_pass.proofs.present.Present.taken.Goals as goal

pub returns-then-is : goal.returns-then-is
returns-then-is c = record {
  taken = λ past shown ordered follows. rw c.as_slice.ensures.value
      (is_same c.args.self.now past c.args.at shown (sym c.is.ensures.present ∙ c.if-is.true)).1;
}

pub returns-else-is : goal.returns-else-is
returns-else-is c = record {
  taken = λ past shown ordered follows.
      sym (none_taken c.args.at past (is_other c.args.self.now past c.args.at ordered follows shown
      (sym c.is.ensures.present ∙ c.if-is.false)));
}
