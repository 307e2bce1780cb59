use Rattle.std.proofs.Common.{refl, sym, ◌∙◌}
use Rattle.lu_judge_pass.specs.Places.{NoneOf}
use Rattle.lu_judge_pass.proofs.Strangers.{none_taken, none_heard_in}
use Rattle.lu_judge_pass.proofs.Presents.{is_same, is_other}
use Rattle.lu_judge_pass.proofs.present.Present.enter.Goals as goal

pub returns-then-not-is : goal.returns-then-not-is
returns-then-not-is c = record {
  enters = λ past ordered follows shown.
      let none : NoneOf c.args.at past = is_other c.args.self.now past c.args.at ordered follows shown
      (sym c.is.ensures.present ∙ c.if-not-is.true) in
      (refl, rw c.new.ensures.items (sym (none_taken c.args.at past none)), sym (none_heard_in c.args.at past none));
}

pub returns-else-not-is : goal.returns-else-not-is
returns-else-not-is c = record {
  enters = λ past ordered follows shown. is_same c.args.self.now past c.args.at shown (sym c.is.ensures.present ∙ c.if-not-is.false);
}
