use Rattle.std.proofs.Common.{refl, sym, ◌∙◌}
use Rattle.lu_judge_glimpse.proofs.Kept.{quiet, evicted}
use Rattle.lu_judge_glimpse.proofs.histories.History.step.Goals as goal

pub returns-else-not-has-clause-shows : goal.returns-else-not-has-clause-shows
returns-else-not-has-clause-shows c = λ past ledger calls gone windows shown.
    evicted c.args.self.now past c.args.line.now c.in-Evict.who c.in-Evict.cause c.in-Evict.is
    (sym (c.has.ensures.gone ∙ gone c.in-Evict.who) ∙ c.if-not-has.false) shown

pub returns-in_default : goal.returns-in_default
returns-in_default c = record {
  shows = λ past ledger calls gone windows shown.
      quiet c.args.self.now past c.args.line.now.at c.args.line.now.entry c.in_default.not-Told c.in_default.not-Txn c.in_default.not-Close
      c.in_default.not-Evict c.in_default.not-Fail shown;
  osts = refl;
}
