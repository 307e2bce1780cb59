use Rattle.lu_spec_laws.specs.Words.Closes.{lost_at}
use Rattle.lu_judge_windows.proofs.windows.Windows.lost_at.Goals as goal

pub returns : goal.returns
returns c = record {
  lost = λ past ledger shown. c.newest_first.ensures.same (lost_at c.args.target past) (c.in_ok-fate.ensures.fate past ledger shown);
}
