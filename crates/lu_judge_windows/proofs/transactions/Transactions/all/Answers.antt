use Rattle.std.proofs.Common.{map, ap, ◌∙◌}
use Rattle.lu_judge_windows.specs.Transactions.{transaction_of}
use Rattle.lu_judge_windows.proofs.transactions.Transactions.all.Goals as goal

pub returns : goal.returns
returns c = record { all = ap (map transaction_of) c.or_none.ensures ∙ c.find.ensures.all }
