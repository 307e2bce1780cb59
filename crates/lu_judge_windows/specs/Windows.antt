-- The tables of boots, commits and recovery windows show a past.
use Rattle.lu_spec_laws.specs.Words.Pasts.{Past}
use Rattle.lu_judge_windows.specs.declared.windows.Windows.{Windows}
use Rattle.lu_judge_windows.specs.Marks.{ShowsMarks}
use Rattle.lu_judge_windows.specs.Joins.{ShowsJoins}
use Rattle.lu_judge_windows.specs.Offers.{ShowsOffers}
use Rattle.lu_judge_windows.specs.Learned.{ShowsLearned}
use Rattle.lu_judge_windows.specs.Transactions.{ShowsTransactions}
use Rattle.lu_judge_windows.specs.Losses.{ShowsLosses}

pub record ShowsWindows (w : Windows) (past : Past) : Type 0 where
  pub marks : ShowsMarks w.marks past
  pub joins : ShowsJoins w.joins past
  pub offers : ShowsOffers w.offers past
  pub learned : ShowsLearned w.learned past
  pub transactions : ShowsTransactions w.transactions past
  pub losses : ShowsLosses w.losses past
