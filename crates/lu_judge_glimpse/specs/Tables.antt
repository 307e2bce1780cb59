-- The tables show the lines so far.
use Rattle.lu_spec_laws.specs.Words.Pasts.{Past}
use Rattle.lu_judge_pass.specs.Ledgers.{ShowsLedger, ShowsGone}
use Rattle.lu_judge_calls.specs.Tables.{ShowsOpenCalls}
use Rattle.lu_judge_windows.specs.Windows.{ShowsWindows}
use Rattle.lu_judge_glimpse.specs.Begins.{ShowsBegins}
use Rattle.lu_judge_glimpse.specs.Locks.{ShowsLocks}
use Rattle.lu_judge_glimpse.specs.declared.tables.Tables.{Tables}

pub record ShowsTables (t : Tables) (past : Past) : Type 0 where
  pub ledger : ShowsLedger t.ledger past
  pub calls : ShowsOpenCalls t.calls past
  pub windows : ShowsWindows t.windows past
  pub gone : ShowsGone t.gone past
  pub locks : ShowsLocks t.locks past
  pub begins : ShowsBegins t.begins past
