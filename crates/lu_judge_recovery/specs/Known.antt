-- The tables of the crates below show a past, each line of which is well formed.
use Rattle.lu_spec_laws.specs.Words.Pasts.{Past}
use Rattle.lu_judge_pass.specs.Ledgers.{ShowsLedger}
use Rattle.lu_judge_windows.specs.Windows.{ShowsWindows}
use Rattle.lu_judge_names.specs.Contents.{ShowsContents}
use Rattle.lu_judge_names.specs.Formed.{AreFormed}
use Rattle.lu_judge_names.specs.Seen.{ShowsSeen}
use Rattle.lu_judge_recovery.specs.declared.known.Known.{Known}

pub record ShowsKnown (k : Known) (past : Past) : Type 0 where
  pub ledger : ShowsLedger k.ledger past
  pub windows : ShowsWindows k.windows past
  pub contents : ShowsContents k.osts k.contents past
  pub written : ShowsSeen k.osts k.written past
  pub formed : AreFormed past
