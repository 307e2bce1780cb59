-- The tables of the law of locks show the lines so far.
use Rattle.std.specs.Prelude.{◌≡◌, length}
use Rattle.lu_spec_laws.specs.Words.Pasts.{Past}
use Rattle.lu_judge_pass.specs.Ledgers.{ShowsLedger}
use Rattle.lu_judge_windows.specs.Windows.{ShowsWindows}
use Rattle.lu_judge_windows.specs.Shown.{ShowsHeldLocks}
use Rattle.lu_judge_names.specs.Contents.{ShowsContents}
use Rattle.lu_judge_locks.specs.declared.locks.Locks.{Locks}
use Rattle.lu_judge_locks.specs.Acts.{ShowsActs}
use Rattle.lu_judge_locks.specs.Queues.{ShowsQueues}

pub record Shown (j : Locks) (past : Past) : Type 0 where
  pub place : j.place ≡ length past
  pub ledger : ShowsLedger j.ledger past
  pub windows : ShowsWindows j.windows past
  pub contents : ShowsContents j.osts j.contents past
  pub held : ShowsHeldLocks j.held past
  pub queues : ShowsQueues j.queues past
  pub acts : ShowsActs j.acts past
