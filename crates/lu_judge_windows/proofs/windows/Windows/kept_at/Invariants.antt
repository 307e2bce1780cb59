use Rattle.std.proofs.Common.{◌≡◌, take, map}
use Rattle.std.specs.Prelude.{reverse}
use Rattle.lu_spec_laws.specs.Words.Pasts.{Past}
use Rattle.lu_spec_laws.specs.Words.Boots.{committed}
use Rattle.lu_spec_laws.specs.Words.Lost.{undecided, lost_numbers}
use Rattle.lu_spec_laws.specs.Words.Closes.{kept_of, lost_at}
use Rattle.lu_judge_pass.specs.Ledgers.{ShowsLedger}
use Rattle.lu_judge_windows.specs.Transactions.{transaction_of}
use Rattle.lu_judge_windows.specs.Windows.{ShowsWindows}
use Rattle.lu_judge_windows.proofs.windows.Windows.kept_at.Given as goal

abbrev pub invariant-loop-done : goal.invariant-loop-done
invariant-loop-done l = (past : Past) → ShowsLedger l.ledger past → ShowsWindows l.self past
    → l.kept ≡ kept_of (undecided (committed l.target past) (lost_numbers l.target past)
    (reverse (map transaction_of (take l.done-index l.done-items)))) (lost_at l.target past)
