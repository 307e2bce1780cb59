use Rattle.std.proofs.Common.{◌≡◌, ◌++◌}
use Rattle.std.specs.Prelude.{filter}
use Rattle.lu_spec_laws.specs.Words.Pasts.{Past}
use Rattle.lu_spec_laws.specs.Words.Slots.{has_slot, first_lives}
use Rattle.lu_judge_pass.specs.Ledgers.{ShowsLedger}
use Rattle.lu_judge_windows.specs.Windows.{ShowsWindows}
use Rattle.lu_judge_recovery.specs.Clients.{count_of}
use Rattle.lu_judge_recovery.proofs.slots.add_first.Given as goal

abbrev pub invariant-loop-next : goal.invariant-loop-next
invariant-loop-next l =
    (past : Past) → ShowsLedger l.ledger past → ShowsWindows l.windows past
    → l.lives ++ filter (has_slot l.target past) (first_lives (count_of l.next)) ≡ l.initial.lives
    ++ filter (has_slot l.target past) (first_lives (count_of l.initial.next))

abbrev pub decreases-loop-next : goal.decreases-loop-next
decreases-loop-next l = count_of l.next
