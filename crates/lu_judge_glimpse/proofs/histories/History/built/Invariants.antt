use Rattle.std.proofs.Common.{take}
use Rattle.lu_spec_machine.specs.Machine.{start}
use Rattle.lu_spec_laws.specs.Words.Pasts.{Past}
use Rattle.lu_spec_laws.specs.Words.Lives.{is_gone}
use Rattle.lu_spec_laws.specs.Words.Lost.{is_lost}
use Rattle.lu_judge_pass.specs.Ledgers.{ShowsGone}
use Rattle.lu_judge_windows.specs.Windows.{ShowsWindows}
use Rattle.lu_judge_glimpse.specs.Histories.{ShowsPlain}
use Rattle.lu_judge_glimpse.specs.Items.{after_items}
use Rattle.lu_judge_glimpse.proofs.histories.History.built.Given as goal

abbrev pub invariant-loop-item : goal.invariant-loop-item
invariant-loop-item l =
    (past : Past) → ShowsGone l.gone past → ShowsWindows l.windows past
    → ShowsPlain l.self.osts l.machine (after_items (is_gone past) (is_lost past) l.self.osts start (take l.item-index l.item-items))
