-- What is so of every run in which no disk fails, as it is stated.
use Rattle.lu_spec_laws.specs.Holds.{Holds}
use Rattle.lu_spec_laws.specs.Laws.Acts.{ActsOf}
use Rattle.lu_spec_laws.specs.Laws.History.{HistoryOf}
use Rattle.lu_spec_laws.specs.Lawful.{Lawful}
use Rattle.lu_spec_laws.specs.Orderly.{Orderly}
use Rattle.lu_proof_lawful.proofs.Laws.Whole as whole
use Rattle.lu_proof_lawful.proofs.Laws.OrderlyWhole as orderly
use Rattle.lu_proof_scenes.specs.Unfailed.{OfUnfailedRuns, OfAllThatFit}
use Rattle.lu_proof_scenes.proofs.AnyRun.{run_covered}

pub run_lawful : OfUnfailedRuns (λ osts past. Lawful osts past)
run_lawful head turns is run unfailed = whole.lawful head turns is run (run_covered head turns run unfailed)

pub run_orderly : OfUnfailedRuns (λ osts past. Orderly osts past)
run_orderly head turns is run unfailed = orderly.orderly head turns is run (run_covered head turns run unfailed)

pub run_acts_of : OfAllThatFit (λ out lost osts past. Holds (ActsOf out lost past) past)
run_acts_of head turns is run unfailed = whole.acts_of head turns is run (run_covered head turns run unfailed)

pub run_history_of : OfAllThatFit (λ out lost osts past. Holds (HistoryOf out lost osts) past)
run_history_of head turns is run unfailed = whole.history_of head turns is run (run_covered head turns run unfailed)
