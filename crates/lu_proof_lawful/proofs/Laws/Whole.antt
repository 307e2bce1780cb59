-- The theorem: every run of the whole table whose lines are covered is lawful.
use Rattle.std.specs.Prelude.{List}
use Rattle.lu_spec_entries.specs.Printed.{printed}
use Rattle.lu_spec_run.specs.Heads as table
use Rattle.lu_spec_run.specs.Runs.{Turn, IsRun, lines_of}
use Rattle.lu_proof_lawful.specs.Covered.Runs.{AllCovered}
use Rattle.lu_proof_lawful.specs.Covered.Heads.{IsHead}
use Rattle.lu_spec_laws.specs.Words.Lives.{is_gone}
use Rattle.lu_spec_laws.specs.Words.Lost.{is_lost}
use Rattle.lu_spec_laws.specs.Holds.{Holds}
use Rattle.lu_spec_laws.specs.Laws.Acts.{ActsOf}
use Rattle.lu_spec_laws.specs.Laws.History.{HistoryOf}
use Rattle.lu_spec_laws.specs.Lawful.{Lawful}
use Rattle.lu_proof_lawful.specs.Everywhere.{OfEveryRun, OfAllThatFit}
use Rattle.lu_proof_lawful.proofs.Preconditions.Turns.{covered_head}
use Rattle.lu_proof_lawful.proofs.Preconditions.Obey.{grown, noted, settled}
use Rattle.lu_proof_lawful.proofs.Preconditions.HeedRuns.{all_heed}
use Rattle.lu_proof_lawful.proofs.Preconditions.SpeakRuns.{all_speak}
use Rattle.lu_proof_lawful.proofs.Laws.Agrees.{OfRun}
use Rattle.lu_proof_lawful.proofs.Laws.Once.{all_asked}
use Rattle.lu_proof_lawful.proofs.Laws.Lasting.{lasting}
use Rattle.lu_proof_lawful.proofs.Laws.FitsNow.{all_fit, shown_run}
use Rattle.lu_proof_lawful.proofs.Laws.MessagesLaw.{messages_law}
use Rattle.lu_proof_lawful.proofs.Laws.LocksLaw.{locks_law}
use Rattle.lu_proof_lawful.proofs.Laws.ToldLaw.{acts_law}
use Rattle.lu_proof_lawful.proofs.Laws.RecoveryLaw.{recovery_law}
use Rattle.lu_proof_lawful.proofs.Laws.PinsRuns.{pins_fit}
use Rattle.lu_proof_lawful.proofs.Laws.SilentLaw.{silent_law}
use Rattle.lu_proof_lawful.proofs.Laws.HistoryLaw.{history_law}
use Rattle.lu_proof_lawful.proofs.Laws.GlimpseLaw.{glimpse_law}

pub head_is : (head : table.Head) → table.IsHead head → IsHead (covered_head head)
head_is head i =
    record {
      clients = i.clients;
      most_clients = i.most_clients;
      osts = i.osts;
      most_osts = i.most_osts;
      flight = i.flight;
      most_flight =
          i.most_flight;
    }

-- ---- all runs: of all lives that may be out and numbers that may be lost

pub acts_of : OfAllThatFit (λ out lost osts whole. Holds (ActsOf out lost whole) whole)
acts_of head turns is run covered out lost fits =
    let past = lines_of turns in
    let g = grown head turns run covered in
    acts_law (covered_head head) (head_is head is) out lost past g
    (lasting (covered_head head) out lost past g (noted head turns run covered).shown fits) past g (settled head turns run covered)
    (λ d a. a, λ who f r h. h) fits.heard

-- what is known of the lines of a run
pub of_run : (head : table.Head) (turns : List Turn) → table.IsHead head → IsRun head turns → AllCovered (lines_of turns)
    → OfRun (covered_head head) (lines_of turns)
of_run head turns is run covered =
    let g = grown head turns run covered in
    record {
      ranges = head_is head is;
      grown = g;
      pins = pins_fit head turns run covered;
      heeds = all_heed head turns run covered;
      speaks = all_speak head turns run covered;
      asked = all_asked (covered_head head) (lines_of turns) g;
    }

pub history_of : OfAllThatFit (λ out lost osts whole. Holds (HistoryOf out lost osts) whole)
history_of head turns is run covered out lost fits = history_law (covered_head head) out lost (lines_of turns) fits
    (of_run head turns is run covered)

pub lawful : OfEveryRun (λ osts whole. Lawful osts whole)
lawful head turns is run covered =
    let past = lines_of turns in
    let few = covered_head head in
    let g = grown head turns run covered in
    let fits = all_fit few past g (noted head turns run covered).shown in
    let known = of_run head turns is run covered in
    record {
      messages = messages_law few past g;
      locks = locks_law few past g;
      silent = silent_law few past (record {
        ranges = known.ranges;
        grown = known.grown;
        pins = known.pins;
        heeds = known.heeds;
        speaks =
            known.speaks;
      }) (settled head turns run covered);
      acts = acts_of head turns is run covered (is_gone (printed past)) (is_lost (printed past)) fits;
      recovery = recovery_law few past g (noted head turns run covered) (all_asked few past g);
      history = history_of head turns is run covered (is_gone (printed past)) (is_lost (printed past)) fits;
      glimpse = glimpse_law few past (record {
        ranges = known.ranges;
        grown = known.grown;
        pins = known.pins;
        heeds = known.heeds;
        speaks =
            known.speaks;
        shown = shown_run head turns run covered;
      });
    }
