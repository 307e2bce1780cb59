-- Every covered run keeps all that `Orderly` asks.
use Rattle.lu_spec_run.specs.Runs.{lines_of}
use Rattle.lu_spec_laws.specs.Orderly.{Orderly}
use Rattle.lu_proof_lawful.specs.Everywhere.{OfEveryRun}
use Rattle.lu_proof_lawful.proofs.Preconditions.Turns.{covered_head}
use Rattle.lu_proof_lawful.proofs.Preconditions.Obey.{grown, noted}
use Rattle.lu_proof_lawful.proofs.Laws.Once.{all_asked}
use Rattle.lu_proof_lawful.proofs.Laws.OrderlyQuiet as quiet
use Rattle.lu_proof_lawful.proofs.Laws.OrderlyHanded as handed
use Rattle.lu_proof_lawful.proofs.Laws.OrderlyCloses as closes
use Rattle.lu_proof_lawful.proofs.Laws.OrderlyLives as lives
use Rattle.lu_proof_lawful.proofs.Laws.OrderlyJoined as joined
use Rattle.lu_proof_lawful.proofs.Laws.OrderlySaid as said
use Rattle.lu_proof_lawful.proofs.Laws.OrderlyAsked as asked
use Rattle.lu_proof_lawful.proofs.Laws.OrderlyAgain as again
use Rattle.lu_proof_lawful.proofs.Laws.OrderlyLocks as locks
use Rattle.lu_proof_lawful.proofs.Laws.OrderlyBlocks as blocks
use Rattle.lu_proof_lawful.proofs.Laws.OrderlyWaits as waits

pub orderly : OfEveryRun (λ osts whole. Orderly osts whole)
orderly all turns is run covered =
    let head = covered_head all in
    let past = lines_of turns in
    let g = grown all turns run covered in
    record {
      serving = quiet.serving head past g;
      requests = asked.requests head past g;
      boots = quiet.boots head past g;
      messages = said.messages head past g;
      lives = lives.lives head past g;
      held = locks.held head past g;
      heard = said.heard head past g;
      repeated = again.repeated head past g;
      answers = said.answers head past g (all_asked head past g);
      closes = closes.closes head past g (noted all turns run covered);
      kept = handed.kept head past g;
      restored = handed.restored_locks head past g;
      joined = joined.joined head past g;
      waits = waits.waits head past g;
      releases = locks.releases head past g;
      blocks = blocks.blocks head past g;
    }
