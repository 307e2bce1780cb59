use Rattle.std.proofs.Common.{◌∷◌}
use Rattle.lu_judge_recovery.proofs.Coming.{client_returns}
use Rattle.lu_judge_recovery.proofs.returns.Returns.step.Goals as goal

pub returns-in-Client : goal.returns-in-Client
returns-in-Client c = record {
  shows = λ past ledger windows shown. client_returns c.args.self.now past c.args.line.now _ c.in-Client.is shown;
}
