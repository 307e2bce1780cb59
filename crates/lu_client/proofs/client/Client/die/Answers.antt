use Rattle.std.proofs.Common.{◌∙◌}
use Rattle.std.proofs.lemmas.Result.{on_ok_weaker}
use Rattle.lu_client.proofs.Turning.{dead_still}
use Rattle.lu_client.proofs.client.Client.die.Goals as goal

pub returns-clause-after : goal.returns-clause-after
returns-clause-after c = on_ok_weaker c.spend.result (λ kept. kept ∙ dead_still c.args.stamp c.args.self.now) c.spend.ensures.kept
