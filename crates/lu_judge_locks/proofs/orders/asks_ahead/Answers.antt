-- Those ahead.
use Rattle.std.proofs.Common.{◌∙◌, sym, ap, take}
use Rattle.std.proofs.lemmas.Result.{IfOk-weaker}
use Rattle.lu_spec_laws.specs.Words.Queues.{asks}
use Rattle.lu_judge_locks.proofs.Stepped.{asks_again}
use Rattle.lu_judge_locks.proofs.orders.asks_ahead.Goals as goal

pub returns : goal.returns
returns c =
    IfOk-weaker c.asks_of.result _ _ (λ all is. is ∙ asks_again (take c.count_ahead-count.result c.args.locks.now)
    ∙ ap asks (sym c.count_ahead-count.ensures.ahead)) c.asks_of.ensures
