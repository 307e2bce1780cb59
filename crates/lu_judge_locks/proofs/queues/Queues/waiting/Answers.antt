-- What lasts on the resource is what waits there.
use Rattle.std.proofs.Common.{◌∙◌, sym, ap}
use Rattle.std.proofs.lemmas.Result.{IfOk-weaker}
use Rattle.lu_judge_locks.proofs.Notions.{locks, waiting_on}
use Rattle.lu_judge_locks.proofs.Stepped.{locks_again}
use Rattle.lu_judge_locks.proofs.queues.Queues.waiting.Goals as goal

pub returns : goal.returns
returns c = record {
  waiting =
      IfOk-weaker c.on.result _ _
      (λ all is. λ past shown.
      locks_again all.items ∙ ap locks (is ∙ shown.waiting.lists.lists c.args.target c.args.resource)
      ∙ sym (waiting_on c.args.target c.args.resource past))
      c.on.ensures;
}
