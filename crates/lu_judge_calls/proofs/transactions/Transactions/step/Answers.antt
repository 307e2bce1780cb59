use Rattle.lu_judge_calls.proofs.Steps.{number_put}
use Rattle.lu_judge_calls.proofs.transactions.Transactions.step.Goals as goal

pub returns-in_ok-insert-in-Target : goal.returns-in_ok-insert-in-Target
returns-in_ok-insert-in-Target c = record {
  shows = λ past shown at who x.
      rw c.in-Txn.is
      (number_put c.in-Target.target c.args.line.now.at.node at.node _ _ _ c.in-Txn.txn _ _ _ c.in-Target.is c.if-target-eq0.true
      (c.in_ok-insert-in-Target.ensures.updates.0 (at.stamp.0, ((who.client, who.life), x))) (shown at who x));
}
