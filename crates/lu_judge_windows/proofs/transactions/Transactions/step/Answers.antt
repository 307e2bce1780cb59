use Rattle.std.proofs.Common.{refl}
use Rattle.std.specs.Prelude.{◌==◌}
use Rattle.lu_spec_laws.specs.Words.Lost.{Transaction, transactions}
use Rattle.lu_judge_windows.specs.Transactions.{transactions_in}
use Rattle.lu_judge_windows.proofs.Listed.{pushed}
use Rattle.lu_judge_windows.proofs.Tests.{any_put}
use Rattle.lu_judge_windows.proofs.transactions.Transactions.step.Goals as goal

pub returns-in_ok-insert-in-Target : goal.returns-in_ok-insert-in-Target
returns-in_ok-insert-in-Target c = record {
  shows = λ past shown. rw (c.in-Txn.is, c.in-Target.is) (record {
    all = λ t. pushed c.in-Target.target _ (transactions_in c.args.self.now) (transactions_in c.push.new.self) (λ k. transactions k past)
        c.in_ok-push-in-Target.ensures.pushed shown.all t;
    has = λ t n.
        any_put (λ (x : Transaction). x.number == n) (c.in-Target.target == t)
        (record { number = c.in-Txn.txn.0; who = c.in-Txn.who; seen = c.in-Txn.seen }) (transactions t past) _ _ _
        (c.in_ok-insert-in-Target.ensures.updates.0 (t, n)) (shown.has t n) (rw c.in_ok-push-in-Target.ensures.same refl);
  });
}
