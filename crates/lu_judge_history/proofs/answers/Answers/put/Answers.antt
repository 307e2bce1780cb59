-- The answer is put at its key, or nothing is there any longer.
use Rattle.lu_judge_history.proofs.Keys.{at_key}
use Rattle.lu_judge_history.proofs.answers.Answers.put.Goals as goal

pub returns-in_ok-insert-in-Some : goal.returns-in_ok-insert-in-Some
returns-in_ok-insert-in-Some c = record {
  put = λ turn w x. rw c.in-Some.is (at_key _ _ _ _ _ (c.in_ok-insert-in-Some.ensures.updates.0 ((turn.stamp.0, (w.client, w.life)), x)));
}

pub returns-in-None : goal.returns-in-None
returns-in-None c = record {
  put = λ turn w x. rw c.in-None.is (at_key _ _ _ _ _
      (c.remove.ensures.updates.0 ((turn.stamp.0, (w.client, w.life)), x)));
}
