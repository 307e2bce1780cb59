use Rattle.lu_judge_glimpse.proofs.locks.Locks.put.Goals as goal

pub returns-in_ok-insert-in-Target : goal.returns-in_ok-insert-in-Target
returns-in_ok-insert-in-Target c = record {
  shows = λ target cookie. rw c.in-Target.is (c.in_ok-insert-in-Target.ensures.updates.0 (target, cookie));
}
