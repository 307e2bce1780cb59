-- Nothing is in it.
use Rattle.std.proofs.Common.{refl, arith}
use Rattle.lu_judge_locks.proofs.lists.LockLists.new.Goals as goal

pub returns : goal.returns
returns c = record {
  bounded = record {
    targets = λ t. rw c.new.ensures.empty (omega arith);
    cookies = λ t cookie. rw c.new-2.ensures.empty (omega arith);
    lives = λ t who. rw c.new-3.ensures.empty (omega arith);
    single = λ t one is. let no = rw c.new-4.ensures.empty at is in absurd (cc);
  };
  lists = λ t resource. rw c.new-5.ensures.empty refl;
}
