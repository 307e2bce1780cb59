-- Nothing waits.
use Rattle.std.proofs.Common.{refl, arith}
use Rattle.lu_judge_locks.proofs.Lasting.{empty_shown}
use Rattle.lu_judge_locks.proofs.waiting.Waiting.new.Goals as goal

pub returns : goal.returns
returns c = record {
  shows = record {
    lists = empty_shown c.new.result c.new.ensures;
    past = λ t cookie. rw c.new-2.ensures.empty tt;
    within = λ t cookie. rw (c.new-2.ensures.empty, c.new-3.ensures.empty) (omega arith);
    queues = λ t cookie. rw (c.new-2.ensures.empty, c.new-3.ensures.empty) refl;
  };
}
