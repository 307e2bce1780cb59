-- What the words so far say.
use Rattle.std.proofs.Common.{◌≡◌, map, take, Some}
use Rattle.std.specs.Prelude.{All}
use Rattle.lu_trace.specs.WellFormed.{IsReplyLock}
use Rattle.lu_judge_reader.specs.Lists.{all_of, lock_of}
use Rattle.lu_judge_reader.proofs.lists.all_locks.Given as goal

abbrev pub invariant-loop-word : goal.invariant-loop-word
invariant-loop-word l = (all_of (lock_of l.who) (map (λ word. word.now) (take l.word-index l.words)) ≡ Some l.locks)
    × All (IsReplyLock l.who) l.locks
