-- No lock is there.
use Rattle.lu_judge_locks.proofs.Lasting.{empty_shown}
use Rattle.lu_judge_locks.proofs.queues.Queues.new.Goals as goal

pub returns : goal.returns
returns c = record { shows = record { granted = empty_shown c.new.result c.new.ensures; waiting = c.new-2.ensures.shows } }
