use Rattle.std.proofs.Common.{refl}
use Rattle.lu_judge_locks.proofs.locks.Locks.new.Goals as goal

pub returns-clause-shows : goal.returns-clause-shows
returns-clause-shows c = record {
  place = refl;
  ledger = c.new.ensures.shows;
  windows = c.new-2.ensures.shows;
  contents = c.in_ok-new.ensures.shows;
  held = c.new-4.ensures.shows;
  queues = c.new-5.ensures.shows;
  acts = c.new-6.ensures.shows;
}
