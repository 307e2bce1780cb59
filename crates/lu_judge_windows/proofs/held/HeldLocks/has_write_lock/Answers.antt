-- A life's list of write locks is empty exactly where it holds none.
use Rattle.lu_judge_windows.proofs.Opposed.{written}
use Rattle.lu_judge_windows.proofs.held.HeldLocks.has_write_lock.Goals as goal

pub returns : goal.returns
returns c = record { holds = λ past shown. written c.args.self.now past c.args.who shown c.has_write.result c.has_write.ensures }
